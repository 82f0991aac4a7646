-- Orders, distances and closed intervals over the integers; rectangles touch just where they share a point (01, "What
-- lies where"). Assumes nothing.
use mathlib.Core.Path.{◌≡◌, refl, sym, ap, ◌∙◌}
use mathlib.Core.Bool.{Bool, true, false, ◌&&◌, ◌||◌, true≢false}
use Prim.Native.Nat.{ℕ, zero, suc, ◌<◌}
use native.Mathlib.Omega.{arith}
use lib.Dec.{T}
use lib.IntN.{ℤ, pos, negsuc, neg_ℤ, nat_abs, ◌+ℤ◌, ◌-ℤ◌, neg_ℤ-neg_ℤ, neg_ℤ-+ℤ, +ℤ_comm}
use lib.Signed.{mag, lt_z, le_z, non_neg, nat_abs-le}
use mir.Syntax.{w64}
use mir.Val.{Fits, to_z, of_z}
use borrow.Author.Tests.{ltb-true, ltb-false, le-ltb, leb-true, le-leb}
use Rattle.text.proofs.BoolLaws.{and_both, test}
use Rattle.numbers.proofs.IntLaws.{back64}
use Rattle.where_element.specs.Place.{between, meet, apart, is_turned, is_touching, Shared}
use Rattle.where_element.specs.declared.place.Rectangle.{Rectangle}

-- ---- the order

pub lt_le : (a b : ℤ) → lt_z a b ≡ true → le_z a b ≡ true
lt_le (pos a) (pos b) h = le-leb a b (omega (arith, ltb-true a b h))
lt_le (pos a) (negsuc b) h = h
lt_le (negsuc a) (pos b) h = refl
lt_le (negsuc a) (negsuc b) h = le-leb b a (omega (arith, ltb-true b a h))

pub not_lt : (a b : ℤ) → lt_z a b ≡ false → le_z b a ≡ true
not_lt (pos a) (pos b) h = le-leb b a (ltb-false a b h)
not_lt (pos a) (negsuc b) h = refl
not_lt (negsuc a) (pos b) h = sym h
not_lt (negsuc a) (negsuc b) h = le-leb a b (ltb-false b a h)

pub le_trans : (a b c : ℤ) → le_z a b ≡ true → le_z b c ≡ true → le_z a c ≡ true
le_trans (pos a) (pos b) (pos c) p q = le-leb a c (omega (arith, leb-true a b p, leb-true b c q))
le_trans (pos a) (pos b) (negsuc c) p q = q
le_trans (pos a) (negsuc b) c p q = cc
le_trans (negsuc a) b (pos c) p q = refl
le_trans (negsuc a) (pos b) (negsuc c) p q = cc
le_trans (negsuc a) (negsuc b) (negsuc c) p q = le-leb c a (omega (arith, leb-true b a p, leb-true c b q))

pub le_self : (a : ℤ) → le_z a a ≡ true
le_self (pos a) = le-leb a a (omega arith)
le_self (negsuc a) = le-leb a a (omega arith)

-- ---- distances

abs_neg : (z : ℤ) → nat_abs (neg_ℤ z) ≡ nat_abs z
abs_neg (pos zero) = refl
abs_neg (pos (suc n)) = refl
abs_neg (negsuc n) = refl

pub apart_comm : (a b : ℤ) → apart a b ≡ apart b a
apart_comm a b =
    sym (abs_neg (a -ℤ b)) ∙ ap nat_abs (neg_ℤ-+ℤ a (neg_ℤ b) ∙ ap (λ (z : ℤ). neg_ℤ a +ℤ z) (neg_ℤ-neg_ℤ b) ∙ +ℤ_comm (neg_ℤ a) b)

ahead : (a b : ℤ) → le_z b a ≡ true → T (non_neg (a -ℤ b))
ahead (pos a) (pos zero) h = tt
ahead (pos a) (pos (suc b)) h = simp (le-ltb a (suc b) (leb-true (suc b) a h)) tt
ahead (pos a) (negsuc b) h = tt
ahead (negsuc a) (pos b) h = let k : ◌≡◌ {A = ℕ} 0 1 = cc in absurd (omega arith)
ahead (negsuc a) (negsuc b) h = simp (le-ltb (suc b) (suc a) (omega (arith, leb-true a b h))) tt

-- a difference that is not below 0, as the machine casts it
pub record Ahead (a b d : ℤ) : Type 0 where
  pub casts : T (non_neg (to_z w64 (of_z w64 d))) × Fits w64 (nat_abs (to_z w64 (of_z w64 d)))
  pub is : nat_abs (to_z w64 (of_z w64 d)) ≡ apart a b

pub ahead_of : (a b d : ℤ) → le_z b a ≡ true → mag d < 9223372036854775808 → d ≡ a -ℤ b → Ahead a b d
ahead_of a b d h m e =
    let n : T (non_neg d) = rw e (ahead a b h) in
    record {
      casts = rw (back64 d m) (n, record { fits = omega (arith, nat_abs-le d m) });
      is = ap nat_abs (back64 d m ∙ e);
    }

-- ---- what touches shares a point

or_none : (x y : Bool) → (x || y) ≡ false → (x ≡ false) × (y ≡ false)
or_none true y h = absurd (true≢false h)
or_none false y h = (refl, h)

both : (x y : Bool) → x ≡ true → y ≡ true → (x && y) ≡ true
both x y p q = simp (p, q)

-- intervals that meet have a point in common: the later of the two starts
module _ (a b c d : ℤ) where
  meet_parts : meet a b c d ≡ true → (le_z a b ≡ true) × (le_z a d ≡ true) × (le_z c b ≡ true)
  meet_parts h =
      let m = and_both (le_z a b && le_z a d) (le_z c b) h in
      let k = and_both (le_z a b) (le_z a d) m.0 in
      (k.0, k.1, m.1)

  pub meet_shares : le_z c d ≡ true → meet a b c d ≡ true → (z : ℤ) × ((between a b z ≡ true) × (between c d z ≡ true))
  meet_shares other h =
      let m = meet_parts h in
      test (lt_z a c)
      (λ e. (c, (both (le_z a c) (le_z c b) (lt_le a c e) m.2, both (le_z c c) (le_z c d) (le_self c) other)))
      (λ e. (a, (both (le_z a a) (le_z a b) (le_self a) m.0, both (le_z c a) (le_z a d) (not_lt a c e) m.1)))

  pub shares_meet : (z : ℤ) → between a b z ≡ true → between c d z ≡ true → meet a b c d ≡ true
  shares_meet z p q =
      let k = and_both (le_z a z) (le_z z b) p in
      let l = and_both (le_z c z) (le_z z d) q in
      both (le_z a b && le_z a d) (le_z c b) (both (le_z a b) (le_z a d) (le_trans a z b k.0 k.1) (le_trans a z d k.0 l.1)) (le_trans c z b l.0 k.1)

module _ (x y w h : ℤ) (r : Rectangle) where
  pub touching_shared : is_turned r ≡ false → is_touching x y w h r ≡ true → Shared x y w h r
  touching_shared p t =
      let k = or_none (lt_z r.x2 r.x1) (lt_z r.y2 r.y1) p in
      let m = and_both (meet x (x +ℤ w) r.x1 r.x2) (meet y (y +ℤ h) r.y1 r.y2) t in
      let across = meet_shares x (x +ℤ w) r.x1 r.x2 (not_lt r.x2 r.x1 k.0) m.0 in
      let down = meet_shares y (y +ℤ h) r.y1 r.y2 (not_lt r.y2 r.y1 k.1) m.1 in
      record {
        at = record { x = across.0; y = down.0 };
        own = both (between x (x +ℤ w) across.0) (between y (y +ℤ h) down.0) across.1.0 down.1.0;
        other = both (between r.x1 r.x2 across.0) (between r.y1 r.y2 down.0) across.1.1 down.1.1;
      }

  pub shared_touching : Shared x y w h r → is_touching x y w h r ≡ true
  shared_touching s =
      let k = and_both (between x (x +ℤ w) s.at.x) (between y (y +ℤ h) s.at.y) s.own in
      let m = and_both (between r.x1 r.x2 s.at.x) (between r.y1 r.y2 s.at.y) s.other in
      both (meet x (x +ℤ w) r.x1 r.x2) (meet y (y +ℤ h) r.y1 r.y2)
      (shares_meet x (x +ℤ w) r.x1 r.x2 s.at.x k.0 m.0)
      (shares_meet y (y +ℤ h) r.y1 r.y2 s.at.y k.1 m.1)
