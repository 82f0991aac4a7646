-- The well-formed sequences of Unicode's table are the parts that `whole` holds of: every such part stands in the table
-- (`whole_sound`), every sequence of the table is one (`whole_complete`, `parts_whole`). See Utf8Laws. Assumes nothing.
use mathlib.Core.Path.{◌≡◌, refl, sym, ap, ◌∙◌, subst}
use mathlib.Core.Bool.{true}
use mathlib.Core.List.{List, [], ◌∷◌, ◌++◌}
use Prim.Native.Nat.{ℕ, suc, ◌-◌, ◌<◌, ◌≤◌}
use native.Mathlib.Omega.{arith}
use lib.ListN.{length, take}
use lib.Seq.{length-take-le}
use lib.Dec.{eqb, ltb}
use borrow.Author.Tests.{eqb-true, ltb-true, le-ltb, le-leb, lt-leb}
use Rattle.text.specs.Utf8.{within, need, low, high, run, more, parts, whole}
use Rattle.text.proofs.BoolLaws.{test, within_true, within_low, within_high}
use Rattle.text.proofs.Utf8Laws.{more_le, low_ge, high_le, need_ascii, parts_ascii, part_is}

-- the well-formed sequences, as the table of Unicode has them: the second byte is bounded by a0 after e0, 9f after ed,
-- 90 after f0, 8f after f4
pub data Whole : List ℕ → Type 0 where
  one : (a : ℕ) → a < 128 → Whole (a ∷ [])
  two : (a b : ℕ) → 194 ≤ a → a ≤ 223 → 128 ≤ b → b ≤ 191 → Whole (a ∷ b ∷ [])
  three : (a b c : ℕ) → 224 ≤ a → a ≤ 239 → (a ≡ 224 → 160 ≤ b) → (a ≡ 237 → b ≤ 159) → 128 ≤ b → b ≤ 191 → 128 ≤ c → c ≤ 191 → Whole (a ∷ b ∷ c ∷ [])
  four : (a b c d : ℕ) → 240 ≤ a → a ≤ 244 → (a ≡ 240 → 144 ≤ b) → (a ≡ 244 → b ≤ 143) → 128 ≤ b → b ≤ 191 → 128 ≤ c → c ≤ 191 → 128 ≤ d → d ≤ 191 → Whole (a ∷ b ∷ c ∷ d ∷ [])

-- every part that `whole` holds of stands in the table

-- which length a first byte asks for
data Need (a : ℕ) : Type 0 where
  need0 : need a ≡ 0 → Need a
  need1 : a < 128 → need a ≡ 1 → Need a
  need2 : 194 ≤ a → a ≤ 223 → need a ≡ 2 → Need a
  need3 : 224 ≤ a → a ≤ 239 → need a ≡ 3 → Need a
  need4 : 240 ≤ a → a ≤ 244 → need a ≡ 4 → Need a

need_view : (a : ℕ) → Need a
unfolding need
need_view a =
    test (ltb a 128)
    (λ e. need1 (ltb-true a 128 e) (simp e))
    (λ d. test (within 194 223 a)
    (λ e. need2 (within_low 194 223 a e) (within_high 194 223 a e) (simp (d, e)))
    (λ f. test (within 224 239 a)
    (λ e. need3 (within_low 224 239 a e) (within_high 224 239 a e) (simp (d, f, e)))
    (λ g. test (within 240 244 a)
    (λ e. need4 (within_low 240 244 a e) (within_high 240 244 a e) (simp (d, f, g, e)))
    (λ e. need0 (simp (d, f, g, e))))))

-- a run that is complete, byte by byte
data Goes (lo hi n : ℕ) (t : List ℕ) : Type 0 where
  goes : (b : ℕ) (r : List ℕ) → t ≡ b ∷ r → lo ≤ b → b ≤ hi → run 128 191 n r ≡ n → Goes lo hi n t

run_goes : (lo hi n : ℕ) (t : List ℕ) → run lo hi (suc n) t ≡ suc n → Goes lo hi n t
run_goes lo hi n [] h = absurd (omega arith)
run_goes lo hi n (b ∷ r) h =
    test (within lo hi b)
    (λ e. let k : suc (run 128 191 n r) ≡ suc n = simp e at h in goes b r refl (within_low lo hi b e) (within_high lo hi b e) (omega arith))
    (λ e. let k : ◌≡◌ {A = ℕ} 0 (suc n) = simp e at h in absurd (omega arith))

whole2 : (a : ℕ) (t : List ℕ) → 194 ≤ a → a ≤ 223 → Goes (low a) (high a) 0 t → Whole (a ∷ take 1 t)
whole2 a t p q (goes b r e l h k) = let x = low_ge a in let y = high_le a in rw e (two a b p q (omega arith) (omega arith))

third : (a b : ℕ) (r : List ℕ) → 224 ≤ a → a ≤ 239 → low a ≤ b → b ≤ high a → Goes 128 191 0 r → Whole (a ∷ b ∷ take 1 r)
unfolding low high
third a b r p q l h (goes c u e v w z) =
    let x = low_ge a in let y = high_le a in
    rw e (three a b c p q (λ k. let j : low a ≡ 160 = ap low k in omega arith) (λ k. let j : high a ≡ 159 = ap high k in omega arith) (omega arith) (omega arith) v w)

whole3 : (a : ℕ) (t : List ℕ) → 224 ≤ a → a ≤ 239 → Goes (low a) (high a) 1 t → Whole (a ∷ take 2 t)
whole3 a t p q (goes b r e l h k) = rw e (third a b r p q l h (run_goes 128 191 0 r k))

fourth : (a b c : ℕ) (r : List ℕ) → 240 ≤ a → a ≤ 244 → low a ≤ b → b ≤ high a → 128 ≤ c → c ≤ 191 → Goes 128 191 0 r → Whole (a ∷ b ∷ c ∷ take 1 r)
unfolding low high
fourth a b c r p q l h i j (goes d u e v w z) =
    let x = low_ge a in let y = high_le a in
    rw e (four a b c d p q (λ k. let m : low a ≡ 144 = ap low k in omega arith) (λ k. let m : high a ≡ 143 = ap high k in omega arith) (omega arith) (omega arith) i j v w)

third_of_four : (a b : ℕ) (r : List ℕ) → 240 ≤ a → a ≤ 244 → low a ≤ b → b ≤ high a → Goes 128 191 1 r → Whole (a ∷ b ∷ take 2 r)
third_of_four a b r p q l h (goes c u e v w z) = rw e (fourth a b c u p q l h v w (run_goes 128 191 0 u z))

whole4 : (a : ℕ) (t : List ℕ) → 240 ≤ a → a ≤ 244 → Goes (low a) (high a) 2 t → Whole (a ∷ take 3 t)
whole4 a t p q (goes b r e l h k) = rw e (third_of_four a b r p q l h (run_goes 128 191 1 r k))

-- a part that needs n bytes more and has them
filled : (a : ℕ) (t : List ℕ) (n : ℕ) → need a ≡ suc n → whole (a ∷ take (more a t) t) ≡ true → more a t ≡ n
filled a t n e h =
    let l = length-take-le (more a t) t (more_le a t) in
    let k = eqb-true (suc (length (take (more a t) t))) (need a) h in
    omega arith

full : (a : ℕ) (t : List ℕ) (n : ℕ) → need a ≡ suc n → more a t ≡ n → run (low a) (high a) n t ≡ n
full a t n e h = let x : need a - 1 ≡ n = omega arith in ap (λ (i : ℕ). run (low a) (high a) i t) (sym x) ∙ h

sound_by : (a : ℕ) (t : List ℕ) → Need a → whole (a ∷ take (more a t) t) ≡ true → Whole (a ∷ take (more a t) t)
sound_by a t (need0 e) h = let k = eqb-true (suc (length (take (more a t) t))) (need a) h in absurd (omega arith)
sound_by a t (need1 p e) h = let m = filled a t 0 e h in subst (λ (i : ℕ). Whole (a ∷ take i t)) (sym m) (one a p)
sound_by a t (need2 p q e) h = let m = filled a t 1 e h in subst (λ (i : ℕ). Whole (a ∷ take i t)) (sym m) (whole2 a t p q (run_goes (low a) (high a) 0 t (full a t 1 e m)))
sound_by a t (need3 p q e) h = let m = filled a t 2 e h in subst (λ (i : ℕ). Whole (a ∷ take i t)) (sym m) (whole3 a t p q (run_goes (low a) (high a) 1 t (full a t 2 e m)))
sound_by a t (need4 p q e) h = let m = filled a t 3 e h in subst (λ (i : ℕ). Whole (a ∷ take i t)) (sym m) (whole4 a t p q (run_goes (low a) (high a) 2 t (full a t 3 e m)))

-- the part that stands first in a ∷ t
pub whole_sound : (a : ℕ) (t : List ℕ) → whole (a ∷ take (more a t) t) ≡ true → Whole (a ∷ take (more a t) t)
whole_sound a t h = sound_by a t (need_view a) h

-- complete

need_two : (a : ℕ) → 194 ≤ a → a ≤ 223 → need a ≡ 2
unfolding need
need_two a p q = simp (le-ltb a 128 (omega arith), within_true 194 223 a p q)

need_three : (a : ℕ) → 224 ≤ a → a ≤ 239 → need a ≡ 3
unfolding need
need_three a p q = simp (le-ltb a 128 (omega arith), within_true 224 239 a p q, lt-leb a 223 (omega arith), le-leb 194 a (omega arith))

need_four : (a : ℕ) → 240 ≤ a → a ≤ 244 → need a ≡ 4
unfolding need
need_four a p q = simp (le-ltb a 128 (omega arith), within_true 240 244 a p q, lt-leb a 223 (omega arith), le-leb 194 a (omega arith), lt-leb a 239 (omega arith), le-leb 224 a (omega arith))

low_le : (a b : ℕ) → (a ≡ 224 → 160 ≤ b) → (a ≡ 240 → 144 ≤ b) → 128 ≤ b → low a ≤ b
unfolding low
low_le a b p q r =
    test (eqb a 224)
    (λ e. simp e (p (eqb-true a 224 e)))
    (λ e. test (eqb a 240) (λ f. simp (e, f) (q (eqb-true a 240 f))) (λ f. simp (e, f) r))

high_ge : (a b : ℕ) → (a ≡ 237 → b ≤ 159) → (a ≡ 244 → b ≤ 143) → b ≤ 191 → b ≤ high a
unfolding high
high_ge a b p q r =
    test (eqb a 237)
    (λ e. simp e (p (eqb-true a 237 e)))
    (λ e. test (eqb a 244) (λ f. simp (e, f) (q (eqb-true a 244 f))) (λ f. simp (e, f) r))

pub whole_complete : {w : List ℕ} → Whole w → whole w ≡ true
whole_complete (one a p) = rw (need_ascii a p)
whole_complete (two a b p q x y) = rw (need_two a p q)
whole_complete (three a b c p q l h x y z w) = rw (need_three a p q)
whole_complete (four a b c d p q l h x y z w u v) = rw (need_four a p q)

-- a sequence is a part, whatever follows it
pub parts_whole : {w : List ℕ} (r : List ℕ) → Whole w → parts (w ++ r) ≡ w ∷ parts r
parts_whole r (one a p) = parts_ascii a r p
parts_whole r (two a b p q x y) =
    let g = within_true (low a) (high a) b (low_le a b (λ e. absurd (omega arith)) (λ e. absurd (omega arith)) x) (high_ge a b (λ e. absurd (omega arith)) (λ e. absurd (omega arith)) y) in
    part_is a (b ∷ []) r (rw (need_two a p q) (simp g))
parts_whole r (three a b c p q l h x y z w) =
    let g = within_true (low a) (high a) b (low_le a b l (λ e. absurd (omega arith)) x) (high_ge a b h (λ e. absurd (omega arith)) y) in
    part_is a (b ∷ c ∷ []) r (rw (need_three a p q) (simp (g, within_true 128 191 c z w)))
parts_whole r (four a b c d p q l h x y z w u v) =
    let g = within_true (low a) (high a) b (low_le a b (λ e. absurd (omega arith)) l x) (high_ge a b (λ e. absurd (omega arith)) h y) in
    part_is a (b ∷ c ∷ d ∷ []) r (rw (need_four a p q) (simp (g, within_true 128 191 c z w, within_true 128 191 d u v)))
