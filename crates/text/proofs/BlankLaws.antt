-- Which ranges the bytes of blanks lie in, and that a blank at either end is found there (`blank_front`, `blank_back`).
-- Other laws of blanks: BlankStripLaws, BlankTrimLaws, BlankWhiteLaws; the code's steps: BlankSteps. Assumes nothing.
use mathlib.Core.Path.{◌≡◌, sym}
use mathlib.Core.Bool.{Bool, true, false, ◌&&◌, ◌||◌, true≢false}
use mathlib.Core.List.{List, [], ◌∷◌, ◌++◌, reverse}
use Prim.Native.Nat.{ℕ, ◌<◌, ◌≤◌}
use native.Mathlib.Omega.{arith}
use lib.ListN.{length}
use lib.Dec.{eqb}
use borrow.Author.Tests.{eqb-true, ne_eqb, le-leb, lt-leb}
use Rattle.text.specs.Utf8.{within, parts, whole}
use Rattle.text.specs.Blank.{is_blank1, is_blank2, is_blank3, is_blank, size_of, back}
use Rattle.text.proofs.BoolLaws.{or_cases, and_both, test, within_low, within_high}
use Rattle.text.proofs.Utf8WholeLaws.{Whole, one, two, three, whole_complete, parts_whole}

-- the ranges that the bytes of a blank lie in

pub blank1_lt : (a : ℕ) → is_blank1 a ≡ true → a < 128
blank1_lt a h =
    or_cases (within 0x09 0x0d a) (eqb a 0x20)
    (λ e. omega (arith, within_high 0x09 0x0d a e))
    (λ e. omega (arith, eqb-true a 0x20 e)) h

pub blank1_none : (a : ℕ) → 128 ≤ a → is_blank1 a ≡ false
blank1_none a h = test (is_blank1 a) (λ e. absurd (omega (arith, blank1_lt a e))) (λ e. e)

pub record Two (a b : ℕ) : Type 0 where
  pub first : a ≡ 194
  pub low : 128 ≤ b
  pub high : b ≤ 191

pub blank2_two : (a b : ℕ) → is_blank2 a b ≡ true → Two a b
blank2_two a b h =
    let k = and_both (eqb a 0xc2) (eqb b 0x85 || eqb b 0xa0) h in
    let e = eqb-true a 0xc2 k.0 in
    or_cases (eqb b 0x85) (eqb b 0xa0)
    (λ z. let y = eqb-true b 0x85 z in record { first = e; low = omega arith; high = omega arith })
    (λ z. let y = eqb-true b 0xa0 z in record { first = e; low = omega arith; high = omega arith }) k.1

pub blank2_none : (a b : ℕ) → (a ≡ 194 → ⊥) → is_blank2 a b ≡ false
blank2_none a b h = simp (ne_eqb a 194 h)

pub record Three (a b c : ℕ) : Type 0 where
  pub low : 225 ≤ a
  pub high : a ≤ 227
  pub low2 : 128 ≤ b
  pub high2 : b ≤ 154
  pub low3 : 128 ≤ c
  pub high3 : c ≤ 175

-- one of the four rows of isBlank3
row : (a b c x y : ℕ) (t : Bool) → 225 ≤ x → x ≤ 227 → 128 ≤ y → y ≤ 154 → (t ≡ true → (128 ≤ c) × (c ≤ 175)) → (eqb a x && eqb b y && t) ≡ true → Three a b c
row a b c x y t p q r s f h =
    let k = and_both (eqb a x && eqb b y) t h in
    let l = and_both (eqb a x) (eqb b y) k.0 in
    let d = eqb-true a x l.0 in
    let e = eqb-true b y l.1 in
    let g = f k.1 in
    record { low = omega arith; high = omega arith; low2 = omega arith; high2 = omega arith; low3 = g.0; high3 = g.1 }

-- a last byte that is known
just : (c y : ℕ) → 128 ≤ y → y ≤ 175 → eqb c y ≡ true → (128 ≤ c) × (c ≤ 175)
just c y p q e = let z = eqb-true c y e in (omega arith, omega arith)

-- the last bytes after e2 80
general : (c : ℕ) → (within 0x80 0x8a c || eqb c 0xa8 || eqb c 0xa9 || eqb c 0xaf) ≡ true → (128 ≤ c) × (c ≤ 175)
general c h =
    or_cases (within 0x80 0x8a c || eqb c 0xa8 || eqb c 0xa9) (eqb c 0xaf)
    (or_cases (within 0x80 0x8a c || eqb c 0xa8) (eqb c 0xa9)
    (or_cases (within 0x80 0x8a c) (eqb c 0xa8)
    (λ e. let l = within_low 0x80 0x8a c e in let k = within_high 0x80 0x8a c e in (omega arith, omega arith))
    (just c 0xa8 (omega arith) (omega arith)))
    (just c 0xa9 (omega arith) (omega arith)))
    (just c 0xaf (omega arith) (omega arith)) h

pub blank3_three : (a b c : ℕ) → is_blank3 a b c ≡ true → Three a b c
blank3_three a b c h =
    let r1 = eqb a 0xe1 && eqb b 0x9a && eqb c 0x80 in
    let t2 = within 0x80 0x8a c || eqb c 0xa8 || eqb c 0xa9 || eqb c 0xaf in
    let r2 = eqb a 0xe2 && eqb b 0x80 && t2 in
    let r3 = eqb a 0xe2 && eqb b 0x81 && eqb c 0x9f in
    let r4 = eqb a 0xe3 && eqb b 0x80 && eqb c 0x80 in
    or_cases (r1 || r2 || r3) r4
    (or_cases (r1 || r2) r3
    (or_cases r1 r2
    (row a b c 0xe1 0x9a (eqb c 0x80) (omega arith) (omega arith) (omega arith) (omega arith) (just c 0x80 (omega arith) (omega arith)))
    (row a b c 0xe2 0x80 t2 (omega arith) (omega arith) (omega arith) (omega arith) (general c)))
    (row a b c 0xe2 0x81 (eqb c 0x9f) (omega arith) (omega arith) (omega arith) (omega arith) (just c 0x9f (omega arith) (omega arith))))
    (row a b c 0xe3 0x80 (eqb c 0x80) (omega arith) (omega arith) (omega arith) (omega arith) (just c 0x80 (omega arith) (omega arith))) h

-- a blank is a whole sequence, and so a part of its own

blank→whole : (w : List ℕ) → is_blank w ≡ true → Whole w
blank→whole [] h = absurd (true≢false (sym h))
blank→whole (a ∷ []) h = one a (blank1_lt a h)
blank→whole (a ∷ b ∷ []) h = let k = blank2_two a b h in two a b (omega arith) (omega arith) (omega arith) (omega arith)
blank→whole (a ∷ b ∷ c ∷ []) h =
    let k = blank3_three a b c h in
    three a b c (omega arith) (omega arith) (λ e. absurd (omega arith)) (λ e. absurd (omega arith)) (omega arith) (omega arith) (omega arith) (omega arith)
blank→whole (a ∷ b ∷ c ∷ d ∷ s) h = absurd (true≢false (sym h))

pub blank_part : (w t : List ℕ) → is_blank w ≡ true → parts (w ++ t) ≡ w ∷ parts t
blank_part w t h = parts_whole t (blank→whole w h)

pub blank_whole : (w : List ℕ) → is_blank w ≡ true → whole w ≡ true
blank_whole w h = whole_complete (blank→whole w h)

-- the first byte of a blank goes on with no sequence
pub blank_head : (b : ℕ) (s : List ℕ) → is_blank (b ∷ s) ≡ true → within 128 191 b ≡ false
blank_head a [] h = simp (lt-leb 128 a (blank1_lt a h))
blank_head a (b ∷ []) h = let k = blank2_two a b h in simp (lt-leb a 191 (omega arith), le-leb 128 a (omega arith))
blank_head a (b ∷ c ∷ []) h = let k = blank3_three a b c h in simp (lt-leb a 191 (omega arith), le-leb 128 a (omega arith))
blank_head a (b ∷ c ∷ d ∷ s) h = absurd (true≢false (sym h))

-- a blank at the front is found, and at the end

pub blank_front : (w t : List ℕ) → is_blank w ≡ true → size_of is_blank (w ++ t) ≡ length w
blank_front [] t h = absurd (true≢false (sym h))
blank_front (a ∷ []) t h = simp h
blank_front (a ∷ b ∷ []) t h = let k = blank2_two a b h in simp (blank1_none a (omega arith), h)
blank_front (a ∷ b ∷ c ∷ []) t h = let k = blank3_three a b c h in simp (blank1_none a (omega arith), blank2_none a b (λ z. omega arith), h)
blank_front (a ∷ b ∷ c ∷ d ∷ s) t h = absurd (true≢false (sym h))

pub blank_back : (w t : List ℕ) → is_blank w ≡ true → size_of (back is_blank) (reverse w ++ t) ≡ length w
blank_back [] t h = absurd (true≢false (sym h))
blank_back (a ∷ []) t h = simp h
blank_back (a ∷ b ∷ []) t h = let k = blank2_two a b h in simp (blank1_none b (omega arith), h)
blank_back (a ∷ b ∷ c ∷ []) t h = let k = blank3_three a b c h in simp (blank1_none c (omega arith), blank2_none b c (λ z. omega arith), h)
blank_back (a ∷ b ∷ c ∷ d ∷ s) t h = absurd (true≢false (sym h))
