-- What holds of every byte, by one test that antt computes at each of them (`bytes`); so the table's rule (`said`).
-- Assumes nothing.
use mathlib.Core.Path.{◌≡◌, refl, subst, sym}
use mathlib.Core.Bool.{Bool, true, false, not, cond}
use Prim.Native.Nat.{ℕ, zero, suc, ◌*◌, ◌/◌, ◌%◌, ◌^◌, ◌<◌}
use native.Mathlib.Omega.{arith}
use native.Mathlib.Nat.{not-suc-le-zero}
use lib.Bits.{bit_and}
use lib.Dec.{T, eqb}
use borrow.Author.Tests.{eqb-true, eqb-false}
use Rattle.text.proofs.BoolLaws.{test}
use Rattle.byte_classes.specs.Classes.{is_of, class_of, row_from, row_of}

abbrev both : Bool → Bool → Bool
both true b = b
both false b = false

both_left : (a b : Bool) → T (both a b) → T a
both_left true b t = tt
both_left false b t = t

both_right : (a b : Bool) → T (both a b) → T b
both_right true b t = t
both_right false b t = absurd t

-- the test f passes at each number below n
abbrev pub below : (ℕ → Bool) → ℕ → Bool
below f zero = true
below f (suc n) = both (f n) (below f n)

below_at : (f : ℕ → Bool) (n : ℕ) → T (below f n) → (k : ℕ) → k < n → T (f k)
below_at f zero t k h = absurd (not-suc-le-zero h)
below_at f (suc n) t k h =
    test (eqb k n)
    (λ e. subst (λ (m : ℕ). T (f m)) (sym (eqb-true k n e)) (both_left (f n) (below f n) t))
    (λ e. below_at f n (both_right (f n) (below f n) t) k (let d = eqb-false k n e in omega arith))

-- two tests that agree
abbrev pub agree : Bool → Bool → Bool
agree true b = b
agree false b = not b

agreed : (a b : Bool) → T (agree a b) → a ≡ b
agreed true true t = refl
agreed true false t = absurd t
agreed false true t = absurd t
agreed false false t = refl

-- two tests that agree at all bytes are equal there
pub bytes : (p q : ℕ → Bool) → T (below (λ b. agree (p b) (q b)) 256) → (b : ℕ) → b < 256 → p b ≡ q b
bytes p q t b h = agreed (p b) (q b) (below_at (λ b. agree (p b) (q b)) 256 t b h)

-- a row, shifted by k, has the lowest bit at the place of b
abbrev pub placed : ℕ → ℕ → Bool
placed x b = cond (eqb x 0) false (not (eqb (bit_and (x / 2 ^ (4 * (b % 16))) 1) 0))

-- what a look into the table says
abbrev pub said : ℕ → ℕ → Bool
said k b = placed (bit_and (row_of (b / 16) / 2 ^ k) 0x1111111111111111) b

-- the rule: at each of the 256 bytes the table has exactly its classes
pub rule : (k b : ℕ) → k < 4 → b < 256 → said k b ≡ is_of k b
unfolding class_of row_from
rule zero b l h = bytes (said 0) (is_of 0) tt b h
rule (suc zero) b l h = bytes (said 1) (is_of 1) tt b h
rule (suc (suc zero)) b l h = bytes (said 2) (is_of 2) tt b h
rule (suc (suc (suc zero))) b l h = bytes (said 3) (is_of 3) tt b h
rule (suc (suc (suc (suc k)))) b l h = absurd (omega arith)
