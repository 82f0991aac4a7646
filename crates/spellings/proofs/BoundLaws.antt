-- Bounds of what the readers answer: numbers within 32 bits, sizes at least 1, clamped numbers within their limits.
-- Assumes nothing.
use mathlib.Core.Path.{◌≡◌, refl}
use mathlib.Core.Bool.{Bool, true, false, cond, true≢false, ◌&&◌}
use mathlib.Core.List.{List, [], ◌∷◌}
use mathlib.Core.Option.{Option, none, some}
use Prim.Native.Nat.{ℕ}
use native.Mathlib.Omega.{arith}
use lib.Dec.{eqb, ltb}
use lib.IntN.{ℤ, pos, negsuc, neg_ℤ}
use lib.Signed.{mag, le_z, lt_z}
use borrow.Author.Tests.{ltb-true, ltb-false, le-leb}
use Rattle.text.proofs.BoolLaws.{test}
use Rattle.numbers.specs.Int.{in32, max_z}
use Rattle.numbers.specs.Number.{digits_of, ranged, signed, number_spelled, number_or, field_or}
use Rattle.numbers.specs.declared.number.Number.{Number}
use Rattle.numbers.specs.declared.number.Number.TheVariants.{Value, Empty, NoNumber, Beyond}
use Rattle.parameters.specs.FieldValues.{size_or}
use Rattle.barcodes_2d.specs.Barcode2d.{between}
use Rattle.barcodes_2d.specs.Options.{clamped, clamped_or}
use Rattle.text.specs.Blank.{trim}
use Rattle.spellings.proofs.FieldLaws.{In32}

pub both : {x y : Bool} → x ≡ true → y ≡ true → (x && y) ≡ true
both {x} {y} h g = simp (h, g)

-- numbers that are read have 32 bits

ranged_in : (d z : ℤ) → In32 d → In32 (number_or d (ranged z))
ranged_in d z h = test (in32 z) (λ e. simp e (ltb-true (mag z) 2147483648 e)) (λ e. simp e h)

signed_in : (d : ℤ) (neg : Bool) (o : Option ℕ) → In32 d → In32 (number_or d (signed neg o))
signed_in d neg none h = h
signed_in d neg (some v) h = ranged_in d (cond neg (neg_ℤ (pos v)) (pos v)) h

spelled_in : (d : ℤ) (s : List ℕ) → In32 d → In32 (number_or d (number_spelled s))
unfolding number_spelled
spelled_in d [] h = h
spelled_in d (b ∷ s) h =
    test (eqb b 45)
    (λ e. simp e (signed_in d true (digits_of s) h))
    (λ e. test (eqb b 43) (λ f. simp (e, f) (signed_in d false (digits_of s) h)) (λ f. simp (e, f) (signed_in d false (digits_of (b ∷ s)) h)))

pub number_in : (d : ℤ) (f : List ℕ) → In32 d → In32 (field_or d f)
number_in d f h = spelled_in d (trim f) h

-- sizes are at least 1

pub max_ge : (z : ℤ) → le_z (pos 1) (max_z z (pos 1)) ≡ true
max_ge (pos n) = test (ltb n 1) (λ e. simp e) (λ e. simp e (le-leb 1 n (ltb-false n 1 e)))
max_ge (negsuc n) = refl

pub size_ge : (d : ℤ) (f : List ℕ) → le_z (pos 1) (size_or d f) ≡ true
unfolding size_or
size_ge d f = max_ge (field_or d f)

-- the order on ℤ

pub le_refl : (a : ℤ) → le_z a a ≡ true
le_refl (pos a) = le-leb a a (omega arith)
le_refl (negsuc a) = le-leb a a (omega arith)

pub lt_le : (a b : ℤ) → lt_z a b ≡ true → le_z a b ≡ true
lt_le (pos a) (pos b) h = le-leb a b (omega (arith, ltb-true a b h))
lt_le (pos a) (negsuc b) h = h
lt_le (negsuc a) (pos b) h = refl
lt_le (negsuc a) (negsuc b) h = le-leb b a (omega (arith, ltb-true b a h))

pub not_lt_le : (a b : ℤ) → lt_z a b ≡ false → le_z b a ≡ true
not_lt_le (pos a) (pos b) h = le-leb b a (ltb-false a b h)
not_lt_le (pos a) (negsuc b) h = refl
not_lt_le (negsuc a) (pos b) h = absurd (true≢false h)
not_lt_le (negsuc a) (negsuc b) h = le-leb a b (ltb-false b a h)

-- clamped

pub clamp_between : (lo hi z : ℤ) → le_z lo hi ≡ true → between lo hi (clamped lo hi z) ≡ true
clamp_between lo hi z h =
    test (lt_z z lo)
    (λ e. test (lt_z lo hi) (λ f. simp (e, f) (both (le_refl lo) (lt_le lo hi f))) (λ f. simp (e, f) (both h (le_refl hi))))
    (λ e. test (lt_z z hi) (λ f. simp (e, f) (both (not_lt_le z lo e) (lt_le z hi f))) (λ f. simp (e, f) (both h (le_refl hi))))

pub clamped_or_lem : (P : ℤ → Type 0) (d lo hi : ℤ) (n : Number) → P d → ((z : ℤ) → P (clamped lo hi z)) → P (clamped_or d lo hi n)
clamped_or_lem P d lo hi (Value z) h g = g z
clamped_or_lem P d lo hi Empty h g = h
clamped_or_lem P d lo hi NoNumber h g = h
clamped_or_lem P d lo hi Beyond h g = h
