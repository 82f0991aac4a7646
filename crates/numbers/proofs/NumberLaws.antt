-- Numbers from digits: one turn of the loop over them (`value_step`), what `digits` answers (`upto→some`,
-- `over→beyond`, `bad→no_number`), and the sign (`number_sign`, `number_plain`). Digits alone are in NumberPlainLaws.
-- Assumes nothing.
use mathlib.Core.Path.{◌≡◌, refl, ap}
use mathlib.Core.Bool.{Bool, true, false, cond, true≢false}
use mathlib.Core.List.{List, [], ◌∷◌}
use mathlib.Core.Option.{Option, none, some}
use Prim.Native.Nat.{ℕ, zero, suc, ◌+◌, ◌-◌, ◌*◌, ◌<◌, ◌≤◌, min}
use native.Mathlib.Numerals.{add-one}
use native.Mathlib.Nat.{not-suc-le-zero}
use native.Mathlib.Omega.{arith}
use lib.ListN.{length, get_or, drop, drop_of_length-le}
use lib.Seq.{drop-cons}
use lib.Dec.{leb, eqb}
use lib.IntN.{pos, negsuc, neg_ℤ, ◌-ℤ◌}
use lib.Signed.{mag}
use borrow.Author.Tests.{le-leb, lt-leb, lt-ltb, le-ltb, leb-true, leb-false}
use Rattle.text.specs.Class.{is_digit}
use Rattle.byte_classes.specs.Classes.{is_sign}
use Rattle.text.proofs.BoolLaws.{test, or_cases}
use Rattle.numbers.specs.Number.{value_from, digits_of, capped, ranged, signed, number_spelled}
use Rattle.numbers.specs.declared.number.Number.TheVariants.{Value, Empty, NoNumber, Beyond}
use Rattle.numbers.specs.declared.number.Magnitude.TheVariants.{Upto, Over, Bad}
use Rattle.numbers.proofs.IntLaws.{mag_neg_pos}

-- above 2^31 all values are alike: more digits make none smaller

capped_same : (xs : List ℕ) (a b : ℕ) → 2147483648 < a → 2147483648 < b → capped (value_from a xs) ≡ capped (value_from b xs)
capped_same [] a b h k = simp (lt-leb a 2147483648 h, lt-leb b 2147483648 k)
capped_same (x ∷ xs) a b h k =
    test (is_digit x)
    (λ e. simp e (capped_same xs (a * 10 + (x - 48)) (b * 10 + (x - 48)) (omega arith) (omega arith)))
    (λ e. simp e)

pub capped_least : (xs : List ℕ) (a b : ℕ) → b ≡ min a 2147483649 → capped (value_from a xs) ≡ capped (value_from b xs)
capped_least xs a b h =
    test (leb a 2147483648)
    (λ e. let m : a ≡ b = omega (arith, leb-true a 2147483648 e) in ap (λ (n : ℕ). capped (value_from n xs)) m)
    (λ e. capped_same xs a b (leb-false a 2147483648 e) (omega (arith, leb-false a 2147483648 e)))

-- digits one after the other

pub digits_some : (s : List ℕ) → 0 < length s → digits_of s ≡ value_from 0 s
digits_some [] h = absurd (not-suc-le-zero h)
digits_some (x ∷ xs) h = refl

pub digits_none : (s : List ℕ) → length s ≡ 0 → digits_of s ≡ none
digits_none [] h = refl
digits_none (x ∷ xs) h = absurd (omega arith)

module _ (s : List ℕ) (i v : ℕ) (h : i < length s) where
  pub value_other : is_digit (get_or s i 0) ≡ false → value_from v (drop i s) ≡ none
  value_other e = rw (drop-cons s i 0) (simp e)

  pub value_step : is_digit (get_or s i 0) ≡ true → value_from v (drop i s) ≡ value_from (v * 10 + (get_or s i 0 - 48)) (drop (i + 1) s)
  value_step e = rw (add-one, drop-cons s i 0) (simp e)

pub capped_upto : (s : List ℕ) (i v : ℕ) → length s ≤ i → v ≤ 2147483648 → capped (value_from v (drop i s)) ≡ Upto v
capped_upto s i v h l = rw (drop_of_length-le s) (simp (le-leb v 2147483648 l))

pub capped_over : (s : List ℕ) (i v : ℕ) → length s ≤ i → 2147483648 < v → capped (value_from v (drop i s)) ≡ Over
capped_over s i v h l = rw (drop_of_length-le s) (simp (lt-leb v 2147483648 l))

-- the sign

pub zero_sub : (v : ℕ) → pos 0 -ℤ pos v ≡ neg_ℤ (pos v)
zero_sub zero = refl
zero_sub (suc n) = simp (lt-ltb 0 (suc n) (omega arith)) (ap negsuc (omega arith))

pub mag_neg_lt : (v : ℕ) → v ≤ 2147483648 → mag (neg_ℤ (pos v)) < 2147483648
mag_neg_lt v h = omega (arith, mag_neg_pos v)

pub ranged_neg : (v : ℕ) → v ≤ 2147483648 → ranged (neg_ℤ (pos v)) ≡ Value (neg_ℤ (pos v))
ranged_neg v h = simp (lt-ltb (mag (neg_ℤ (pos v))) 2147483648 (mag_neg_lt v h))

-- what `digits` answered, and what that says of the digits

upto_by : (t : Bool) (w v : ℕ) → leb w 2147483648 ≡ t → Upto v ≡ cond t (Upto w) Over → (some w ≡ some v) × (v ≤ 2147483648)
upto_by true w v e p = let q : v ≡ w = cc in (cc, omega (arith, leb-true w 2147483648 e))
upto_by false w v e p = let z : ◌≡◌ {A = ℕ} 0 1 = cc in absurd (omega arith)

pub upto→some : (o : Option ℕ) (v : ℕ) → Upto v ≡ capped o → (o ≡ some v) × (v ≤ 2147483648)
upto→some none v p = let z : ◌≡◌ {A = ℕ} 0 1 = cc in absurd (omega arith)
upto→some (some w) v p = upto_by (leb w 2147483648) w v refl p

above : (neg : Bool) (w : ℕ) → 2147483648 < w → ranged (cond neg (neg_ℤ (pos w)) (pos w)) ≡ Beyond
above true zero h = absurd (not-suc-le-zero h)
above true (suc n) h = simp (le-ltb n 2147483648 (omega arith))
above false w h = simp (le-ltb w 2147483648 (omega arith))

over_by : (t neg : Bool) (w : ℕ) → leb w 2147483648 ≡ t → Over ≡ cond t (Upto w) Over → signed neg (some w) ≡ Beyond
over_by true neg w e p = let z : ◌≡◌ {A = ℕ} 0 1 = cc in absurd (omega arith)
over_by false neg w e p = above neg w (leb-false w 2147483648 e)

pub over→beyond : (o : Option ℕ) (neg : Bool) → Over ≡ capped o → signed neg o ≡ Beyond
over→beyond none neg p = let z : ◌≡◌ {A = ℕ} 0 1 = cc in absurd (omega arith)
over→beyond (some w) neg p = over_by (leb w 2147483648) neg w refl p

bad_by : (t neg : Bool) (w : ℕ) → Bad ≡ cond t (Upto w) Over → signed neg (some w) ≡ NoNumber
bad_by true neg w p = let z : ◌≡◌ {A = ℕ} 0 1 = cc in absurd (omega arith)
bad_by false neg w p = let z : ◌≡◌ {A = ℕ} 0 1 = cc in absurd (omega arith)

pub bad→no_number : (o : Option ℕ) (neg : Bool) → Bad ≡ capped o → signed neg o ≡ NoNumber
bad→no_number none neg p = refl
bad→no_number (some w) neg p = bad_by (leb w 2147483648) neg w p

-- a text's number by its first byte

pub number_none : (s : List ℕ) → length s ≡ 0 → number_spelled s ≡ Empty
unfolding number_spelled
number_none [] h = refl
number_none (x ∷ xs) h = absurd (omega arith)

pub number_sign : (s : List ℕ) → 0 < length s → is_sign (get_or s 0 0) ≡ true → number_spelled s ≡ signed (eqb (get_or s 0 0) 45) (digits_of (drop 1 s))
unfolding number_spelled
number_sign [] h e = absurd (not-suc-le-zero h)
number_sign (x ∷ xs) h e =
    or_cases (eqb x 43) (eqb x 45) (λ p. test (eqb x 45) (λ q. simp q) (λ q. simp (p, q))) (λ q. simp q) e

pub number_plain : (s : List ℕ) → 0 < length s → is_sign (get_or s 0 0) ≡ false → number_spelled s ≡ signed false (digits_of s)
unfolding number_spelled
number_plain [] h e = absurd (not-suc-le-zero h)
number_plain (x ∷ xs) h e =
    test (eqb x 43)
    (λ p. absurd (true≢false (simp p at e)))
    (λ p. let q : eqb x 45 ≡ false = simp p at e in simp (p, q))
