-- Digits alone are a number field as they stand (`field_digits`): their own trim, no sign. A run of them is read one
-- after the other up to a comma (`index_digit`, `value_digit`). Other numbers are in NumberLaws. Assumes nothing.
use mathlib.Core.Path.{◌≡◌, refl, ap, ◌∙◌}
use mathlib.Core.Bool.{true, false}
use mathlib.Core.List.{List, [], ◌∷◌, ◌++◌, append_assoc}
use mathlib.Core.Option.{some}
use Prim.Native.Nat.{ℕ, suc, ◌+◌, ◌-◌, ◌*◌, ◌<◌, ◌≤◌}
use native.Mathlib.Nat.{not-suc-le-zero}
use native.Mathlib.Numerals.{add-one}
use native.Mathlib.Omega.{arith}
use lib.ListN.{length, get_or, drop, drop_of_length-le}
use lib.Seq.{drop-cons}
use lib.IntN.{ℤ, pos}
use borrow.Author.Tests.{le-leb, lt-leb, lt-ltb, eq-eqb, ne_eqb}
use Rattle.text.specs.Blank.{is_blank1, trim_end, trim}
use Rattle.text.specs.Class.{is_digit, all_digits}
use Rattle.text.specs.Fields.{index_of, before}
use Rattle.numbers.specs.Number.{value_from, number_spelled, number_or, field_or}
use Rattle.text.proofs.BoolLaws.{and_both, test, within_low, within_high}
use Rattle.text.proofs.BlankTrimLaws.{trim_start_other, trim_end_other}

-- what has a value is digits
value_digits : (s : List ℕ) (acc v : ℕ) → value_from acc s ≡ some v → all_digits s ≡ true
value_digits [] acc v h = refl
value_digits (x ∷ s) acc v h =
    test (is_digit x)
    (λ e. simp e (value_digits s (acc * 10 + (x - 48)) v (simp e at h)))
    (λ e. let k : ◌≡◌ {A = ℕ} 0 1 = cc (simp e at h) in absurd (omega arith))

-- trimming

digit_other : (x : ℕ) → is_digit x ≡ true → is_blank1 x ≡ false
digit_other x h =
    let l = within_low 48 57 x h in
    simp (le-leb 9 x (omega arith), lt-leb x 13 (omega arith), ne_eqb x 32 (λ e. omega arith))

digit_ascii : (x : ℕ) → is_digit x ≡ true → x < 128
digit_ascii x h = omega (arith, within_high 48 57 x h)

trim_end_digits : (t : List ℕ) (x : ℕ) (s : List ℕ) → all_digits (x ∷ s) ≡ true → trim_end (t ++ (x ∷ s)) ≡ t ++ (x ∷ s)
trim_end_digits t x [] h = let d = (and_both (is_digit x) true h).0 in trim_end_other t x (digit_ascii x d) (digit_other x d)
trim_end_digits t x (y ∷ s) h =
    let k = (and_both (is_digit x) (all_digits (y ∷ s)) h).1 in
    rw (← append_assoc t (x ∷ []) (y ∷ s)) (trim_end_digits (t ++ (x ∷ [])) y s k)

pub trim_digits : (s : List ℕ) → all_digits s ≡ true → trim s ≡ s
trim_digits [] h = refl
trim_digits (x ∷ s) h =
    let d = (and_both (is_digit x) (all_digits s) h).0 in
    ap trim_end (trim_start_other x s (digit_ascii x d) (digit_other x d)) ∙ trim_end_digits [] x s h

-- the field's number is their value
pub field_digits : (d : ℤ) (f : List ℕ) (v : ℕ) → 0 < length f → value_from 0 f ≡ some v → v < 2147483648 → field_or d f ≡ pos v
unfolding number_spelled
field_digits d [] v l h b = absurd (not-suc-le-zero l)
field_digits d (x ∷ s) v l h b =
    let a = value_digits (x ∷ s) 0 v h in
    let k = within_low 48 57 x (and_both (is_digit x) (all_digits s) a).0 in
    ap (λ (t : List ℕ). number_or d (number_spelled t)) (trim_digits (x ∷ s) a)
    ∙ simp (ne_eqb x 45 (λ e. omega arith), ne_eqb x 43 (λ e. omega arith), h, lt-ltb v 2147483648 b)

-- one turn of the loop over the digits of a field, at place i; v is the value of those before it
module _ (s : List ℕ) (i v : ℕ) (h : i < length s) (d : is_digit (get_or s i 0) ≡ true) where
  comma_not : get_or s i 0 ≡ 44 → ⊥
  comma_not e = omega (arith, within_low 48 57 (get_or s i 0) d)

  pub index_digit : index_of 44 (drop i s) ≡ suc (index_of 44 (drop (i + 1) s))
  index_digit = rw (add-one, drop-cons s i 0) (simp (ne_eqb (get_or s i 0) 44 comma_not))

  pub value_digit : value_from v (before 44 (drop i s)) ≡ value_from (v * 10 + (get_or s i 0 - 48)) (before 44 (drop (i + 1) s))
  unfolding before
  value_digit = rw (add-one, drop-cons s i 0) (simp (ne_eqb (get_or s i 0) 44 comma_not, d))

-- the end of a run of digits: the text's, or a comma
pub index_end : (s : List ℕ) (i : ℕ) → length s ≤ i → index_of 44 (drop i s) ≡ 0
index_end s i h = rw (drop_of_length-le s)

pub index_here : (s : List ℕ) (i : ℕ) → i < length s → get_or s i 0 ≡ 44 → index_of 44 (drop i s) ≡ 0
index_here s i h e = rw (drop-cons s i 0) (simp (eq-eqb (get_or s i 0) 44 e))

pub value_end : (t : List ℕ) (v : ℕ) → index_of 44 t ≡ 0 → value_from v (before 44 t) ≡ some v
unfolding before
value_end t v e = simp e
