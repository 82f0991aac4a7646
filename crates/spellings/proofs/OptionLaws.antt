-- Options as they are written, read back one by one. Assumes nothing.
use mathlib.Core.Path.{◌≡◌, refl, sym, ap, ◌∙◌, subst}
use mathlib.Core.Bool.{true, false, true≢false}
use mathlib.Core.List.{List, [], ◌∷◌, ◌++◌, append-nil}
use Prim.Native.Nat.{ℕ, ◌<◌, ◌≤◌}
use native.Mathlib.Omega.{arith}
use lib.ListN.{length}
use lib.IntN.{ℤ, pos, negsuc, nat_abs}
use lib.Signed.{le_z, lt_z}
use borrow.Author.Tests.{lt-leb, le-leb, le-ltb, leb-true, ltb-false}
use Rattle.text.specs.Utf8.{within}
use Rattle.text.specs.Blank.{front}
use Rattle.text.specs.Class.{is_digit, is_letter, all_digits}
use Rattle.text.proofs.BoolLaws.{test, and_both, or_cases, within_low, within_high}
use Rattle.numbers.specs.Int.{min_z, max_z}
use Rattle.numbers.specs.Number.{number_spelled}
use Rattle.numbers.specs.declared.number.Number.TheVariants.{Value}
use Rattle.barcodes_2d.specs.Options.{Setting, options_of, clamped}
use Rattle.decimals.specs.Decimal.{digits}
use Rattle.decimals.specs.Joined.{Without}
use Rattle.decimals.proofs.DecimalLaws.{digits_some, digits_all}
use Rattle.decimals.proofs.JoinedLaws.{without_append, without_cons}
use Rattle.decimals.proofs.ReadLaws.{Ends, plain, ends_append, number_digits}
use Rattle.spellings.specs.Codes2d.{setting, spelled, options}
use Rattle.spellings.proofs.FieldLaws.{In32}

-- a digit is no letter
digit_not : (d : ℕ) → is_digit d ≡ true → is_letter d ≡ false
digit_not d h =
    let k = within_high 48 57 d h in
    simp (lt-leb 65 d (omega arith), lt-leb 97 d (omega arith))

-- a byte that is no letter is passed over
skip : (x : ℕ) (s : List ℕ) → is_letter x ≡ false → options_of (x ∷ s) ≡ options_of s
unfolding options_of
skip x [] h = simp h
skip x (y ∷ s) h = simp h

skip_digits : (v s : List ℕ) → all_digits v ≡ true → options_of (v ++ s) ≡ options_of s
skip_digits [] s h = refl
skip_digits (d ∷ v) s h = let k = and_both (is_digit d) (all_digits v) h in skip d (v ++ s) (digit_not d k.0) ∙ skip_digits v s k.1

front_digits : (v s : List ℕ) → all_digits v ≡ true → front is_digit s ≡ [] → front is_digit (v ++ s) ≡ v
front_digits [] s h e = e
front_digits (d ∷ v) s h e = let k = and_both (is_digit d) (all_digits v) h in simp k.0 (ap (λ (l : List ℕ). d ∷ l) (front_digits v s k.1 e))

-- a letter and its digits
by_digits : (x : ℕ) (v s : List ℕ) → is_letter x ≡ true → all_digits v ≡ true → 0 < length v → front is_digit s ≡ [] → options_of (x ∷ (v ++ s)) ≡ record { letter = x; value = v } ∷ options_of s
unfolding options_of
by_digits x [] s h a l e = absurd (omega arith)
by_digits x (d ∷ v) s h a l e =
    let k = and_both (is_digit d) (all_digits v) a in
    let f = front_digits v s k.1 e in
    let o = skip_digits (d ∷ v) s a in
    simp (h, digit_not d k.0, k.0, f) (ap (λ (os : List Setting). record { letter = x; value = d ∷ v } ∷ os) o)

-- a setting that is read as it is written: a letter with digits, or with a letter
pub data Fine (o : Setting) : Type 0 where
  numbered : is_letter o.letter ≡ true → all_digits o.value ≡ true → 0 < length o.value → Fine o
  lettered : (y : ℕ) → is_letter o.letter ≡ true → o.value ≡ y ∷ [] → is_letter y ≡ true → Fine o

pub data AllFine : List Setting → Type 0 where
  none : AllFine []
  some : {o : Setting} {os : List Setting} → Fine o → AllFine os → AllFine (o ∷ os)

setting_read : (o : Setting) (s : List ℕ) → Fine o → front is_digit s ≡ [] → options_of (spelled o ++ s) ≡ o ∷ options_of s
unfolding options_of
setting_read o s (numbered h a l) e = by_digits o.letter o.value s h a l e
setting_read o s (lettered y h v g) e =
    ap (λ (l : List ℕ). options_of (o.letter ∷ (l ++ s))) v
    ∙ simp (h, g) (ap (λ (l : List ℕ). record { letter = o.letter; value = l } ∷ options_of s) (sym v))

-- all of them
pub options_read : (o : Setting) (os : List Setting) → Fine o → AllFine os → options_of (options o os) ≡ o ∷ os
unfolding options options_of
options_read o [] f none = ap options_of (sym (append-nil (spelled o))) ∙ setting_read o [] f refl
options_read o (q ∷ os) f (some g gs) =
    setting_read o (44 ∷ options q os) f refl
    ∙ ap (λ (l : List Setting). o ∷ l) (skip 44 (options q os) refl ∙ options_read q os g gs)

-- a letter with a number

pub fine_number : (b : ℕ) (z : ℤ) → is_letter b ≡ true → Fine (setting b z)
fine_number b z h = numbered h (digits_all (nat_abs z)) (digits_some (nat_abs z))

whole_abs : (z : ℤ) → le_z (pos 0) z ≡ true → pos (nat_abs z) ≡ z
whole_abs (pos n) h = refl
whole_abs (negsuc n) h = absurd (true≢false (sym h))

abs_in : (z : ℤ) → le_z (pos 0) z ≡ true → In32 z → nat_abs z < 2147483648
abs_in (pos n) h i = i
abs_in (negsuc n) h i = absurd (true≢false (sym h))

pub number_setting : (z : ℤ) → le_z (pos 0) z ≡ true → In32 z → number_spelled (digits (nat_abs z)) ≡ Value z
number_setting z h i = number_digits (nat_abs z) (abs_in z h i) ∙ ap Value (whole_abs z h)

-- within its limits a number is not moved

pub not_lt : (a b : ℤ) → le_z a b ≡ true → lt_z b a ≡ false
not_lt (pos a) (pos b) h = le-ltb b a (leb-true a b h)
not_lt (pos a) (negsuc b) h = absurd (true≢false (sym h))
not_lt (negsuc a) (pos b) h = refl
not_lt (negsuc a) (negsuc b) h = le-ltb a b (leb-true b a h)

equal_le : (a b : ℤ) → le_z a b ≡ true → lt_z a b ≡ false → b ≡ a
equal_le (pos a) (pos b) h g = ap pos (omega (arith, leb-true a b h, ltb-false a b g))
equal_le (pos a) (negsuc b) h g = absurd (true≢false (sym h))
equal_le (negsuc a) (pos b) h g = absurd (true≢false g)
equal_le (negsuc a) (negsuc b) h g = ap negsuc (omega (arith, leb-true b a h, ltb-false b a g))

pub clamp_within : (lo hi z : ℤ) → le_z lo z ≡ true → le_z z hi ≡ true → clamped lo hi z ≡ z
clamp_within lo hi z l h =
    let e : max_z z lo ≡ z = simp (not_lt lo z l) in
    ap (λ (k : ℤ). min_z k hi) e
    ∙ test (lt_z z hi) (λ e. simp e) (λ e. simp e (equal_le z hi h e))

-- between a limit that is not below 0 and another it is not below 0
pub from_one : (z : ℤ) (k : ℕ) → le_z (pos k) z ≡ true → le_z (pos 0) z ≡ true
from_one (pos n) k h = le-leb 0 n (omega arith)
from_one (negsuc n) k h = h

-- where options end, and that no quote and no LF is in them

digits_end : (v : List ℕ) → all_digits v ≡ true → 0 < length v → Ends v
digits_end [] a l = absurd (omega arith)
digits_end (d ∷ []) a l =
    let k = (and_both (is_digit d) true a).0 in
    let lo = within_low 48 57 d k in let hi = within_high 48 57 d k in
    record { rest = []; last = d; is = refl; plain = plain d (omega arith) (omega arith); no_comma = λ e. omega arith }
digits_end (d ∷ c ∷ v) a l = ends_append (d ∷ []) (c ∷ v) (digits_end (c ∷ v) (and_both (is_digit d) (all_digits (c ∷ v)) a).1 (omega arith))

letter_range : (y : ℕ) → is_letter y ≡ true → (65 ≤ y) × (y < 127)
letter_range y h =
    or_cases (within 65 90 y) (within 97 122 y)
    (λ e. let lo = within_low 65 90 y e in let hi = within_high 65 90 y e in (lo, omega arith))
    (λ e. let lo = within_low 97 122 y e in let hi = within_high 97 122 y e in (omega arith, omega arith)) h

setting_ends : (o : Setting) → Fine o → Ends (spelled o)
setting_ends o (numbered h a l) = ends_append (o.letter ∷ []) o.value (digits_end o.value a l)
setting_ends o (lettered y h v g) =
    let r = letter_range y g in
    record { rest = o.letter ∷ []; last = y; is = ap (λ (l : List ℕ). o.letter ∷ l) v; plain = plain y (omega (arith, r.0)) r.1; no_comma = λ e. omega (arith, r.0) }

pub options_ends : (o : Setting) (os : List Setting) → Fine o → AllFine os → Ends (options o os)
unfolding options
options_ends o [] f none = setting_ends o f
options_ends o (q ∷ os) f (some g gs) = ends_append (spelled o) (44 ∷ options q os) (ends_append (44 ∷ []) (options q os) (options_ends q os g gs))

-- b stands below the comma, as a quote and LF do
module _ (b : ℕ) (low : b < 44) where
  digits_free : (v : List ℕ) → all_digits v ≡ true → Without b v
  digits_free [] a = refl
  digits_free (d ∷ v) a =
      let k = and_both (is_digit d) (all_digits v) a in
      without_cons b d v (λ e. omega (arith, within_low 48 57 d k.0)) (digits_free v k.1)

  setting_free : (o : Setting) → Fine o → Without b (spelled o)
  setting_free o (numbered h a l) = without_cons b o.letter o.value (λ e. omega (arith, (letter_range o.letter h).0)) (digits_free o.value a)
  setting_free o (lettered y h v g) =
      without_cons b o.letter o.value (λ e. omega (arith, (letter_range o.letter h).0))
      (subst (Without b) (sym v) (without_cons b y [] (λ e. omega (arith, (letter_range y g).0)) refl))

  pub options_free : (o : Setting) (os : List Setting) → Fine o → AllFine os → Without b (options o os)
  unfolding options
  options_free o [] f none = setting_free o f
  options_free o (q ∷ os) f (some g gs) = without_append b (spelled o) (44 ∷ options q os) (setting_free o f) (without_cons b 44 (options q os) (λ e. omega arith) (options_free q os g gs))
