-- What one pass takes is what `Options` says of each letter: the last value (`last_any`), the last number
-- (`last_number_lem`), the last level (`last_level`). The pass is in OptionsLaws. Assumes nothing.
use mathlib.Core.Path.{◌≡◌, refl, sym, ap, ◌∙◌}
use mathlib.Core.Bool.{Bool, true, false, cond, ◌&&◌, and-true, and-false}
use mathlib.Core.List.{List, [], ◌∷◌}
use mathlib.Core.Option.{Option, none, some}
use Prim.Native.Nat.{ℕ, ◌<◌}
use native.Mathlib.Omega.{arith}
use lib.Dec.{eqb, ltb}
use lib.IntN.{pos}
use borrow.Author.Tests.{ne_eqb}
use Rattle.text.proofs.BoolLaws.{test, or_cases, within_low, within_high}
use Rattle.text.specs.Ascii.{letter}
use Rattle.text.specs.Blank.{front}
use Rattle.text.specs.Class.{is_digit, is_letter}
use Rattle.text.specs.Fields.{same}
use Rattle.text.specs.Utf8.{within}
use Rattle.numbers.specs.Number.{digits_of, signed, number_spelled}
use Rattle.numbers.specs.declared.number.Number.TheVariants as number
use Rattle.barcodes_2d.specs.Barcode2d.{level_first, level_of, pdf417_truncate}
use Rattle.barcodes_2d.specs.Options.{Setting, options_of, is_value, is_number, is_level, accepted, values_of, last_or, last_of}
use Rattle.barcodes_2d.specs.OptionSteps.{held, magnitude, number_of, alone_of, number_over, level_over, taken, no_options, all_taken, level_byte}
use Rattle.barcodes_2d.specs.declared.options.Options.{Options}
use Rattle.barcodes_2d.specs.declared.options.Wanted.{Wanted}
use Rattle.barcodes_2d.specs.declared.options.Wanted.TheVariants as wanted

-- what the record holds of a value says all that counts of it: a value has no sign, and a level is one letter
record Good (v : List ℕ) : Type 0 where
  number : number_spelled v ≡ number_of (magnitude v)
  level : is_level v ≡ is_level (alone_of v ∷ [])

signed_held : (o : Option ℕ) → signed false o ≡ number_of (held o)
signed_held none = refl
signed_held (some n) = test (ltb n 2147483648) (λ e. simp e) (λ e. simp e)

spelled_unsigned : (x : ℕ) (v : List ℕ) → (x ≡ 45 → ⊥) → (x ≡ 43 → ⊥) → number_spelled (x ∷ v) ≡ number_of (magnitude (x ∷ v))
unfolding number_spelled
spelled_unsigned x v p q = simp (ne_eqb x 45 p, ne_eqb x 43 q) (signed_held (digits_of (x ∷ v)))

good_nil : Good []
unfolding number_spelled
good_nil = record { number = refl; level = refl }

letter_low : (x : ℕ) → is_letter x ≡ true → 64 < x
letter_low x = or_cases (within 65 90 x) (within 97 122 x) (λ e. omega (arith, within_low 65 90 x e)) (λ e. omega (arith, within_low 97 122 x e))

good_letter : (x : ℕ) → is_letter x ≡ true → Good (x ∷ [])
good_letter x e =
    let h = letter_low x e in
    record { number = spelled_unsigned x [] (λ d. omega arith) (λ d. omega arith); level = refl }

digit_level : (x : ℕ) (v : List ℕ) → x < 58 → is_level (x ∷ v) ≡ false
digit_level x v h = simp (ne_eqb x 76 (λ d. omega arith), ne_eqb x 77 (λ d. omega arith), ne_eqb x 81 (λ d. omega arith), ne_eqb x 72 (λ d. omega arith))

level_alone : (x : ℕ) (v : List ℕ) → x < 58 → is_level (x ∷ v) ≡ is_level (alone_of (x ∷ v) ∷ [])
level_alone x [] h = refl
level_alone x (y ∷ v) h = digit_level x (y ∷ v) h

good_by : (x : ℕ) (t : List ℕ) (b : Bool) → is_digit x ≡ b → Good (cond b (x ∷ front is_digit t) [])
good_by x t true e =
    let l = within_low 48 57 x e in
    let h = within_high 48 57 x e in
    record { number = spelled_unsigned x (front is_digit t) (λ d. omega arith) (λ d. omega arith); level = level_alone x (front is_digit t) (omega arith) }
good_by x t false e = good_nil

good_digits : (t : List ℕ) → Good (front is_digit t)
good_digits [] = good_nil
good_digits (x ∷ t) = good_by x t (is_digit x) refl

data AllGood : List Setting → Type 0 where
  nil : AllGood []
  more : (o : Setting) (os : List Setting) → Good o.value → AllGood os → AllGood (o ∷ os)

good_one : (x : ℕ) (a : Bool) → AllGood (cond a (record { letter = x; value = [] } ∷ []) [])
good_one x true = more _ _ good_nil nil
good_one x false = nil

good_two : (x y : ℕ) (s : List ℕ) (a b : Bool) → is_letter y ≡ b → AllGood (options_of s) → AllGood (options_of (y ∷ s))
    → AllGood (cond a (cond b (record { letter = x; value = y ∷ [] } ∷ options_of s) (record { letter = x; value = front is_digit (y ∷ s) } ∷ options_of (y ∷ s))) (options_of (y ∷ s)))
good_two x y s true true e m n = more _ _ (good_letter y e) m
good_two x y s true false e m n = more _ _ (good_digits (y ∷ s)) n
good_two x y s false b e m n = n

all_good : (s : List ℕ) → AllGood (options_of s)
unfolding options_of
all_good [] = nil
all_good (x ∷ []) = good_one x (is_letter x)
all_good (x ∷ y ∷ s) = good_two x y s (is_letter x) (is_letter y) refl (all_good s) (all_good (y ∷ s))

last_cons : (b : Bool) (x v : List ℕ) (vs : List (List ℕ)) → last_or v (cond b (x ∷ vs) vs) ≡ last_or (cond b x v) vs
last_cons true x v vs = refl
last_cons false x v vs = refl

-- f, a field of what is taken, says what the last value does that counts, if one parameter more keeps that
module _
    (w : Wanted) (p : ℕ) {A : Type 0} (f : Options → A) (Says : A → List ℕ → Type 0)
    (step : (k : Options) (o : Setting) (v : List ℕ) → Good o.value → Says (f k) v → Says (f (taken k o.letter (magnitude o.value) (alone_of o.value))) (cond (eqb o.letter p && accepted w o.value) o.value v)) where
  all_last : (os : List Setting) (k : Options) (v : List ℕ) → AllGood os → Says (f k) v → Says (f (all_taken k os)) (last_or v (values_of w p os))
  all_last [] k v g h = h
  all_last (o ∷ os) k v (more _ _ g gs) h =
      rw (last_cons (eqb o.letter p && accepted w o.value) o.value v (values_of w p os))
      (all_last os (taken k o.letter (magnitude o.value) (alone_of o.value)) (cond (eqb o.letter p && accepted w o.value) o.value v) gs (step k o v g h))

-- one parameter more: t tells whether it is of the field's letter

abbrev SaysNumber : ℕ → List ℕ → Type 0
SaysNumber n v = number_spelled v ≡ number_of n

any_by : (t : Bool) (x v : List ℕ) (n : ℕ) → Good x → SaysNumber n v → SaysNumber (cond t (magnitude x) n) (cond (t && true) x v)
any_by true x v n g h = g.number
any_by false x v n g h = h

value_by : (t a b : Bool) (n : ℕ) → is_value (cond t (number.Value (pos n)) (cond a number.Beyond (cond b number.NoNumber number.Empty))) ≡ t
value_by true a b n = refl
value_by false true b n = refl
value_by false false true n = refl
value_by false false false n = refl

is_number_lem : (x : List ℕ) → Good x → is_number x ≡ ltb (magnitude x) 2147483648
is_number_lem x g = ap is_value g.number ∙ value_by (ltb (magnitude x) 2147483648) (eqb (magnitude x) 2147483648) (eqb (magnitude x) 2147483649) (magnitude x)

number_if : (u : Bool) (x v : List ℕ) (m n : ℕ) → SaysNumber m x → SaysNumber n v → SaysNumber (cond u m n) (cond u x v)
number_if true x v m n g h = g
number_if false x v m n g h = h

number_by_lem : (t : Bool) (x v : List ℕ) (n : ℕ) → Good x → SaysNumber n v → SaysNumber (cond t (number_over (magnitude x) n) n) (cond (t && is_number x) x v)
number_by_lem true x v n g h = rw (is_number_lem x g) (number_if (ltb (magnitude x) 2147483648) x v (magnitude x) n g.number h)
number_by_lem false x v n g h = h

abbrev SaysLevel : ℕ → List ℕ → Type 0
SaysLevel b v = level_first v ≡ level_byte b

level_if : (u : Bool) (x : ℕ) (v : List ℕ) (b : ℕ) → SaysLevel b v → SaysLevel (cond u x b) (cond u (x ∷ []) v)
level_if true x v b h = refl
level_if false x v b h = h

level_by : (t : Bool) (x v : List ℕ) (b : ℕ) → Good x → SaysLevel b v → SaysLevel (cond t (level_over (alone_of x) b) b) (cond (t && is_level x) x v)
level_by true [] v b g h = h
level_by true (x ∷ []) v b g h = level_if (is_level (x ∷ [])) x v b h
level_by true (x ∷ y ∷ xs) v b g h = rw g.level h
level_by false x v b g h = h

abbrev SaysOne : Bool → List ℕ → Type 0
SaysOne t v = same v (letter "1" ∷ []) ≡ t

one_alone : (x : List ℕ) → same x (letter "1" ∷ []) ≡ eqb (alone_of x) (letter "1")
one_alone [] = refl
one_alone (b ∷ []) = and-true (eqb b 49)
one_alone (b ∷ c ∷ x) = and-false (eqb b 49)

truncate_by : (t : Bool) (x v : List ℕ) (z : Bool) → SaysOne z v → SaysOne (cond t (eqb (alone_of x) (letter "1")) z) (cond (t && true) x v)
truncate_by true x v z h = one_alone x
truncate_by false x v z h = h

-- of the record that is taken of s
module _ (s : List ℕ) {r : Options} (e : r ≡ all_taken no_options (options_of s)) where
  module _ (p : ℕ) (f : Options → ℕ) (none : f no_options ≡ 2147483650) where
    says_none : SaysNumber (f no_options) []
    unfolding number_spelled
    says_none = rw none refl

    pub last_any : ((k : Options) (b n a : ℕ) → f (taken k b n a) ≡ cond (eqb b p) n (f k)) → number_spelled (last_of wanted.Any p (options_of s)) ≡ number_of (f r)
    last_any h =
        rw e (all_last wanted.Any p f SaysNumber (λ k o v g i. rw (h k o.letter (magnitude o.value) (alone_of o.value)) (any_by (eqb o.letter p) o.value v (f k) g i)) (options_of s) no_options [] (all_good s) says_none)

    pub last_number_lem : ((k : Options) (b n a : ℕ) → f (taken k b n a) ≡ cond (eqb b p) (number_over n (f k)) (f k)) → number_spelled (last_of wanted.Number p (options_of s)) ≡ number_of (f r)
    last_number_lem h =
        rw e (all_last wanted.Number p f SaysNumber (λ k o v g i. rw (h k o.letter (magnitude o.value) (alone_of o.value)) (number_by_lem (eqb o.letter p) o.value v (f k) g i)) (options_of s) no_options [] (all_good s) says_none)

  pub last_level : level_byte r.level ≡ level_of s
  unfolding level_of
  last_level =
      rw e (sym (all_last wanted.Level (letter "e") (λ (k : Options). k.level) SaysLevel (λ k o v g i. level_by (eqb o.letter (letter "e")) o.value v k.level g i) (options_of s) no_options [] (all_good s) refl))

  pub last_truncate : r.truncate ≡ pdf417_truncate s
  unfolding pdf417_truncate
  last_truncate =
      rw e (sym (all_last wanted.Any (letter "t") (λ (k : Options). k.truncate) SaysOne (λ k o v g i. truncate_by (eqb o.letter (letter "t")) o.value v k.truncate i) (options_of s) no_options [] (all_good s) refl))
