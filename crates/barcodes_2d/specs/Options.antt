-- The parameters of `b` behind its type (01, "Grammar": "their meaning is that of `parse_epl_2d_barcode`").
-- A parameter is a letter and its value: a run of digits, or one letter, or nothing. They stand in fields, several in
-- one; what is neither letter nor value is passed over. A comma is neither, so the text behind the type is read whole
-- (`options_comma`: as its fields are, one after the other).
use Rattle.std.specs.Prelude.{ℕ, Bool, true, false, cond, ◌&&◌, ◌||◌, List, [], ◌∷◌, eqb, ℤ, pos}
use Rattle.text.specs.Ascii.{letter}
use Rattle.text.specs.Blank.{front}
use Rattle.text.specs.Class.{is_digit, is_letter}
use Rattle.numbers.specs.Int.{min_z, max_z}
use Rattle.numbers.specs.Number.{number_spelled, number_or}
use Rattle.numbers.specs.declared.number.Number.{Number}
use Rattle.numbers.specs.declared.number.Number.TheVariants as number
use Rattle.barcodes_2d.specs.declared.options.Wanted.{Wanted}
use Rattle.barcodes_2d.specs.declared.options.Wanted.TheVariants as wanted

-- a letter and its value
pub record Setting : Type 0 where
  pub letter : ℕ
  pub value : List ℕ

-- the parameters of a text, in order. A letter that is a value is no letter of its own; digits are none anyway.
unfoldable pub options_of : List ℕ → List Setting
options_of [] = []
options_of (x ∷ []) = cond (is_letter x) (record { letter = x; value = [] } ∷ []) []
options_of (x ∷ y ∷ s) =
    cond (is_letter x)
    (cond (is_letter y)
    (record { letter = x; value = y ∷ [] } ∷ options_of s)
    (record { letter = x; value = front is_digit (y ∷ s) } ∷ options_of (y ∷ s)))
    (options_of (y ∷ s))

abbrev pub is_value : Number → Bool
is_value (number.Value z) = true
is_value number.Empty = false
is_value number.NoNumber = false
is_value number.Beyond = false

-- a value is digits within 32 bits
abbrev pub is_number : List ℕ → Bool
is_number v = is_value (number_spelled v)

-- L, M, Q or H stands first
abbrev pub is_level : List ℕ → Bool
is_level [] = false
is_level (b ∷ v) = eqb b (letter "L") || eqb b (letter "M") || eqb b (letter "Q") || eqb b (letter "H")

-- a value counts where one of a kind is wanted
abbrev pub accepted : Wanted → List ℕ → Bool
accepted wanted.Any v = true
accepted wanted.Number v = is_number v
accepted wanted.Level v = is_level v

-- the values of the letter p that count, in order
abbrev pub values_of : Wanted → ℕ → List Setting → List (List ℕ)
values_of w p [] = []
values_of w p (o ∷ os) =
    cond (eqb o.letter p && accepted w o.value) (o.value ∷ values_of w p os) (values_of w p os)

-- the last of some values, v where there is none
abbrev pub last_or : List ℕ → List (List ℕ) → List ℕ
last_or v [] = v
last_or v (x ∷ xs) = last_or x xs

-- the last value of the letter p that counts, nothing where none does
abbrev pub last_of : Wanted → ℕ → List Setting → List ℕ
last_of w p os = last_or [] (values_of w p os)

-- the last value of the letter p as a number, 0 where it is none
unfoldable pub last_count : ℕ → List Setting → ℤ
last_count p os = number_or (pos 0) (number_spelled (last_of wanted.Any p os))

-- the last value of the letter p that is a number, d where none is
unfoldable pub last_number : ℕ → ℤ → List Setting → ℤ
last_number p d os = number_or d (number_spelled (last_of wanted.Number p os))

-- v, or the nearest of lo and hi
abbrev pub clamped : ℤ → ℤ → ℤ → ℤ
clamped lo hi v = min_z (max_z v lo) hi

-- a number within lo to hi, d where there is none
abbrev pub clamped_or : ℤ → ℤ → ℤ → Number → ℤ
clamped_or d lo hi (number.Value z) = clamped lo hi z
clamped_or d lo hi number.Empty = d
clamped_or d lo hi number.NoNumber = d
clamped_or d lo hi number.Beyond = d

-- the last value of the letter p that is a number, brought within lo to hi; d, as it is, where none is
unfoldable pub last_clamped : ℕ → ℤ → ℤ → ℤ → List Setting → ℤ
last_clamped p d lo hi os = clamped_or d lo hi (number_spelled (last_of wanted.Number p os))
