-- A number field (01, "Grammar"): "Unicode blanks off, is an optional sign and at least one digit, within signed 32
-- bits, else its default". What a field held, its default (`number_or`) and its least value (`max_z`) are apart.
use Rattle.std.specs.Prelude.{ℕ, ◌+◌, ◌-◌, ◌*◌, Bool, true, false, cond, List, [], ◌∷◌, eqb, leb, ℤ, pos, neg_ℤ}
use Rattle.std.proofs.Math.Option.{Option, none, some}
use Rattle.text.specs.Class.{is_digit}
use Rattle.text.specs.Blank.{trim}
use Rattle.numbers.specs.Int.{in32}
use Rattle.numbers.specs.declared.number.Number.{Number}
use Rattle.numbers.specs.declared.number.Number.TheVariants.{Value, Empty, NoNumber, Beyond}
use Rattle.numbers.specs.declared.number.Magnitude.{Magnitude}
use Rattle.numbers.specs.declared.number.Magnitude.TheVariants.{Upto, Over, Bad}

-- the value of digits that follow acc
abbrev pub value_from : ℕ → List ℕ → Option ℕ
value_from acc [] = some acc
value_from acc (b ∷ s) = cond (is_digit b) (value_from (acc * 10 + (b - 48)) s) none

-- the value of one digit or more
abbrev pub digits_of : List ℕ → Option ℕ
digits_of [] = none
digits_of (b ∷ s) = value_from 0 (b ∷ s)

-- z, where it is a signed number of 32 bits: else a number beyond
abbrev pub ranged : ℤ → Number
ranged z = cond (in32 z) (Value z) Beyond

-- digits with their sign; without a digit it is no number
abbrev pub signed : Bool → Option ℕ → Number
signed neg none = NoNumber
signed neg (some v) = ranged (cond neg (neg_ℤ (pos v)) (pos v))

-- what a text without blanks holds: nothing; `-` or `+` or no sign, and digits, within 32 bits or beyond; or no number
unfoldable pub number_spelled : List ℕ → Number
number_spelled [] = Empty
number_spelled (b ∷ s) =
    cond (eqb b 45) (signed true (digits_of s))
    (cond (eqb b 43) (signed false (digits_of s)) (signed false (digits_of (b ∷ s))))

-- what a field held: its Unicode blanks off first
abbrev pub field_number : List ℕ → Number
field_number f = number_spelled (trim f)

-- the value, or the default
abbrev pub number_or : ℤ → Number → ℤ
number_or d (Value z) = z
number_or d Empty = d
number_or d NoNumber = d
number_or d Beyond = d

-- a number field with its default
abbrev pub field_or : ℤ → List ℕ → ℤ
field_or d f = number_or d (field_number f)

-- what `digits` answers: a value that is at most 2 ^ 31, or that there is a greater one, or none
abbrev pub capped : Option ℕ → Magnitude
capped none = Bad
capped (some v) = cond (leb v 2147483648) (Upto v) Over
