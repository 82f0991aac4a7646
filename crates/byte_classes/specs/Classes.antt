-- Classes of bytes: "a letter (A to Z, a to z), digit, ASCII blank, sign (plus or minus) or none of these", and the
-- table of all 256.
use Rattle.std.specs.Prelude.{ℕ, zero, suc, ◌+◌, ◌*◌, Bool, cond, ◌||◌, eqb}
use Rattle.text.specs.Blank.{is_ascii_blank}
use Rattle.text.specs.Class.{is_digit, is_letter}

-- plus or minus
abbrev pub is_sign : ℕ → Bool
is_sign b = eqb b 43 || eqb b 45

-- the k-th class: letters, digits, ASCII blanks, signs
abbrev pub is_of : ℕ → ℕ → Bool
is_of zero b = is_letter b
is_of (suc zero) b = is_digit b
is_of (suc (suc zero)) b = is_ascii_blank b
is_of (suc (suc (suc k))) b = is_sign b

-- the class of a byte: 1 a letter, 2 a digit, 4 an ASCII blank, 8 a sign, 0 none of these
unfoldable pub class_of : ℕ → ℕ
class_of b = cond (is_letter b) 1 (cond (is_digit b) 2 (cond (is_ascii_blank b) 4 (cond (is_sign b) 8 0)))

-- the classes of n bytes from b on, one hexadecimal digit each, the first rightmost
unfoldable pub row_from : ℕ → ℕ → ℕ
row_from zero b = 0
row_from (suc n) b = class_of b + 16 * row_from n (suc b)

-- the classes of the sixteen bytes from 16 i on
abbrev pub row_of : ℕ → ℕ
row_of i = row_from 16 (16 * i)
