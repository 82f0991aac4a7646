-- Classes of bytes: digits and letters.
use Rattle.std.specs.Prelude.{ℕ, zero, suc, Bool, true, cond, ◌||◌, ◌&&◌, List, [], ◌∷◌}
use Rattle.text.specs.Utf8.{within}

-- 0 to 9
abbrev pub is_digit : ℕ → Bool
is_digit b = within 48 57 b

-- A to Z, a to z
abbrev pub is_letter : ℕ → Bool
is_letter b = within 65 90 b || within 97 122 b

-- every byte of a text is a digit; so it is of an empty one
abbrev pub all_digits : List ℕ → Bool
all_digits [] = true
all_digits (b ∷ s) = is_digit b && all_digits s

-- how many digits a text begins with
abbrev pub digit_run : List ℕ → ℕ
digit_run [] = zero
digit_run (b ∷ s) = cond (is_digit b) (suc (digit_run s)) zero
