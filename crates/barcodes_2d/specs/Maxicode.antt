-- MaxiCode's automatic mode on decoded data d (01, "Corners").
use Rattle.std.specs.Prelude.{ℕ, zero, suc, Bool, cond, ◌&&◌, List, [], ◌∷◌, leb, ltb, ℤ, pos, length, take, drop}
use Rattle.text.specs.Class.{all_digits}
use Rattle.text.specs.Fields.{same}

-- "the header is hexadecimal 5b 29 3e 1e 30 31 1d"
abbrev pub header : List ℕ
header = 0x5b ∷ 0x29 ∷ 0x3e ∷ 0x1e ∷ 0x30 ∷ 0x31 ∷ 0x1d ∷ []

-- a text begins with the header
unfoldable pub header_at : List ℕ → Bool
header_at s = same (take 7 s) header

-- where the header "first stands" in a text, or its length
unfoldable pub header_place : List ℕ → ℕ
header_place [] = zero
header_place (b ∷ s) = cond (header_at (b ∷ s)) zero (suc (header_place s))

-- of the bytes before the header, s, those "from 6 up to it are digits and at least one"
unfoldable pub postal : List ℕ → Bool
postal s = ltb 6 (length s) && all_digits (drop 6 s)

-- "If it first stands at 6 or later in the decoded data, mode 2 when [..], else 3; otherwise mode 4"
unfoldable pub auto_mode : List ℕ → ℤ
auto_mode d =
    cond (ltb (header_place d) (length d) && leb 6 (header_place d))
    (cond (postal (take (header_place d) d)) (pos 2) (pos 3))
    (pos 4)
