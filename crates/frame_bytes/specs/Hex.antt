-- How a frame is printed (01, "Frames": "one frame a line: two lowercase hexadecimal digits a byte, LF").
use Rattle.std.specs.Prelude.{cond, List, [], ◌∷◌, ◌++◌, ℕ, ◌+◌, ◌/◌, ◌%◌, ltb}

-- "lowercase hexadecimal": 0 to 9, a to f
abbrev pub digit : ℕ → ℕ
digit n = cond (ltb n 10) (48 + n) (87 + n)

-- "two lowercase hexadecimal digits a byte"
abbrev pub hexes : List ℕ → List ℕ
hexes [] = []
hexes (b ∷ bs) = digit (b / 16) ∷ digit (b % 16) ∷ hexes bs

-- "one frame a line: .., LF"
abbrev pub line_of : List ℕ → List ℕ
line_of f = hexes f ++ (10 ∷ [])
