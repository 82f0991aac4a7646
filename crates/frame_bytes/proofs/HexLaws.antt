-- Digits and lines put together (`hexes_append`), and lengths: of digits, of a line, of a big-endian number
-- (`length_hexes`, `length_line`, `length_be32`). Assumes nothing.
use mathlib.Core.Path.{◌≡◌, refl, ap}
use mathlib.Core.List.{List, [], ◌∷◌, ◌++◌}
use Prim.Native.Nat.{ℕ, ◌+◌, ◌*◌, ◌/◌, ◌%◌}
use native.Mathlib.Omega.{arith}
use lib.ListN.{length, length-append}
use Rattle.frame_bytes.specs.Frame.{be32}
use Rattle.frame_bytes.specs.Hex.{digit, hexes, line_of}

pub hexes_append : (xs ys : List ℕ) → hexes (xs ++ ys) ≡ hexes xs ++ hexes ys
hexes_append [] ys = refl
hexes_append (x ∷ xs) ys = ap (λ (l : List ℕ). digit (x / 16) ∷ digit (x % 16) ∷ l) (hexes_append xs ys)

pub length_hexes : (xs : List ℕ) → length (hexes xs) ≡ 2 * length xs
length_hexes [] = refl
length_hexes (x ∷ xs) = let h = length_hexes xs in omega arith

pub length_line : (f : List ℕ) → length (line_of f) ≡ 2 * length f + 1
length_line f = let h = length_hexes f in simp length-append (omega arith)

pub length_be32 : (v : ℕ) → length (be32 v) ≡ 4
unfolding be32
length_be32 v = refl
