-- How bytes are written as characters in definitions and tables.
use Rattle.std.specs.Prelude.{List, [], ◌∷◌, ℕ}
use Prim.Native.Char.{code}
use Prim.Native.String.{String}
use Prim.Native.String as string

-- the bytes of a text of ASCII characters, and then t
abbrev pub spelt : String → List ℕ → List ℕ
spelt string.[] t = t
spelt (string.◌∷◌ c s) t = code c ∷ spelt s t

abbrev pub ascii : String → List ℕ
ascii s = spelt s []

-- the byte of a text of one ASCII character, 0 for an empty one
abbrev pub letter : String → ℕ
letter string.[] = 0
letter (string.◌∷◌ c s) = code c
