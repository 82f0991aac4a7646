-- What becomes of units in the normalised text (01, "format.rs"). Nothing here speaks of how it is written.
use Rattle.std.specs.Prelude.{◌≡◌, false, List, [], ◌∷◌, ◌++◌, reverse, ℕ}
use Rattle.text.specs.Blank.{is_ascii_blank}
use Rattle.grammar.specs.Units.{Header, EplUnit, block, line, last, bytes, All}

-- no ASCII blank stands first
abbrev pub Bare : List ℕ → Type 0
Bare [] = Unit
Bare (b ∷ t) = is_ascii_blank b ≡ false

-- t "loses the ASCII blanks at its ends and no other": u is left
pub record Stripped (t u : List ℕ) : Type 0 where
  pub before : List ℕ
  pub behind : List ℕ
  pub cut : t ≡ before ++ (u ++ behind)
  pub blanks_before : All is_ascii_blank before
  pub blanks_behind : All is_ascii_blank behind
  pub first : Bare u
  pub last : Bare (reverse u)

-- "one left empty is dropped; every other line .. is followed by one LF", and then n
abbrev pub ended : List ℕ → List ℕ → List ℕ
ended [] n = n
ended (b ∷ u) n = (b ∷ u) ++ 10 ∷ n

-- units, and the text that they become
pub data Becomes : List EplUnit → List ℕ → Type 0 where
  nothing : Becomes [] []
  -- "every block, copied whole, is followed by one LF"
  a_block : (bs : List ℕ) (h : Header) (p : List ℕ) (us : List EplUnit) (n : List ℕ) → Becomes us n
      → Becomes (block bs h p ∷ us) (bytes (block bs h p) ++ 10 ∷ n)
  a_line : (t u : List ℕ) (us : List EplUnit) (n : List ℕ) → Stripped t u → Becomes us n
      → Becomes (line t ∷ us) (ended u n)
  a_last : (t u : List ℕ) (us : List EplUnit) (n : List ℕ) → Stripped t u → Becomes us n
      → Becomes (last t ∷ us) (ended u n)
