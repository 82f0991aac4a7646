-- Normalised text, of any string, refused ones too (01, "format.rs").
use Rattle.std.specs.Prelude.{List, [], ◌∷◌, ◌++◌, ℕ, zero, suc, length}
use Rattle.text.specs.Blank.{trim_ascii}
use Rattle.graphics.specs.declared.gw_span.Graphic.{Graphic}
use Rattle.graphics.specs.declared.gw_span.Graphic.TheVariants as graphic
use Rattle.graphics.specs.Block.{gw_span}
use Rattle.walk_theory.specs.Language.{First, none, bad, unit}
use Rattle.walk_theory.specs.Normal.{each}
use Rattle.grammar.specs.Units.{EplUnit, block, line, last, bytes}
use Rattle.grammar.specs.Found.{text_line, found}

-- "one left empty is dropped"
abbrev pub kept : List ℕ → List EplUnit
kept [] = []
kept (b ∷ t) = line (b ∷ t) ∷ []

-- "a command line loses the ASCII blanks at its ends"; "every block, copied whole, is followed by one LF", which then
-- reads as an empty line
abbrev pub normal : EplUnit → List EplUnit
normal (block bs h p) = block bs h p ∷ line [] ∷ []
normal (line t) = kept (trim_ascii t)
normal (last t) = kept (trim_ascii t)

-- the graphic block of a unit
abbrev pub blocks : EplUnit → List (List ℕ)
blocks (block bs h p) = bytes (block bs h p) ∷ []
blocks (line t) = []
blocks (last t) = []

-- what is taken first: a block where one stands, else a line as text; "A malformed `GW` line is normalised as text"
abbrev pub chunk_by : List ℕ → Graphic → First EplUnit
chunk_by s graphic.NoGraphic = text_line s
chunk_by s (graphic.Refused n) = text_line s
chunk_by s (graphic.Span g) = found s (graphic.Span g)

unfoldable pub chunk : List ℕ → First EplUnit
chunk s = chunk_by s (gw_span s)

-- "every other line, and every block, copied whole, is followed by one LF"
abbrev pub written : First EplUnit → (List ℕ → List ℕ) → List ℕ
written none go = []
written (bad n) go = []
written (unit u rest) go = each bytes (normal u) ++ go rest

-- each chunk takes a byte at least, so the length bounds them
abbrev pub normalised_by : ℕ → List ℕ → List ℕ
normalised_by zero s = []
normalised_by (suc k) s = written (chunk s) (normalised_by k)

unfoldable pub normalised : List ℕ → List ℕ
normalised s = normalised_by (suc (length s)) s
