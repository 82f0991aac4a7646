-- A line of the normalised text (01, "format.rs").
use Rattle.std.specs.Prelude.{◌≡◌, List, [], ◌∷◌, ◌++◌, ℕ, length}
use Rattle.text.specs.Blank.{front, drop_end, is_ascii_blank, trim_ascii}
use Rattle.text.specs.Scan.{size_by}
use Rattle.text.specs.Wrote.{Put}
use Rattle.grammar.specs.Units.{not_lf}
use Rattle.normal_lines.specs.declared.line.Kept.{Kept}
use Rattle.normal_lines.specs.declared.line.Line.{Line}

-- "one left empty is dropped; every other line, and every block, copied whole, is followed by one LF"
abbrev pub ended : List ℕ → List ℕ
ended [] = []
ended (b ∷ t) = (b ∷ t) ++ 10 ∷ []

-- the bytes of the line that stands first in s, its LF among them
abbrev pub line_size : List ℕ → ℕ
line_size s = size_by (length (front not_lf s)) (length s)

-- the line that stands first in s: its bytes, and what is left of it
pub record Keeps (s : List ℕ) (r : Kept) : Type 0 where
  pub size : r.size ≡ line_size s
  pub len : r.len ≡ length (trim_ascii (front not_lf s))

-- the line that stands first in s, put from at on: its bytes, and the place behind what was put
pub record PutsLine (n l s : List ℕ) (at : ℕ) (r : Line) : Type 0 where
  pub put : Put n l at (ended (trim_ascii (front not_lf s))) r.to
  pub size : r.size ≡ line_size s

-- a line t with nothing behind it, put from at on without the blanks at its end: its bytes without its LF, and the
-- place behind what was put
pub record PutsPieces (n l t : List ℕ) (at : ℕ) (r : Line) : Type 0 where
  pub put : Put n l at (drop_end is_ascii_blank (front not_lf t)) r.to
  pub size : r.size ≡ length (front not_lf t)
