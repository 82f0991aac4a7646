-- A line told by its first bytes: how long it is and how many elements it draws, in a file that is not refused.
use Rattle.std.specs.Prelude.{◌≡◌, Bool, cond, not, ◌&&◌, ◌||◌, List, ℕ, ◌+◌, ◌-◌, ◌≤◌, ◌<◌, eqb, length, take, get_or}
use Rattle.text.specs.Ascii.{letter}
use Rattle.text.specs.Blank.{trim_end}
use Rattle.text.specs.Fields.{index_of}
use Rattle.text.specs.Scan.{size_by}
use Rattle.text.specs.Utf8.{within}
use Rattle.elements.specs.declared.LabelPosition.{LabelPosition}
use Rattle.elements.specs.declared.walk_state.WalkState.{WalkState}
use Rattle.walk_theory.specs.Index.{hand}
use Rattle.walk_theory.specs.Next as theory
use Rattle.grammar.specs.Epl.{epl}
use Rattle.grammar.specs.WellFormed.{is_read}
use Rattle.label_index.specs.declared.glance.Seen.{Seen}
use Rattle.label_index.specs.Entries.{Within}

abbrev pub untold : Seen
untold = record { size = 0; drawn = 0 }

-- `A`, `B`, `b`
abbrev pub has_quotes : ℕ → Bool
has_quotes b = eqb b (letter "A") || eqb b (letter "B") || eqb b (letter "b")

-- the second letter of `LO`, `LW`, `LE`, `LS`
abbrev pub is_line_letter : ℕ → Bool
is_line_letter c = eqb c (letter "O") || eqb c (letter "W") || eqb c (letter "E") || eqb c (letter "S")

-- no blank; no graphic block; none of `N`, `R`, `P`, which are left to the reader of a line
abbrev pub tells : ℕ → Bool
tells b =
    within 0x21 0x7f b && not (eqb b (letter "G")) && not (eqb b (letter "N")) && not (eqb b (letter "R"))
    && not (eqb b (letter "P"))

-- a line draws an element, b being its first byte and t the line without its blanks
abbrev pub draws : ℕ → List ℕ → Bool
draws b t =
    cond (has_quotes b) (is_read t) (cond (eqb b (letter "L")) (is_line_letter (get_or t 1 0)) (eqb b (letter "X")))

-- a line of so many bytes
abbrev pub told_by : ℕ → Bool → Seen
told_by size d = record { size = size; drawn = cond d 1 0 }

-- what stands first in rest
unfoldable pub glance_of : List ℕ → Seen
glance_of rest =
    cond (tells (get_or rest 0 0))
    (told_by (size_by (index_of 10 rest) (length rest)) (draws (get_or rest 0 0) (trim_end (take (index_of 10 rest) rest))))
    untold

-- ---- inner: so many such lines in a row
-- w' stands behind lines from w on that are told so: where no more is pending than before it, and one too many, the
-- next entry is the same from there
pub record Past (s : List ℕ) (w w' : WalkState) : Type 0 where
  pub within : Within s w'.place w'.reference
  pub some : 0 < w'.pending
  pub few : w'.pending ≤ w'.place + 1
  pub later : w.place ≤ w'.place
  pub same_next : (c : theory.Cursor LabelPosition) (from : ℕ) (start : LabelPosition)
      → theory.next_from epl s c w.place (hand from start w.reference (w.pending - 1))
      ≡ theory.next_from epl s c w'.place (hand from start w'.reference (w'.pending - 1))
