-- The theory's entries for those of the code, and the next one.
use Rattle.std.specs.Prelude.{List, [], ◌∷◌, ℕ, ◌≤◌, length, drop}
use Rattle.elements.specs.declared.LabelPosition.{LabelPosition}
use Rattle.elements.specs.Given.{longest}
use Rattle.walk_theory.specs.Index.{Entry}
use Rattle.walk_theory.specs.Next as theory
use Rattle.grammar.specs.Epl.{epl, origin}
use Rattle.label_index.specs.declared.entry.LabelEntry.{LabelEntry}
use Rattle.label_index.specs.declared.entry.Cursor.{Cursor}

abbrev pub EplEntry : Type 0
EplEntry = Entry LabelPosition

-- "An entry holds first and last place, element count, and the reference point at its start"
abbrev pub entry_of : LabelEntry → EplEntry
entry_of e = record { from = e.first; upto = e.last; count = e.count; start = e.reference }

abbrev pub entry_from : EplEntry → LabelEntry
entry_from e = record { first = e.from; last = e.upto; count = e.count; reference = e.start }

-- a list of the code's as the theory's, and back
abbrev pub entries_of : List LabelEntry → List EplEntry
entries_of [] = []
entries_of (e ∷ es) = entry_of e ∷ entries_of es

abbrev pub entries_from : List EplEntry → List LabelEntry
entries_from [] = []
entries_from (e ∷ es) = entry_from e ∷ entries_from es

-- an entry of nothing
abbrev pub no_entry : LabelEntry
no_entry = record { first = 0; last = 0; count = 0; reference = origin }

-- ---- inner: one entry behind the other
abbrev pub cursor_of : Cursor → theory.Cursor LabelPosition
cursor_of c = record { entry = entry_of c.entry; ref = c.reference }

abbrev pub cursor_from : theory.Cursor LabelPosition → Cursor
cursor_from c = record { entry = entry_from c.entry; reference = c.ref }

-- before the first byte
abbrev pub begins : Cursor
begins = record { entry = no_entry; reference = origin }

-- the next label's entry behind the one that a cursor holds
abbrev pub next_of : List ℕ → Cursor → Cursor
next_of s c = cursor_from (theory.next epl s (cursor_of c))

-- what a turn asks: an input that is not too long, and a place within it from which nothing is refused
pub record Within (s : List ℕ) (at : ℕ) (r : LabelPosition) : Type 0 where
  pub short : length s ≤ longest
  pub inside : at ≤ length s
  pub unrefused : theory.Unrefused epl (drop at s) r

abbrev pub WithinCursor : List ℕ → Cursor → Type 0
WithinCursor s c = Within s c.entry.last c.reference
