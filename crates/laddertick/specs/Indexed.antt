-- 01, "The label index", on files: their entries, and what opening one is due. `indexed` (proofs/IndexedRows.antt): every
-- row holds.
use Rattle.std.specs.Prelude.{List, [], ◌∷◌, ℕ, ℤ, pos}
use Prim.Native.String.{String}
use Rattle.text.specs.Ascii.{ascii}
use Rattle.elements.specs.Given.{text, denied}
use Rattle.walk_theory.specs.Index.{filled, unfilled}
use Rattle.label_index.specs.declared.entry.LabelEntry.{LabelEntry}
use Rattle.label_index.specs.Entries.{EplEntry, entry_of}
use Rattle.laddertick.specs.Table.{Case, indexes, opens}

-- How the rows are written: an entry by its first and last place, its count and its reference; a file with its entries,
-- or with its refusal, for a list of m entries; and a label opened by its number, or refused
abbrev entry : ℕ → ℕ → ℕ → ℤ → ℤ → LabelEntry
entry first last count x y = record { first = first; last = last; count = count; reference = record { x = x; y = y } }

abbrev each_of : List LabelEntry → List EplEntry
each_of [] = []
each_of (e ∷ es) = entry_of e ∷ each_of es

abbrev index : String → ℕ → List LabelEntry → Case
index s m es = indexes (ascii s) m (filled (each_of es))

abbrev no_index : String → ℕ → ℕ → ℕ → Case
no_index s m n p = indexes (ascii s) m (unfilled n p)

abbrev label : String → List LabelEntry → ℕ → String → Case
label s es i t = opens (ascii s) es i (text (ascii t))

abbrev is_no_label : String → List LabelEntry → ℕ → ℕ → ℕ → Case
is_no_label s es i n p = opens (ascii s) es i (denied n p)

-- two labels: an `R` inside the first, an `N` inside the second
abbrev two : String
two = "R5,6\nLO1,2,3,4\nLO5,6,7,8\nR7,8\nP\nN\nX1,2,3,4,5\nP2,3\n"

abbrev entries : List LabelEntry
entries = entry 0 32 2 (pos 0) (pos 0) ∷ entry 32 50 1 (pos 7) (pos 8) ∷ []

abbrev pub table : List Case
table =
    -- "one entry a label in print order"; first and last place, element count, and the reference point at its start
    index two 2 entries
    ∷ index "R5,6\nP\nLO1,2,3,4\nP\nLO,,,\nLO,,,\nP" 9
    (entry 7 19 1 (pos 5) (pos 6) ∷ entry 19 32 2 (pos 5) (pos 6) ∷ [])
    -- "An entry starts just after the print line before it, one that printed nothing included, or at 0"
    ∷ index "P\nLO,,,\nP" 1 (entry 2 9 1 (pos 0) (pos 0) ∷ [])
    ∷ index "N\nLO,,,\nP" 1 (entry 0 9 1 (pos 0) (pos 0) ∷ [])
    -- elements pending at the end are no label
    ∷ index "LO,,,\nP\nLO,,,\n" 1 (entry 0 8 1 (pos 0) (pos 0) ∷ [])
    ∷ index "" 0 []
    -- "20 more labels than entries (place: the label count), after all refusals of the file"
    ∷ no_index two 1 20 2
    ∷ no_index "LO,,,\nP\nX1" 0 6 8
    -- "Any label read from its entry alone gives the frames that the full listing has for it"
    ∷ label two entries 0
    "00000000020000000100000001\n02000000060000000800000003000000040000000300\n020000000a0000000c00000007000000080000000700\n"
    ∷ label two entries 1
    "00000000010000000200000003\n02000000010000000200000003000000030000000300\n"
    -- the entry's own count is not looked at; with another reference the label stands elsewhere
    ∷ label "LO1,2,3,4\nP\nX1" (entry 0 12 9 (pos 10) (pos 20) ∷ []) 0
    "00000000010000000100000001\n020000000b0000001600000003000000040000000300\n"
    -- "21 an entry number past the last label (place: the number)"; or the entry yields none
    ∷ is_no_label two entries 2 21 2
    ∷ is_no_label two (entry 0 30 2 (pos 0) (pos 0) ∷ []) 0 21 0
    -- "An entry made otherwise gets 16 (place: its last place) if that is past the end or before its first"
    ∷ is_no_label two (entry 0 51 2 (pos 0) (pos 0) ∷ []) 0 16 51
    ∷ is_no_label two (entry 33 32 2 (pos 0) (pos 0) ∷ []) 0 16 32
    -- the refusals of the lines read: a box out of range at this reference; half a line
    ∷ is_no_label "LO1,2,3,4\nP" (entry 0 11 1 (pos 2147483647) (pos 0) ∷ []) 0 13 0
    ∷ is_no_label two (entry 5 10 2 (pos 0) (pos 0) ∷ []) 0 4 5
    ∷ []
