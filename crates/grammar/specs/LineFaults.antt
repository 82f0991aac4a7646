-- What is wrong with a command line, its blanks off, and its number (01, "Who causes which number"). Nothing here
-- speaks of how it is told.
use Rattle.std.specs.Prelude.{◌≡◌, List, [], ◌∷◌, ◌⊎◌, ℕ, ◌≤◌, ◌<◌, length, drop}
use Rattle.text.specs.Ascii.{ascii}
use Rattle.text.specs.Blank.{trim}
use Rattle.text.specs.Fields.{fields, field, quoted}
use Rattle.text.specs.Utf8.{decode}
use Rattle.elements.specs.declared.LineColor.{LineColor}
use Rattle.command_letters.specs.declared.command.Command.TheVariants.{Data, Line, Diagonal, Box}
use Rattle.command_letters.specs.declared.command.DataCommand.{DataCommand}
use Rattle.command_letters.specs.declared.command.DataCommand.TheVariants.{Text, Barcode, Barcode2d}
use Rattle.commands.specs.Line.{params_of}
use Rattle.grammar.specs.Spelled.{Spells}

-- the number of fields
abbrev pub count : List ℕ → ℕ
count s = length (fields s)

-- f is one of some texts
abbrev pub OneOf : List (List ℕ) → List ℕ → Type 0
OneOf [] f = ⊥
OneOf (x ∷ xs) f = (f ≡ x) ⊎ OneOf xs f

-- a command whose data is read: "Fewer than two quotes, or no data: nothing is read"
abbrev pub SpellsRead : DataCommand → List ℕ → Type 0
SpellsRead c t = Spells (Data c) t × (0 < length (quoted t))

-- "fourth field of `B` `0 1 1A 1B 1C 1E 2 2C 2D 3 3C E30 E80 UA0 UE0`"; the readers' table is apart from this list
abbrev pub bar_types : List (List ℕ)
bar_types =
    ascii "0" ∷ ascii "1" ∷ ascii "1A" ∷ ascii "1B" ∷ ascii "1C" ∷ ascii "1E" ∷ ascii "2" ∷ ascii "2C" ∷ ascii "2D"
    ∷ ascii "3" ∷ ascii "3C" ∷ ascii "E30" ∷ ascii "E80" ∷ ascii "UA0" ∷ ascii "UE0" ∷ []

-- "third of `b` `A D M P Q`"
abbrev pub matrix_types : List (List ℕ)
matrix_types = ascii "A" ∷ ascii "D" ∷ ascii "M" ∷ ascii "P" ∷ ascii "Q" ∷ []

-- the faults of a line t whose blanks are off: "Within a line: count, type, data size"
pub data LineFault (t : List ℕ) : ℕ → Type 0 where
  -- "1 `A`, 2 `B`, 3 `b`, 4 `LO`/`LW`/`LE`, 5 `LS`, 6 `X` with too few fields"
  few_a : SpellsRead Text t → count (params_of t) < 7 → LineFault t 1
  few_b : SpellsRead Barcode t → count (params_of t) < 8 → LineFault t 2
  few_2d : SpellsRead Barcode2d t → count (params_of t) < 3 → LineFault t 3
  few_line : {c : LineColor} → Spells (Line c) t → count (drop 2 t) < 4 → LineFault t 4
  few_ls : Spells Diagonal t → count (drop 2 t) < 5 → LineFault t 5
  few_x : Spells Box t → count (drop 1 t) < 5 → LineFault t 6
  -- "7 type of `B`; 8 type of `b`; 9 QR data over 9,999 bytes"; "its type, blanks off, in this list: fourth field of
  -- `B` .., third of `b` .."
  type_b : SpellsRead Barcode t → 8 ≤ count (params_of t)
      → (OneOf bar_types (trim (field (params_of t) 3)) → ⊥) → LineFault t 7
  type_2d : SpellsRead Barcode2d t → 3 ≤ count (params_of t)
      → (OneOf matrix_types (trim (field (params_of t) 2)) → ⊥) → LineFault t 8
  long_qr : SpellsRead Barcode2d t → 3 ≤ count (params_of t) → trim (field (params_of t) 2) ≡ ascii "Q"
      → 9999 < length (decode (quoted t)) → LineFault t 9
