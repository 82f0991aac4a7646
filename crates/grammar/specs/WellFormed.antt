-- Well-formed command lines (01, "Grammar"), stated on the command that a line spells, its blanks off.
use Rattle.std.specs.Prelude.{ℕ, Bool, true, false, cond, not, ◌&&◌, ◌||◌, List, eqb, leb, length, drop}
use Rattle.text.specs.Ascii.{ascii}
use Rattle.text.specs.Blank.{trim}
use Rattle.text.specs.Fields.{fields, field, quoted, same}
use Rattle.text.specs.Table.{any_of}
use Rattle.text.specs.Utf8.{decode}
use Rattle.command_letters.specs.declared.command.Command.{Command}
use Rattle.command_letters.specs.declared.command.Command.TheVariants.{Clear, Reference, Data, Line}
use Rattle.command_letters.specs.declared.command.Command.TheVariants.{Diagonal, Box, Print}
use Rattle.command_letters.specs.declared.command.Command.TheVariants.{Other}
use Rattle.command_letters.specs.declared.command.DataCommand.{DataCommand}
use Rattle.command_letters.specs.declared.command.DataCommand.TheVariants.{Text, Barcode, Barcode2d}
use Rattle.command_letters.specs.Command.{command_of}
use Rattle.barcodes.specs.Barcode.{types}
use Rattle.barcodes_2d.specs.Barcode2d.{types2d}
use Rattle.commands.specs.Line.{params_of}

-- at least n fields
abbrev pub at_least : ℕ → List ℕ → Bool
at_least n s = leb n (length (fields s))

-- "Fewer than two quotes, or no data: nothing is read"
abbrev pub is_read : List ℕ → Bool
is_read t = not (eqb (length (quoted t)) 0)

-- "fields before the data, trailing commas dropped, number at least 7, 8, 3"
abbrev pub data_counted : DataCommand → List ℕ → Bool
data_counted Text s = at_least 7 s
data_counted Barcode s = at_least 8 s
data_counted Barcode2d s = at_least 3 s

-- "its type, blanks off, in this list: fourth field of `B` .., third of `b` .."
abbrev pub data_typed : DataCommand → List ℕ → Bool
data_typed Text s = true
data_typed Barcode s = any_of types (trim (field s 3))
data_typed Barcode2d s = any_of types2d (trim (field s 2))

-- "and QR data of at most 9,999 decoded bytes"
abbrev pub data_sized : DataCommand → List ℕ → List ℕ → Bool
data_sized Text s d = true
data_sized Barcode s d = true
data_sized Barcode2d s d = not (same (trim (field s 2)) (ascii "Q")) || leb (length (decode d)) 9999

-- the fields of a line t that spells c
abbrev pub counted : Command → List ℕ → Bool
counted Clear t = true
counted Reference t = true
counted (Data c) t = data_counted c (params_of t)
-- "`LO`, `LW`, `LE` at least 4 fields; `LS`, `X` at least 5; no commas dropped"
counted (Line c) t = at_least 4 (drop 2 t)
counted Diagonal t = at_least 5 (drop 2 t)
counted Box t = at_least 5 (drop 1 t)
counted Print t = true
counted Other t = true

-- the type of a line t that spells c
abbrev pub typed : Command → List ℕ → Bool
typed (Data c) t = data_typed c (params_of t)
typed Clear t = true
typed Reference t = true
typed (Line c) t = true
typed Diagonal t = true
typed Box t = true
typed Print t = true
typed Other t = true

-- the data of a line t that spells c
abbrev pub sized : Command → List ℕ → Bool
sized (Data c) t = data_sized c (params_of t) (quoted t)
sized Clear t = true
sized Reference t = true
sized (Line c) t = true
sized Diagonal t = true
sized Box t = true
sized Print t = true
sized Other t = true

-- a line whose data is not read asks for nothing; nor do `N`, `R`, a print line and one that is passed over
abbrev pub asks_nothing : Command → List ℕ → Bool
asks_nothing (Data c) t = not (is_read t)
asks_nothing Clear t = true
asks_nothing Reference t = true
asks_nothing (Line c) t = false
asks_nothing Diagonal t = false
asks_nothing Box t = false
asks_nothing Print t = true
asks_nothing Other t = true

abbrev pub well_formed_as : Command → List ℕ → Bool
well_formed_as c t = asks_nothing c t || (counted c t && typed c t && sized c t)

unfoldable pub well_formed : List ℕ → Bool
well_formed t = well_formed_as (command_of t) t

-- "1 `A`, 2 `B`, 3 `b`, 4 `LO`/`LW`/`LE`, 5 `LS`, 6 `X` with too few fields"
abbrev pub count_fault : Command → ℕ
count_fault (Data Text) = 1
count_fault (Data Barcode) = 2
count_fault (Data Barcode2d) = 3
count_fault (Line c) = 4
count_fault Diagonal = 5
count_fault Box = 6
count_fault Clear = 0
count_fault Reference = 0
count_fault Print = 0
count_fault Other = 0

-- "7 type of `B`; 8 type of `b`"
abbrev pub type_fault : Command → ℕ
type_fault (Data Text) = 0
type_fault (Data Barcode) = 7
type_fault (Data Barcode2d) = 8
type_fault Clear = 0
type_fault Reference = 0
type_fault (Line c) = 0
type_fault Diagonal = 0
type_fault Box = 0
type_fault Print = 0
type_fault Other = 0

-- "Within a line: count, type, data size"
abbrev pub fault_as : Command → List ℕ → ℕ
fault_as c t = cond (counted c t) (cond (typed c t) 9 (type_fault c)) (count_fault c)

-- the number of a line that is not well formed
unfoldable pub fault_of : List ℕ → ℕ
fault_of t = fault_as (command_of t) t
