-- The kind of the element that a unit yields, and where it stands (01, "Grammar" and "Frames"), from the command that
-- is spelled, its fields and the reference.
use Rattle.std.specs.Prelude.{◌≡◌, List, [], ◌∷◌, ℕ}
use Rattle.text.specs.Ascii.{ascii}
use Rattle.text.specs.Blank.{trim}
use Rattle.text.specs.Fields.{field}
use Rattle.text.specs.Table.{Row, row, meaning}
use Rattle.elements.specs.declared.LabelElement.{LabelElement}
use Rattle.elements.specs.declared.LabelPosition.{LabelPosition}
use Rattle.elements.specs.Plain.{plain_of}
use Rattle.command_letters.specs.declared.command.Command.{Command}
use Rattle.command_letters.specs.declared.command.Command.TheVariants.{Clear, Reference, Data, Line}
use Rattle.command_letters.specs.declared.command.Command.TheVariants.{Diagonal, Box, Print}
use Rattle.command_letters.specs.declared.command.Command.TheVariants.{Other}
use Rattle.command_letters.specs.declared.command.DataCommand.{DataCommand}
use Rattle.command_letters.specs.declared.command.DataCommand.TheVariants.{Text, Barcode, Barcode2d}
use Rattle.command_letters.specs.Command.{command_of}
use Rattle.commands.specs.Line.{params_of}
use Rattle.grammar.specs.Units.{EplUnit, block, line, last}
use Rattle.grammar.specs.Ranges.{sums_of}

-- "All others begin kind, x, y": an element's kind
abbrev pub kind_of : LabelElement → ℕ
kind_of e = (plain_of e).kind

-- where an element stands
abbrev pub place_of : LabelElement → LabelPosition
place_of e = (plain_of e).position

-- the kinds by the type of `B`, apart from the readers' table: "`0` is Code 128 .., `1E` .., `1`, `1A`, `1B`, `1C` ..;
-- `2` is 2 of 5 .., `2C` and `2D` ..; `3` is Code 39 .., `3C` ..; `E30` EAN-13, `E80` EAN-8, `UA0` UPC-A, `UE0` UPC-E"
abbrev pub bar_kinds : List (Row ℕ)
bar_kinds =
    row (ascii "0") 0x05 ∷ row (ascii "1") 0x05 ∷ row (ascii "1A") 0x05 ∷ row (ascii "1B") 0x05 ∷ row (ascii "1C") 0x05
    ∷ row (ascii "1E") 0x05 ∷ row (ascii "2") 0x09 ∷ row (ascii "2C") 0x09 ∷ row (ascii "2D") 0x09
    ∷ row (ascii "3") 0x0a ∷ row (ascii "3C") 0x0a ∷ row (ascii "E30") 0x06 ∷ row (ascii "E80") 0x07
    ∷ row (ascii "UA0") 0x08 ∷ row (ascii "UE0") 0x10 ∷ []

-- by the type of `b`: "`A` Aztec, `D` Data Matrix, `M` MaxiCode, `P` PDF417, `Q` QR"
abbrev pub matrix_kinds : List (Row ℕ)
matrix_kinds =
    row (ascii "A") 0x0c ∷ row (ascii "D") 0x0d ∷ row (ascii "M") 0x0f
    ∷ row (ascii "P") 0x0b ∷ row (ascii "Q") 0x0e ∷ []

-- the type is the "fourth field of `B`", the "third of `b`", "blanks off"
abbrev pub data_kind : DataCommand → List ℕ → ℕ
data_kind Text s = 0x01
data_kind Barcode s = meaning 0 bar_kinds (trim (field s 3))
data_kind Barcode2d s = meaning 0 matrix_kinds (trim (field s 2))

-- the kind of what a line t yields that spells c, 0 where it yields nothing
abbrev pub kind_as : Command → List ℕ → ℕ
kind_as (Data c) t = data_kind c (params_of t)
kind_as (Line c) t = 0x02
kind_as Diagonal t = 0x03
kind_as Box t = 0x02
kind_as Clear t = 0
kind_as Reference t = 0
kind_as Print t = 0
kind_as Other t = 0

-- the kind of what a unit yields
abbrev pub kind_by : EplUnit → ℕ
kind_by (block bs h p) = 0x04
kind_by (line t) = kind_as (command_of (trim t)) (trim t)
kind_by (last t) = kind_as (command_of (trim t)) (trim t)

-- the element e is of the kind that u's command has, and stands where u's sums with the reference say
pub record Shape (r : LabelPosition) (u : EplUnit) (e : LabelElement) : Type 0 where
  pub kind : kind_of e ≡ kind_by u
  pub place : (place_of e).x ∷ (place_of e).y ∷ [] ≡ sums_of r u
