-- Command lines (01, "Grammar"): what a line says at a reference.
use Rattle.std.specs.Prelude.{ℕ, ◌+◌, ◌-◌, cond, List, eqb, length, drop}
use Rattle.text.specs.Blank.{trim_start, trim}
use Rattle.text.specs.Fields.{index_of, before, quoted, without_trailing_commas}
use Rattle.elements.specs.declared.DataSpan.{DataSpan}
use Rattle.elements.specs.declared.LabelPosition.{LabelPosition}
use Rattle.elements.specs.declared.PrintCounts.{PrintCounts}
use Rattle.command_letters.specs.declared.command.Command.{Command}
use Rattle.command_letters.specs.declared.command.Command.TheVariants.{Clear, Reference, Data, Line}
use Rattle.command_letters.specs.declared.command.Command.TheVariants.{Diagonal, Box, Print}
use Rattle.command_letters.specs.declared.command.Command.TheVariants.{Other}
use Rattle.command_letters.specs.declared.command.DataCommand.{DataCommand}
use Rattle.command_letters.specs.declared.command.DataCommand.TheVariants.{Text, Barcode, Barcode2d}
use Rattle.parameters.specs.declared.reading.LineReading.{LineReading}
use Rattle.parameters.specs.declared.reading.LineReading.TheVariants as reading
use Rattle.barcodes.specs.Barcode.{barcode_reading}
use Rattle.barcodes_2d.specs.Barcode2d.{barcode2d_reading}
use Rattle.draws.specs.Draw.{line_reading, diagonal_reading, box_reading}
use Rattle.command_letters.specs.Command.{command_of}
use Rattle.command_letters.specs.Print.{counts_of}
use Rattle.command_letters.specs.Reference.{reference_of}
use Rattle.texts.specs.Text.{text_reading}

-- "fields before the data, trailing commas dropped"; they begin behind the letter
unfoldable pub params_of : List ℕ → List ℕ
params_of t = without_trailing_commas (drop 1 (before 34 t))

-- a command with its parameters s, its data t and the data's place
abbrev pub with_data : DataCommand → List ℕ → List ℕ → DataSpan → LabelPosition → LineReading
with_data Text s t d r = text_reading s d r
with_data Barcode s t d r = barcode_reading s d r
with_data Barcode2d s t d r = barcode2d_reading s t d r

-- the data's place in a line that lead bytes of blanks stand before
abbrev pub span_of : ℕ → List ℕ → DataSpan
span_of lead t = record { start = lead + index_of 34 t + 1; len = length (quoted t) }

-- "Fewer than two quotes, or no data: nothing is read"
unfoldable pub quoted_reading : DataCommand → ℕ → List ℕ → LabelPosition → LineReading
quoted_reading c lead t r =
    cond (eqb (length (quoted t)) 0) reading.Passed (with_data c (params_of t) (quoted t) (span_of lead t) r)

-- "`R` and `N` set the reference": what a line says that sets it to p
abbrev pub set_to : LabelPosition → LineReading
set_to p = reading.Reference p.x p.y

-- what a print line says
abbrev pub prints : PrintCounts → LineReading
prints c = reading.Print c.sets c.copies

abbrev pub command_reading : Command → ℕ → List ℕ → LabelPosition → LineReading
command_reading Clear lead t r = reading.Clear
command_reading Reference lead t r = set_to (reference_of (drop 1 t) r)
command_reading (Data c) lead t r = quoted_reading c lead t r
command_reading (Line c) lead t r = line_reading (drop 2 t) c r
command_reading Diagonal lead t r = diagonal_reading (drop 2 t) r
command_reading Box lead t r = box_reading (drop 1 t) r
command_reading Print lead t r = prints (counts_of (drop 1 t))
command_reading Other lead t r = reading.Passed

-- the bytes of Unicode blanks that a line begins with
abbrev pub lead_of : List ℕ → ℕ
lead_of line = length line - length (trim_start line)

-- a line, "After its Unicode blanks .. are taken off both ends"; data is counted from the line's first byte
unfoldable pub read_line : List ℕ → LabelPosition → LineReading
read_line line r = command_reading (command_of (trim line)) (lead_of line) (trim line) r
