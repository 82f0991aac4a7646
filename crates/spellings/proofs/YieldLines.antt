-- What any line yields at reference 0,0 has the numbers of a writable element (01, "Writing EPL": 23 for no other
-- element). Assumes nothing.
use mathlib.Core.List.{List}
use Prim.Native.Nat.{ℕ}
use lib.Dec.{eqb}
use lib.ListN.{length, drop}
use Rattle.text.specs.Blank.{trim}
use Rattle.text.specs.Fields.{quoted}
use Rattle.text.proofs.BoolLaws.{test}
use Rattle.elements.specs.declared.DataSpan.{DataSpan}
use Rattle.command_letters.specs.declared.command.Command.{Command}
use Rattle.command_letters.specs.declared.command.Command.TheVariants.{Clear, Reference, Data, Line, Diagonal, Box, Print, Other}
use Rattle.command_letters.specs.declared.command.DataCommand.{DataCommand}
use Rattle.command_letters.specs.declared.command.DataCommand.TheVariants.{Text, Barcode, Barcode2d}
use Rattle.command_letters.specs.Command.{command_of}
use Rattle.commands.specs.Line.{params_of, with_data, span_of, quoted_reading, command_reading, lead_of, read_line}
use Rattle.spellings.proofs.FieldLaws.{origin}
use Rattle.spellings.proofs.YieldDraws.{Fine, line_yields, box_yields, diagonal_yields}
use Rattle.spellings.proofs.YieldCodes.{text_yields, bar_yields, code2d_yields}

with_data_lem : (c : DataCommand) (s t : List ℕ) (d : DataSpan) → Fine t (with_data c s t d origin)
with_data_lem Text s t d = text_yields t s d origin
with_data_lem Barcode s t d = bar_yields t s d origin
with_data_lem Barcode2d s t d = code2d_yields s t d origin

command_yields : (c : Command) (lead : ℕ) (t : List ℕ) → Fine (quoted t) (command_reading c lead t origin)
unfolding quoted_reading
command_yields Clear lead t = tt
command_yields Reference lead t = tt
command_yields (Data c) lead t =
    test (eqb (length (quoted t)) 0)
    (λ e. simp e tt)
    (λ e. simp e (with_data_lem c (params_of t) (quoted t) (span_of lead t)))
command_yields (Line c) lead t = line_yields (quoted t) (drop 2 t) c origin
command_yields Diagonal lead t = diagonal_yields (quoted t) (drop 2 t)
command_yields Box lead t = box_yields (quoted t) (drop 1 t)
command_yields Print lead t = tt
command_yields Other lead t = tt

-- the data of a line t is `quoted (trim t)`
pub line_yields_fine : (t : List ℕ) → Fine (quoted (trim t)) (read_line t origin)
unfolding read_line
line_yields_fine t = command_yields (command_of (trim t)) (lead_of t) (trim t)
