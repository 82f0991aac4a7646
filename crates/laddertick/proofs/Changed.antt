-- Every row of the table of files in which one line is changed holds (`changed`), by computation. Assumes nothing.
use mathlib.Core.Path.{refl}
use mathlib.Core.List.{flatten}
use Rattle.text.specs.Fields.{before, after, before_last, fields, without_trailing_commas}
use Rattle.numbers.specs.Number.{number_spelled}
use Rattle.parameters.specs.FieldValues.{size_or, point_of}
use Rattle.parameters.specs.Position.{placed}
use Rattle.draws.specs.Draw.{line_fields, line_element, line_reading, corners_at, sized_at, drawn_at, diagonal_reading, box_reading}
use Rattle.graphics.specs.Block.{opens_gw, closes, after_header_field, header_number, four_closed, payload_of, gw_numbers, measured, gw_span}
use Rattle.command_letters.specs.Command.{is_reference, is_print, command_of}
use Rattle.command_letters.specs.Print.{is_counts, counts_of}
use Rattle.command_letters.specs.Reference.{reference_of}
use Rattle.commands.specs.Line.{params_of, quoted_reading, read_line}
use Rattle.walk_theory.specs.Labels.{flush}
use Rattle.walk_theory.specs.Step.{handing, answer, step}
use Rattle.walk_theory.specs.Trace.{trace}
use Rattle.grammar.specs.Found.{first}
use Rattle.grammar.specs.WellFormed.{well_formed}
use Rattle.frame_bytes.specs.Frame.{be32, head, extent_bytes, row_bytes, field_bytes, frame_of, label_frame}
use Rattle.laddertick.specs.Table.{Holds}
use Rattle.laddertick.specs.Changed.{table}

-- a proof for each row, in the table's order
pub changed : Holds table
unfolding flatten before after before_last fields without_trailing_commas number_spelled size_or point_of placed line_fields line_element line_reading corners_at sized_at drawn_at diagonal_reading box_reading opens_gw closes after_header_field header_number four_closed payload_of gw_numbers measured gw_span is_reference is_counts is_print command_of counts_of reference_of params_of quoted_reading read_line flush handing answer step trace first well_formed be32 head extent_bytes row_bytes field_bytes frame_of label_frame
changed =
    (refl, refl, (refl, refl, (refl, refl, (refl, refl, (refl, refl, (refl, refl, (refl, refl, (refl, refl, (refl, refl, (refl, refl, (refl, refl, (refl, refl, tt))))))))))))
