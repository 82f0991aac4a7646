-- Every row of the table of pairs of files holds (`joined`), by computation. Assumes nothing.
use mathlib.Core.Path.{refl}
use Rattle.text.specs.Fields.{before, after, before_last, fields, without_trailing_commas}
use Rattle.numbers.specs.Number.{number_spelled}
use Rattle.parameters.specs.FieldValues.{size_or, point_of, exactly}
use Rattle.parameters.specs.Position.{placed}
use Rattle.parameters.specs.Rotation.{rotation_of}
use Rattle.texts.specs.Font.{cell_of, font_of}
use Rattle.texts.specs.Text.{text_fields, text_element, text_reading}
use Rattle.draws.specs.Draw.{line_fields, line_element, line_reading, corners_at, sized_at, drawn_at, diagonal_reading, box_reading}
use Rattle.graphics.specs.Block.{opens_gw, closes, after_header_field, header_number, four_closed, payload_of, gw_numbers, measured, gw_span}
use Rattle.command_letters.specs.Command.{is_reference, is_print, command_of}
use Rattle.command_letters.specs.Print.{is_counts, counts_of}
use Rattle.command_letters.specs.Reference.{reference_of}
use Rattle.commands.specs.Line.{params_of, quoted_reading, read_line}
use Rattle.walk_theory.specs.Step.{handing, answer, step}
use Rattle.walk_theory.specs.Trace.{trace}
use Rattle.frame_bytes.specs.Frame.{be32, head, extent_bytes, field_bytes, frame_of, label_frame}
use Rattle.grammar.specs.WellFormed.{well_formed, fault_of}
use Rattle.grammar.specs.Found.{first}
use Rattle.grammar.specs.Normal.{chunk, normalised}
use Rattle.laddertick.specs.Table.{Holds}
use Rattle.laddertick.specs.Joined.{table}

-- a proof for each row, in the table's order
pub joined : Holds table
unfolding before after before_last fields without_trailing_commas number_spelled size_or point_of exactly placed rotation_of is_reference is_counts is_print command_of counts_of reference_of cell_of font_of text_fields text_element text_reading line_fields line_element line_reading corners_at sized_at drawn_at diagonal_reading box_reading params_of quoted_reading read_line opens_gw closes after_header_field header_number four_closed payload_of gw_numbers measured gw_span handing answer step well_formed fault_of first chunk normalised trace be32 head extent_bytes field_bytes frame_of label_frame
joined =
    ((refl, refl), (refl, ((refl, refl), (refl, ((refl, refl), (refl, ((refl, refl), (refl, ((refl, refl), ((refl, refl), ((refl, refl), ((refl, refl), ((refl, refl), tt)))))))))))))
