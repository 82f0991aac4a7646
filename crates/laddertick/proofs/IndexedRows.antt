-- Every row of the table of files with their index holds (`indexed`), by computation. Assumes nothing.
use mathlib.Core.Path.{refl}
use mathlib.Core.List.{flatten}
use lib.Ieee.{to_bits, of_bits, of_int, mul, div, lt}
use Rattle.text.specs.Fields.{before, after, before_last, fields, without_trailing_commas}
use Rattle.text.specs.Utf8.{need, low, high}
use Rattle.numbers.specs.Number.{number_spelled}
use Rattle.parameters.specs.FieldValues.{size_or, point_of, exactly}
use Rattle.parameters.specs.Position.{placed}
use Rattle.parameters.specs.Rotation.{rotation_of}
use Rattle.texts.specs.Font.{cell_of, width_of, font_of}
use Rattle.texts.specs.Text.{text_fields, text_element, text_reading}
use Rattle.draws.specs.Draw.{line_fields, line_element, line_reading, corners_at, sized_at, drawn_at, diagonal_reading, box_reading}
use Rattle.barcodes.specs.Barcode.{symbology_of, barcode_fields, code128, interleaved, code39, ean13, ean8, upc_a, upc_e, barcode_at, barcode_reading}
use Rattle.barcodes.specs.Ratio.{ratio_of}
use Rattle.barcodes_2d.specs.Barcode2d as two
use Rattle.barcodes_2d.specs.Barcode2d.{aztec_size, aztec_of, datamatrix_of, mode_of, pdf417_module_width, pdf417_row_height, pdf417_truncate, pdf417_of, qr_of, level_of, aztec_reading, datamatrix_reading, maxicode_reading, pdf417_reading, qr_reading, barcode2d_reading}
use Rattle.barcodes_2d.specs.Maxicode.{header_at, header_place, postal, auto_mode}
use Rattle.barcodes_2d.specs.Options.{options_of, last_count, last_number, last_clamped}
use Rattle.graphics.specs.Block.{opens_gw, closes, after_header_field, header_number, four_closed, payload_of, gw_numbers, measured, gw_span}
use Rattle.command_letters.specs.Command.{is_reference, is_print, command_of}
use Rattle.command_letters.specs.Print.{is_counts, counts_of}
use Rattle.command_letters.specs.Reference.{reference_of}
use Rattle.commands.specs.Line.{params_of, quoted_reading, read_line}
use Rattle.walk_theory.specs.Division.{units_of}
use Rattle.walk_theory.specs.Labels.{flush}
use Rattle.walk_theory.specs.Step.{handing, answer, step}
use Rattle.walk_theory.specs.Trace.{trace}
use Rattle.grammar.specs.Found.{first}
use Rattle.grammar.specs.WellFormed.{well_formed, fault_of}
use Rattle.frame_bytes.specs.Frame.{be32, head, extent_bytes, bar_bytes, row_bytes, scale_bytes, field_bytes, frame_of, label_frame}
use Rattle.laddertick.specs.Table.{Holds}
use Rattle.laddertick.specs.Indexed.{table}

-- a proof for each row, in the table's order
pub indexed : Holds table
unfolding flatten to_bits of_bits of_int mul div lt before after before_last fields without_trailing_commas need low high number_spelled size_or point_of exactly placed rotation_of cell_of width_of font_of text_fields text_element text_reading line_fields line_element line_reading corners_at sized_at drawn_at diagonal_reading box_reading symbology_of two.symbology_of barcode_fields code128 interleaved code39 ean13 ean8 upc_a upc_e barcode_at barcode_reading ratio_of aztec_size aztec_of datamatrix_of mode_of pdf417_module_width pdf417_row_height pdf417_truncate pdf417_of qr_of level_of aztec_reading datamatrix_reading maxicode_reading pdf417_reading qr_reading barcode2d_reading header_at header_place postal auto_mode options_of last_count last_number last_clamped opens_gw closes after_header_field header_number four_closed payload_of gw_numbers measured gw_span is_reference is_counts is_print command_of counts_of reference_of params_of quoted_reading read_line units_of flush handing answer step trace first well_formed fault_of be32 head extent_bytes bar_bytes row_bytes field_bytes frame_of scale_bytes label_frame
indexed = (refl, (refl, (refl, (refl, (refl, (refl, (refl, (refl, (refl, (refl, (refl, (refl, (refl, (refl, (refl, (refl, (refl, tt)))))))))))))))))
