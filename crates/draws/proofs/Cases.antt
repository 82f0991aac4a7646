-- Cases of `LO`, `LS` and `X` (01, "Corners"), by computation, at the reference 0,0.
-- Assumes nothing.
use mathlib.Core.Path.{◌≡◌}
use mathlib.Core.Bool.{true, false}
use lib.IntN.{pos, negsuc}
use Rattle.text.specs.Ascii.{ascii}
use Rattle.text.specs.Fields.{before, after, fields}
use Rattle.numbers.specs.Number.{number_spelled}
use Rattle.elements.specs.declared.LabelElement.TheVariants.{GraphicBox, DiagonalLine}
use Rattle.elements.specs.declared.LabelPosition.{LabelPosition}
use Rattle.elements.specs.declared.LineColor.TheVariants.{Black}
use Rattle.elements.specs.declared.refusal.Refusal.TheVariants.{OutOfRange, SizeOutside}
use Rattle.parameters.specs.declared.reading.LineReading.TheVariants.{Element, Refused}
use Rattle.parameters.specs.FieldValues.{size_or, point_of}
use Rattle.parameters.specs.Position.{placed}
use Rattle.draws.specs.Draw.{line_fields, line_element, line_reading, corners_at, drawn_at, sized_at, diagonal_reading, box_reading}

abbrev origin : LabelPosition
origin = record { x = pos 0; y = pos 0 }

record Cases : Type 0 where
  -- `1,2,3,` of `LO` has 4 fields, the last of them empty: height 1
  empty_height :
      line_reading (ascii "1,2,3,") Black origin ≡
      Element (GraphicBox (record { position = record { x = pos 1; y = pos 2 }; width = pos 3; height = pos 1; border_thickness = pos 1; line_color = Black }))
  -- `5,5,1,5,5` of `LS`: both differences are zero, direction 1
  point :
      diagonal_reading (ascii "5,5,1,5,5") origin ≡
      Element (DiagonalLine (record { position = record { x = pos 5; y = pos 5 }; width = pos 0; height = pos 0; border_thickness = pos 1; top_to_bottom = true }))
  -- `0,0,1,9,0` of `LS`: one is positive and one zero, direction 0
  flat :
      diagonal_reading (ascii "0,0,1,9,0") origin ≡
      Element (DiagonalLine (record { position = origin; width = pos 9; height = pos 0; border_thickness = pos 1; top_to_bottom = false }))
  -- `2147483647,0,1,-1,0` of `X`: the width 2147483648 has no 32 bits
  too_wide :
      box_reading (ascii "2147483647,0,1,-1,0") origin ≡
      Refused SizeOutside
  -- `2147483646,0,1,-1,0` of `X`: the widest box
  widest :
      box_reading (ascii "2147483646,0,1,-1,0") origin ≡
      Element (GraphicBox (record { position = record { x = negsuc 0; y = pos 0 }; width = pos 2147483647; height = pos 0; border_thickness = pos 1; line_color = Black }))
  -- `2147483647,-1,1,-1,-1` of `X` at 0,-2147483648: the width too, but the position comes first
  shifted :
      box_reading (ascii "2147483647,-1,1,-1,-1") (record { x = pos 0; y = negsuc 2147483647 }) ≡
      Refused OutOfRange

-- each computes
cases : Cases
unfolding line_reading line_fields line_element placed point_of size_or number_spelled before after fields diagonal_reading corners_at drawn_at sized_at box_reading
cases = search
