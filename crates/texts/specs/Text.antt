-- `A` (01, "Grammar"): "x, y, rotation, font, horizontal multiplier, vertical multiplier, reverse (flag 1 if exactly
-- `R`, blanks off)".
use Rattle.std.specs.Prelude.{ℕ, cond, List, ltb, pos, length}
use Rattle.text.specs.Ascii.{letter}
use Rattle.text.specs.Fields.{fields, field}
use Rattle.numbers.specs.Number.{field_or}
use Rattle.elements.specs.declared.DataSpan.{DataSpan}
use Rattle.elements.specs.declared.LabelElement.TheVariants as element
use Rattle.elements.specs.declared.LabelPosition.{LabelPosition}
use Rattle.elements.specs.declared.refusal.Refusal.TheVariants as refusal
use Rattle.texts.specs.declared.fonts.Scaled.{Scaled}
use Rattle.texts.specs.declared.fonts.Scaled.TheVariants as scaled
use Rattle.parameters.specs.declared.position.Placed.{Placed}
use Rattle.parameters.specs.declared.position.Placed.TheVariants as placing
use Rattle.parameters.specs.declared.reading.LineReading.{LineReading}
use Rattle.parameters.specs.declared.reading.LineReading.TheVariants as reading
use Rattle.texts.specs.declared.epl_text.TextFields.{TextFields}
use Rattle.texts.specs.Font.{font_of}
use Rattle.parameters.specs.FieldValues.{size_or, point_of, exactly}
use Rattle.parameters.specs.Position.{placed}

-- the seven fields; defaults: font 1, multipliers 1
unfoldable pub text_fields : List ℕ → TextFields
text_fields s =
    record {
      at = point_of (field s 0) (field s 1);
      rotation = field_or (pos 0) (field s 2);
      scale =
          record {
            font = field_or (pos 1) (field s 3);
            horizontal = size_or (pos 1) (field s 4);
            vertical = size_or (pos 1) (field s 5);
          };
      reverse = exactly (letter "R") (field s 6);
    }

-- the text at its position in its font, with "the font number, the horizontal and the vertical multiplier, after
-- defaults and least values"; 13 where it has no position, "directly after 13" 19 where it has no font
abbrev pub text_of : TextFields → DataSpan → Placed → Scaled → LineReading
text_of f d (placing.At at) (scaled.Font i) =
    reading.Element
    (element.Text
    (record { position = at; reverse_print = f.reverse; scale = f.scale; font = i; text = d }))
text_of f d (placing.At at) scaled.Outside = reading.Refused refusal.SizeOutside
text_of f d placing.Outside i = reading.Refused refusal.OutOfRange

unfoldable pub text_element : TextFields → DataSpan → LabelPosition → LineReading
text_element f d r =
    text_of f d (placed f.at.x f.at.y r)
    (font_of f.scale.font f.scale.horizontal f.scale.vertical f.rotation)

-- "number at least 7", or 1
unfoldable pub text_reading : List ℕ → DataSpan → LabelPosition → LineReading
text_reading s d r =
    cond (ltb (length (fields s)) 7) (reading.Refused refusal.TextFields) (text_element (text_fields s) d r)
