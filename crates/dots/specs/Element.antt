-- One element (01, "From 203 to 300 dots"): "positions, box and diagonal sizes, thickness and bar height become the
-- nearest whole number to 300/203 of the old"; "All else is unchanged".
use Rattle.std.specs.Prelude.{Bool, cond, ◌&&◌, ◌||◌, ℕ, eqb, leb, ℤ, pos}
use Rattle.std.specs.Float.{binary64}
use Rattle.std.specs.Float.Ieee.{of_bits}
use Rattle.numbers.specs.Int.{in32}
use Rattle.structs.specs.declared.answer.Element.{Element}
use Rattle.dots.specs.declared.length.Dots203.{Dots203}
use Rattle.dots.specs.declared.length.Dots300.{Dots300}
use Rattle.dots.specs.declared.element.Element300.{Element300}
use Rattle.dots.specs.declared.element.Lengths203.{Lengths203}
use Rattle.dots.specs.declared.element.Lengths300.{Lengths300}
use Rattle.dots.specs.declared.element.Lengthened.{Lengthened}
use Rattle.dots.specs.declared.element.Lengthened.TheVariants as change
use Rattle.dots.specs.declared.element.ConvertedElement.{ConvertedElement}
use Rattle.dots.specs.declared.element.ConvertedElement.TheVariants as answer
use Rattle.dots.specs.Length.{to300}

-- "02 box", "03 diagonal": width, height and thickness are lengths
abbrev pub is_drawn : ℕ → Bool
is_drawn k = eqb k 2 || eqb k 3

-- the kinds that have "narrow, height", 05 to 0a and 10: the height is the bars'
abbrev pub is_barred : ℕ → Bool
is_barred k = (leb 5 k && leb k 10) || eqb k 16

-- n dots of 1/203 inch, 0 where it is no length
abbrev pub pick : Bool → ℤ → Dots203
pick is n = cond is (record { 0 = n }) (record { 0 = pos 0 })

-- the lengths that are converted
abbrev pub lengths_of : Element → Lengths203
lengths_of e =
    record {
      x = record { 0 = e.x };
      y = record { 0 = e.y };
      width = pick (is_drawn e.kind) e.width;
      height = pick (is_drawn e.kind || is_barred e.kind) e.height;
      thickness = pick (is_drawn e.kind) e.thickness;
    }

-- each of them converted
abbrev pub lengths300 : Lengths203 → Lengths300
lengths300 l =
    record {
      x = record { 0 = to300 l.x.0 };
      y = record { 0 = to300 l.y.0 };
      width = record { 0 = to300 l.width.0 };
      height = record { 0 = to300 l.height.0 };
      thickness = record { 0 = to300 l.thickness.0 };
    }

-- a new length, or n dots as before
abbrev pub choose : Bool → Dots300 → ℤ → Dots300
choose is d n = cond is d (record { 0 = n })

-- the element with these lengths in their place; "All else is unchanged, as fonts, narrow and wide bars, module widths,
-- row heights and magnifications"
abbrev pub with_lengths : Element → Lengths300 → Element300
with_lengths e l =
    record {
      kind = e.kind;
      rotation = e.rotation;
      reverse = e.reverse;
      colour = e.colour;
      direction = e.direction;
      line = e.line;
      check = e.check;
      truncate = e.truncate;
      level = e.level;
      x = l.x;
      y = l.y;
      width = choose (is_drawn e.kind) l.width e.width;
      height = choose (is_drawn e.kind || is_barred e.kind) l.height e.height;
      thickness = choose (is_drawn e.kind) l.thickness e.thickness;
      row_bytes = e.row_bytes;
      security = e.security;
      columns = e.columns;
      rows = e.rows;
      magnification = e.magnification;
      size = e.size;
      mode = e.mode;
      font = e.font;
      horizontal = e.horizontal;
      vertical = e.vertical;
      wide = e.wide;
      text_height = e.text_height;
      text_width = e.text_width;
      ratio = e.ratio;
      data_start = e.data_start;
      data_len = e.data_len;
    }

-- THE ELEMENT CONVERTED
unfoldable pub element300 : Element → Element300
element300 e = with_lengths e (lengths300 (lengths_of e))

-- "Results beyond 32 bits are 13 for positions and 19 for all others"
abbrev pub place_fits : Lengths203 → Bool
place_fits l = in32 (to300 l.x.0) && in32 (to300 l.y.0)

abbrev pub sizes_fit : Lengths203 → Bool
sizes_fit l = in32 (to300 l.width.0) && (in32 (to300 l.height.0) && in32 (to300 l.thickness.0))

-- the number of an element that has one: "13 first"; 0 where all fit
unfoldable pub outside : Element → ℕ
outside e = cond (place_fits (lengths_of e)) (cond (sizes_fit (lengths_of e)) 0 19) 13

-- ---- inner
unfoldable pub lengthened : Lengths203 → Lengthened
lengthened l = cond (place_fits l) (cond (sizes_fit l) (change.Lengths (lengths300 l)) change.Size) change.Position

abbrev pub converted_by : Lengthened → Element → ConvertedElement
converted_by (change.Lengths l) e = answer.Element (with_lengths e l)
converted_by change.Position e = answer.Position
converted_by change.Size e = answer.Size

unfoldable pub converted_element : Element → ConvertedElement
converted_element e = converted_by (lengthened (lengths_of e)) e

abbrev pub nothing : Element300
nothing =
    record {
      kind = 0;
      rotation = 0;
      reverse = 0;
      colour = 0;
      direction = 0;
      line = 0;
      check = 0;
      truncate = 0;
      level = 0;
      x = record { 0 = pos 0 };
      y = record { 0 = pos 0 };
      width = record { 0 = pos 0 };
      height = record { 0 = pos 0 };
      thickness = record { 0 = pos 0 };
      row_bytes = pos 0;
      security = pos 0;
      columns = pos 0;
      rows = pos 0;
      magnification = pos 0;
      size = pos 0;
      mode = pos 0;
      font = pos 0;
      horizontal = pos 0;
      vertical = pos 0;
      wide = pos 0;
      text_height = of_bits binary64 0;
      text_width = of_bits binary64 0;
      ratio = of_bits binary64 0;
      data_start = 0;
      data_len = 0;
    }

abbrev pub or_nothing : ConvertedElement → Element300
or_nothing (answer.Element x) = x
or_nothing answer.Position = nothing
or_nothing answer.Size = nothing
