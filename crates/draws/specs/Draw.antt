-- `LO`, `LW`, `LE`, `LS`, `X` (01, "Grammar").
use Rattle.std.specs.Prelude.{ℕ, Bool, cond, ◌&&◌, ◌||◌, List, ltb, ℤ, pos, ◌-ℤ◌, length}
use Rattle.std.specs.Int.Signed.{lt_z}
use Rattle.text.specs.Fields.{fields, field}
use Rattle.numbers.specs.Int.{checked, min_z, abs_z, eq_z}
use Rattle.elements.specs.declared.LabelElement.TheVariants as element
use Rattle.elements.specs.declared.LabelPosition.{LabelPosition}
use Rattle.elements.specs.declared.LineColor.{LineColor}
use Rattle.elements.specs.declared.LineColor.TheVariants as colour
use Rattle.elements.specs.declared.refusal.Refusal.TheVariants as refusal
use Rattle.draws.specs.declared.draw.Corners.{Corners}
use Rattle.draws.specs.declared.draw.Cornered.{Cornered}
use Rattle.draws.specs.declared.draw.Cornered.TheVariants as cornered
use Rattle.draws.specs.declared.draw.LineFields.{LineFields}
use Rattle.parameters.specs.declared.position.Placed.{Placed}
use Rattle.parameters.specs.declared.position.Placed.TheVariants as placing
use Rattle.parameters.specs.declared.reading.LineReading.{LineReading}
use Rattle.parameters.specs.declared.reading.LineReading.TheVariants as reading
use Rattle.parameters.specs.FieldValues.{size_or, point_of}
use Rattle.parameters.specs.Position.{if_fits, placed, yields}

-- "`LO` (black), `LW` (white) and `LE` (exclusive-OR): x, y, width, height"; width and height 1 by default
unfoldable pub line_fields : List ℕ → LineFields
line_fields s =
    record {
      at = point_of (field s 0) (field s 1);
      width = size_or (pos 1) (field s 2);
      height = size_or (pos 1) (field s 3);
    }

-- "thickness is the smaller of the two"
unfoldable pub line_element : LineFields → LineColor → LabelPosition → LineReading
line_element f c r =
    yields (placed f.at.x f.at.y r) λ p.
    element.GraphicBox
    (record {
      position = p;
      width = f.width;
      height = f.height;
      border_thickness = min_z f.width f.height;
      line_color = c;
    })

-- "at least 4 fields", or 4
unfoldable pub line_reading : List ℕ → LineColor → LabelPosition → LineReading
line_reading s c r =
    cond (ltb (length (fields s)) 4) (reading.Refused refusal.LineFields) (line_element (line_fields s) c r)

-- "`LS` and `X` (black): x1, y1, thickness, x2, y2"; thickness 1 by default
unfoldable pub corners_at : List ℕ → Corners
corners_at s =
    record {
      first = point_of (field s 0) (field s 1);
      thickness = size_or (pos 1) (field s 2);
      second = point_of (field s 3) (field s 4);
    }

abbrev pub is_positive : ℤ → Bool
is_positive d = lt_z (pos 0) d

abbrev pub is_negative : ℤ → Bool
is_negative d = lt_z d (pos 0)

abbrev pub is_zero : ℤ → Bool
is_zero d = eq_z d (pos 0)

-- "x2 − x1 and y2 − y1 are both positive, both negative or both zero"
abbrev pub direction : ℤ → ℤ → Bool
direction dx dy = (is_positive dx && is_positive dy) || (is_negative dx && is_negative dy) || (is_zero dx && is_zero dy)

-- go on with a position, or give 13 where there is none
abbrev pub if_placed : Placed → (LabelPosition → Cornered) → Cornered
if_placed (placing.At p) go = go p
if_placed placing.Outside go = cornered.Outside

-- ".. width and height are the absolute differences"; the differences and their absolute values must fit 32 bits, or
-- 19
unfoldable pub sized_at : Corners → LabelPosition → Cornered
sized_at c p =
    if_fits (checked (c.second.x -ℤ c.first.x)) cornered.SizeOutside λ dx.
    if_fits (checked (abs_z dx)) cornered.SizeOutside λ width.
    if_fits (checked (c.second.y -ℤ c.first.y)) cornered.SizeOutside λ dy.
    if_fits (checked (abs_z dy)) cornered.SizeOutside λ height.
    cornered.At (record { position = p; width = width; height = height; same_way = direction dx dy })

-- "the position is the smaller of each pair, .."; where a line has both faults, "the position comes first"
unfoldable pub drawn_at : Corners → LabelPosition → Cornered
drawn_at c r =
    if_placed (placed (min_z c.first.x c.second.x) (min_z c.first.y c.second.y) r) (sized_at c)

-- `LS`
abbrev pub diagonal_of : ℤ → Cornered → LineReading
diagonal_of t (cornered.At d) =
    reading.Element
    (element.DiagonalLine
    (record {
      position = d.position;
      width = d.width;
      height = d.height;
      border_thickness = t;
      top_to_bottom = d.same_way;
    }))
diagonal_of t cornered.Outside = reading.Refused refusal.OutOfRange
diagonal_of t cornered.SizeOutside = reading.Refused refusal.SizeOutside

-- `LS`: "at least 5", or 5
unfoldable pub diagonal_reading : List ℕ → LabelPosition → LineReading
diagonal_reading s r =
    cond (ltb (length (fields s)) 5) (reading.Refused refusal.DiagonalFields)
    (diagonal_of (corners_at s).thickness (drawn_at (corners_at s) r))

-- `X`
abbrev pub box_of : ℤ → Cornered → LineReading
box_of t (cornered.At d) =
    reading.Element
    (element.GraphicBox
    (record {
      position = d.position;
      width = d.width;
      height = d.height;
      border_thickness = t;
      line_color = colour.Black;
    }))
box_of t cornered.Outside = reading.Refused refusal.OutOfRange
box_of t cornered.SizeOutside = reading.Refused refusal.SizeOutside

-- `X`: "at least 5", or 6
unfoldable pub box_reading : List ℕ → LabelPosition → LineReading
box_reading s r =
    cond (ltb (length (fields s)) 5) (reading.Refused refusal.BoxFields)
    (box_of (corners_at s).thickness (drawn_at (corners_at s) r))
