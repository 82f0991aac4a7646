-- Inner: two corners as the reader draws them, one axis at a time. No claim rests on these: they are proved to draw
-- what `sized_at` gives (`DrawLaws`).
use Rattle.std.specs.Prelude.{ℕ, Bool, not, ◌&&◌, ◌||◌, List, ltb, ℤ, pos, ◌-ℤ◌, length}
use Rattle.std.specs.Int.Signed.{lt_z}
use Rattle.numbers.specs.Int.{checked, abs_z}
use Rattle.elements.specs.declared.LabelPosition.{LabelPosition}
use Rattle.parameters.specs.FieldValues.{fields_from}
use Rattle.parameters.specs.Position.{if_fits}
use Rattle.draws.specs.declared.draw.CornersRead.{CornersRead}
use Rattle.draws.specs.declared.draw.Cornered.{Cornered}
use Rattle.draws.specs.declared.draw.Cornered.TheVariants as cornered
use Rattle.draws.specs.declared.draw.Measured.{Measured}
use Rattle.draws.specs.declared.draw.Measured.TheVariants as measured
use Rattle.draws.specs.Draw.{corners_at}

-- the corners, and whether anything stands behind the fourth comma
unfoldable pub corners_read : List ℕ → CornersRead
corners_read s = record { corners = corners_at s; seen = ltb 0 (length (fields_from 4 s)) }

-- along one axis: how far the corners are from each other, and the sign of the difference
unfoldable pub extent_of : ℤ → ℤ → Measured
extent_of a b =
    if_fits (checked (b -ℤ a)) measured.Outside λ d.
    if_fits (checked (abs_z d)) measured.Outside λ size.
    measured.Of (record { size = size; rises = lt_z (pos 0) d; falls = lt_z d (pos 0) })

-- the direction by what rises and falls along each axis
abbrev pub is_same_way : Bool → Bool → Bool → Bool → Bool
is_same_way risesX fallsX risesY fallsY =
    (risesX && risesY) || (fallsX && fallsY) || (not risesX && not fallsX && not risesY && not fallsY)

-- two extents at a position
abbrev pub on_axes : LabelPosition → Measured → Measured → Cornered
on_axes p (measured.Of a) (measured.Of d) =
    cornered.At
    (record {
      position = p;
      width = a.size;
      height = d.size;
      same_way = is_same_way a.rises a.falls d.rises d.falls;
    })
on_axes p (measured.Of a) measured.Outside = cornered.SizeOutside
on_axes p measured.Outside d = cornered.SizeOutside
