-- Rotations (01, "Grammar").
use Rattle.std.specs.Prelude.{cond, ℤ, pos}
use Rattle.numbers.specs.Int.{eq_z}
use Rattle.elements.specs.declared.FieldOrientation.{FieldOrientation}
use Rattle.elements.specs.declared.FieldOrientation.TheVariants.{Normal, Rotated90, Rotated180, Rotated270}

-- "Rotations 1, 2, 3 are quarter turns, others 0"
unfoldable pub rotation_of : ℤ → FieldOrientation
rotation_of r = cond (eq_z r (pos 1)) Rotated90 (cond (eq_z r (pos 2)) Rotated180 (cond (eq_z r (pos 3)) Rotated270 Normal))
