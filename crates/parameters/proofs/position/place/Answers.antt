-- `parameters::position::place` meets its contract: the two sums decide.
-- Assumes nothing.
use Rattle.std.proofs.Common.{arith}
use mir.Facts.{to_z-of_z}
use Rattle.parameters.specs.Position.{placed}
use Rattle.parameters.proofs.position.place.Goals as goal

pub returns-in_default : goal.returns-in_default
unfolding placed
returns-in_default c = grind (arith, to_z-of_z)

pub returns-in_default-checked_add : goal.returns-in_default-checked_add
unfolding placed
returns-in_default-checked_add c = grind (arith, to_z-of_z)

pub returns : goal.returns
unfolding placed
returns c = grind (arith, to_z-of_z)
