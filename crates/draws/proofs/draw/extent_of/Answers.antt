-- `draws::draw::extent_of` meets its contract: the difference decides, and then its absolute value.
-- Assumes nothing.
use Rattle.std.proofs.Common.{arith}
use mir.Facts.{to_z-of_z}
use Rattle.draws.specs.Axes.{extent_of}
use Rattle.draws.proofs.draw.extent_of.Goals as goal

pub returns-in_default : goal.returns-in_default
unfolding extent_of
returns-in_default c = grind (arith, to_z-of_z)

pub returns-in_default-checked_abs : goal.returns-in_default-checked_abs
unfolding extent_of
returns-in_default-checked_abs c = grind (arith, to_z-of_z)

pub returns : goal.returns
unfolding extent_of
returns c = grind (arith, to_z-of_z)
