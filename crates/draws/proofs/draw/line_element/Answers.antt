-- `draws::draw::line_element` meets its contract: the sums with the reference decide, and `min` gives the thickness.
-- Assumes nothing.
use Rattle.std.proofs.Common.{arith}
use mir.Facts.{to_z-of_z}
use Rattle.draws.specs.Draw.{line_element}
use Rattle.draws.proofs.draw.line_element.Goals as goal

pub returns-in_default : goal.returns-in_default
unfolding line_element
returns-in_default c = grind (arith, to_z-of_z)

pub returns : goal.returns
unfolding line_element
returns c = grind (arith, to_z-of_z)
