-- `draws::draw::drawn_at` meets its contract: the sums with the reference decide, and then the extents along both axes.
-- Assumes nothing.
use Rattle.std.proofs.Common.{arith}
use mir.Facts.{to_z-of_z}
use Rattle.draws.specs.Draw.{drawn_at}
use Rattle.draws.proofs.DrawLaws.{sized_is}
use Rattle.draws.proofs.draw.drawn_at.Goals as goal

pub returns-in_default : goal.returns-in_default
unfolding drawn_at
returns-in_default c = grind (arith, to_z-of_z)

pub returns-in_default-extent_of : goal.returns-in_default-extent_of
unfolding drawn_at
returns-in_default-extent_of c = grind (arith, to_z-of_z, sized_is)

pub returns-in_default-extent_of-2 : goal.returns-in_default-extent_of-2
unfolding drawn_at
returns-in_default-extent_of-2 c = grind (arith, to_z-of_z, sized_is)

pub returns : goal.returns
unfolding drawn_at
returns c = grind (arith, to_z-of_z, sized_is)
