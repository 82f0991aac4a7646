-- `graphics::gw_span::graphic_at` meets its contract: `place` decides.
-- Assumes nothing.
use Rattle.std.proofs.Common.{arith}
use mir.Facts.{to_z-of_z}
use Rattle.graphics.specs.Block.{graphic_at}
use Rattle.graphics.proofs.gw_span.graphic_at.Goals as goal

pub returns-in_default : goal.returns-in_default
unfolding graphic_at
returns-in_default c = grind (arith, to_z-of_z)

pub returns : goal.returns
unfolding graphic_at
returns c = grind (arith, to_z-of_z)
