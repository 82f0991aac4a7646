-- `texts::fonts::font_info` meets its contract: the two products and the test on the multipliers decide.
-- Assumes nothing.
use Rattle.std.proofs.Common.{arith}
use mir.Facts.{to_z-of_z}
use Rattle.texts.specs.Font.{font_of}
use Rattle.texts.proofs.fonts.font_info.Goals as goal

pub returns-in_default : goal.returns-in_default
unfolding font_of
returns-in_default c = grind (arith, to_z-of_z)

pub returns-then-equal : goal.returns-then-equal
unfolding font_of
returns-then-equal c = grind (arith, to_z-of_z)

pub returns-in_default-checked_mul : goal.returns-in_default-checked_mul
unfolding font_of
returns-in_default-checked_mul c = grind (arith, to_z-of_z)

pub returns : goal.returns
unfolding font_of
returns c = grind (arith, to_z-of_z)
