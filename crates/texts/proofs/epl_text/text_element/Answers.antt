-- `texts::epl_text::text_element` meets its contract: its position decides, and then its font.
-- Assumes nothing.
use Rattle.std.proofs.Common.{arith}
use mir.Facts.{to_z-of_z}
use Rattle.texts.specs.Text.{text_element}
use Rattle.texts.proofs.epl_text.text_element.Goals as goal

pub returns-in_default : goal.returns-in_default
unfolding text_element
returns-in_default c = grind (arith, to_z-of_z)

pub returns-in_default-font_info : goal.returns-in_default-font_info
unfolding text_element
returns-in_default-font_info c = grind (arith, to_z-of_z)

pub returns : goal.returns
unfolding text_element
returns c = grind (arith, to_z-of_z)
