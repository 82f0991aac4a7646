-- `texts::fonts::epl_font_size` meets its contract, arm by arm.
-- Assumes nothing.
use Rattle.std.proofs.Common.{arith}
use lib.Dec.{lit<}
use Rattle.numbers.proofs.IntLaws.{bits_is, bits_not}
use Rattle.texts.specs.Font.{cell_of}
use Rattle.texts.proofs.fonts.epl_font_size.Goals as goal

pub returns-in-2 : goal.returns-in-2
unfolding cell_of
returns-in-2 c = rw (bits_is c.args.font_num 2 c.ranges.font_num.sfits (lit< tt) (omega arith))

pub returns-in-3 : goal.returns-in-3
unfolding cell_of
returns-in-3 c = rw (bits_is c.args.font_num 3 c.ranges.font_num.sfits (lit< tt) (omega arith))

pub returns-in-4 : goal.returns-in-4
unfolding cell_of
returns-in-4 c = rw (bits_is c.args.font_num 4 c.ranges.font_num.sfits (lit< tt) (omega arith))

pub returns-in-5 : goal.returns-in-5
unfolding cell_of
returns-in-5 c = rw (bits_is c.args.font_num 5 c.ranges.font_num.sfits (lit< tt) (omega arith))

pub returns-in_default : goal.returns-in_default
unfolding cell_of
returns-in_default c =
    let n = c.args.font_num in
    let h = c.ranges.font_num.sfits in
    simp (bits_not n 2 h (lit< tt) (omega arith), bits_not n 3 h (lit< tt) (omega arith), bits_not n 4 h (lit< tt) (omega arith), bits_not n 5 h (lit< tt) (omega arith))
