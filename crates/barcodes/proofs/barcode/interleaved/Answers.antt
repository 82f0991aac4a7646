-- `barcodes::barcode::interleaved` meets its contract: the bars are read back from their bits, and the ratio is that of
-- `bar_ratio`.
use native.Mathlib.Omega.{arith}
use Rattle.numbers.proofs.IntLaws.{back32}
use Rattle.barcodes.specs.Barcode.{interleaved}
use Rattle.barcodes.proofs.barcode.interleaved.Goals as goal

pub returns : goal.returns
unfolding interleaved
returns c =
    let bars = c.args.b.bars in
    let narrow = back32 bars.narrow (omega arith) in
    let wide = back32 bars.wide (omega arith) in
    rw (back32 bars.height (omega arith), narrow, wide, simp (narrow, wide) at c.bar_ratio.ensures)
