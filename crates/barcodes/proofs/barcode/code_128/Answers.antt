-- `barcodes::barcode::code_128` meets its contract: height and narrow bar are read back from their bits.
use native.Mathlib.Omega.{arith}
use Rattle.numbers.proofs.IntLaws.{back32}
use Rattle.barcodes.specs.Barcode.{code128}
use Rattle.barcodes.proofs.barcode.code_128.Goals as goal

pub returns : goal.returns
unfolding code128
returns c =
    let bars = c.args.b.bars in
    rw (back32 bars.height (omega arith), back32 bars.narrow (omega arith))
