-- `barcodes::barcode::ean_13` meets its contract: height and narrow bar are read back from their bits.
use native.Mathlib.Omega.{arith}
use Rattle.numbers.proofs.IntLaws.{back32}
use Rattle.barcodes.specs.Barcode.{ean13}
use Rattle.barcodes.proofs.barcode.ean_13.Goals as goal

pub returns : goal.returns
unfolding ean13
returns c =
    let bars = c.args.b.bars in
    rw (back32 bars.height (omega arith), back32 bars.narrow (omega arith))
