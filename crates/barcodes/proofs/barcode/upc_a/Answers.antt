-- `barcodes::barcode::upc_a` meets its contract: height and narrow bar are read back from their bits.
use native.Mathlib.Omega.{arith}
use Rattle.numbers.proofs.IntLaws.{back32}
use Rattle.barcodes.specs.Barcode.{upc_a}
use Rattle.barcodes.proofs.barcode.upc_a.Goals as goal

pub returns : goal.returns
unfolding upc_a
returns c =
    let bars = c.args.b.bars in
    rw (back32 bars.height (omega arith), back32 bars.narrow (omega arith))
