-- `barcodes_2d::barcode_2d::pdf417` meets its contract, by where it stands.
use Rattle.barcodes_2d.specs.Barcode2d.{pdf417_reading}
use Rattle.barcodes_2d.proofs.barcode_2d.pdf417.Goals as goal

pub returns-in_default : goal.returns-in_default
unfolding pdf417_reading
returns-in_default c = simp c.in_default.is

pub returns : goal.returns
unfolding pdf417_reading
returns c = simp (c.in-At.is, c.pdf417_options-barcode.ensures)
