-- `barcodes_2d::barcode_2d::datamatrix` meets its contract, by where it stands.
use Rattle.barcodes_2d.specs.Barcode2d.{datamatrix_reading}
use Rattle.barcodes_2d.proofs.barcode_2d.datamatrix.Goals as goal

pub returns-in_default : goal.returns-in_default
unfolding datamatrix_reading
returns-in_default c = simp c.in_default.is

pub returns : goal.returns
unfolding datamatrix_reading
returns c = simp (c.in-At.is, c.datamatrix_options-barcode.ensures)
