-- `barcodes_2d::barcode_2d::aztec` meets its contract, by where it stands.
use Rattle.barcodes_2d.specs.Barcode2d.{aztec_reading}
use Rattle.barcodes_2d.proofs.barcode_2d.aztec.Goals as goal

pub returns-in_default : goal.returns-in_default
unfolding aztec_reading
returns-in_default c = simp c.in_default.is

pub returns : goal.returns
unfolding aztec_reading
returns c = simp (c.in-At.is, c.aztec_options-barcode.ensures)
