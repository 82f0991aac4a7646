-- `barcodes_2d::barcode_2d::maxicode` meets its contract, by where it stands.
use Rattle.numbers.proofs.IntLaws.{back32}
use Rattle.barcodes_2d.specs.Barcode2d.{maxicode_reading}
use Rattle.barcodes_2d.proofs.barcode_2d.maxicode.Goals as goal

pub returns-in_default : goal.returns-in_default
unfolding maxicode_reading
returns-in_default c = simp c.in_default.is

pub returns : goal.returns
unfolding maxicode_reading
returns c =
    let m = c.maxicode_mode-mode in
    rw (back32 m.result m.type_inv) (simp (c.in-At.is, m.ensures))
