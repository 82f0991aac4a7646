-- `barcodes_2d::barcode_2d::typed_2d` meets its contract: the comma that `find` gives parts the type and the
-- parameters.
use Rattle.parameters.proofs.ParamsLaws.{type_upto, after_upto}
use Rattle.barcodes_2d.proofs.barcode_2d.typed_2d.Goals as goal

pub returns : goal.returns
returns c =
    let s = c.args.s.now in
    simp (c.symbology_of-t.ensures, c.trim.ensures, type_upto s c.find-n.ensures.is, c.rest_from.ensures, after_upto s c.find-n.ensures.is) at c.barcode_2d_at.ensures
