-- `barcodes_2d::barcode_2d::parse_epl_2d_barcode` meets its contract, by the number of fields, then the calls in a row.
use native.Mathlib.Omega.{arith}
use mathlib.Core.Bool.{not}
use mathlib.Core.Path.{ap}
use mathlib.Core.Path.{◌≡◌, refl, ◌∙◌}
use lib.Dec.{leb}
use lib.ListN.{length}
use Rattle.text.specs.Fields.{fields}
use Rattle.numbers.proofs.IntLaws.{back32}
use Rattle.parameters.specs.FieldValues.{point_of}
use Rattle.parameters.specs.Params.{point_at, type_at}
use Rattle.parameters.proofs.ParamsLaws.{too_few, enough, reached}
use Rattle.parameters.proofs.PlaceLaws.{point_value, point_next}
use Rattle.barcodes_2d.specs.Barcode2d.{barcode2d_reading}
use Rattle.barcodes_2d.proofs.barcode_2d.parse_epl_2d_barcode.Goals as goal
use Rattle.barcodes_2d.proofs.barcode_2d.parse_epl_2d_barcode.Goals.{After-reaches}

counted : (d : After-reaches) → d.reaches.result ≡ leb 3 (length (fields d.args.params.now))
counted d =
    let s = d.args.params.now in
    reached 2 s s d.point_from-p.result.next (point_next _ _ refl d.point_from-p.ensures) refl d.reaches.ensures

pub returns-then-not-reaches : goal.returns-then-not-reaches
unfolding barcode2d_reading
returns-then-not-reaches c = too_few _ _ _ _ (counted (goal.at.returns-then-not-reaches c).After-reaches) (ap not c.if-not-reaches.true)

pub returns : goal.returns
unfolding barcode2d_reading type_at point_at point_of
returns c =
    let at = simp (back32 c.point_from-p.result.point.x (omega arith), back32 c.point_from-p.result.point.y (omega arith)) at c.place-at.ensures in
    (simp (c.rest_from.ensures, point_next _ _ refl c.point_from-p.ensures, at, point_value _ _ refl c.point_from-p.ensures) at c.typed_2d.ensures)
    ∙ enough _ _ _ _ (counted (goal.at.returns c).After-reaches) (ap not c.if-not-reaches.false)
