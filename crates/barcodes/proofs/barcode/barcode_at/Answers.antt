-- `barcodes::barcode::barcode_at` meets its contract: the type decides, then the position.
use native.Mathlib.Omega.{arith}
use mathlib.Core.Path.{sym, ◌∙◌}
use Rattle.numbers.proofs.IntLaws.{back32}
use Rattle.barcodes.specs.Barcode.{barcode_at}
use Rattle.barcodes.proofs.barcode.barcode_at.Goals as goal

pub returns-then-not-is_listed : goal.returns-then-not-is_listed
unfolding barcode_at
returns-then-not-is_listed c = simp (sym c.is_listed.ensures ∙ c.if-not-is_listed.true)

pub returns-in_default : goal.returns-in_default
unfolding barcode_at
returns-in_default c =
    let p = c.args.f.at in
    let here = simp (back32 p.x (omega arith), back32 p.y (omega arith)) at c.place.ensures in
    simp (sym c.is_listed.ensures ∙ c.if-not-is_listed.false, sym here ∙ c.in_default.is)

pub returns : goal.returns
unfolding barcode_at
returns c =
    let p = c.args.f.at in
    let here = simp (back32 p.x (omega arith), back32 p.y (omega arith)) at c.place.ensures in
    simp (sym c.is_listed.ensures ∙ c.if-not-is_listed.false, sym here ∙ c.in-At.is)
    (simp (c.epl_rotation-orientation.ensures, back32 c.args.f.rotation (omega arith)) at c.barcode_element.ensures)
