-- `barcodes::barcode::symbology_of` meets its contract, by the length of the text.
use mathlib.Core.Path.{◌∙◌, sym}
use Rattle.barcodes.proofs.BarcodeLaws.{symbology_one, symbology_two, symbology_three, symbology_other}
use Rattle.barcodes.proofs.barcode.symbology_of.Goals as goal

pub returns-then-t-eq1 : goal.returns-then-t-eq1
returns-then-t-eq1 c =
    let t = c.args.t.now in
    c.one_letter.ensures ∙ sym (symbology_one t c.if-t-eq1.true)

pub returns-then-t-eq2 : goal.returns-then-t-eq2
returns-then-t-eq2 c =
    let t = c.args.t.now in
    c.two_letters.ensures ∙ sym (symbology_two t c.if-t-eq2.true)

pub returns-then-t-eq3 : goal.returns-then-t-eq3
returns-then-t-eq3 c =
    let t = c.args.t.now in
    c.three_letters.ensures ∙ sym (symbology_three t c.if-t-eq3.true)

pub returns : goal.returns
returns c =
    let t = c.args.t.now in
    sym (symbology_other t c.if-t-eq1.false c.if-t-eq2.false c.if-t-eq3.false)
