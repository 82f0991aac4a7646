-- `barcodes_2d::barcode_2d::symbology_of` meets its contract, arm by arm.
use Rattle.std.proofs.Common.{arith}
use Rattle.std.proofs.lemmas.Grind.{common_steps}
use Rattle.barcodes_2d.specs.Letters.{letter_of}
use Rattle.barcodes_2d.proofs.Barcode2dLaws.{symbology_one, symbology_other}
use Rattle.barcodes_2d.proofs.barcode_2d.symbology_of.Goals as goal

pub returns-then-t-ne1 : goal.returns-then-t-ne1
returns-then-t-ne1 c = symbology_other c.args.t.now c.if-t-ne1.true

pub returns-in-65 : goal.returns-in-65
unfolding letter_of
returns-in-65 c = rw (symbology_one c.args.t.now c.if-t-ne1.false, c.in-65.is)

pub returns-in-68 : goal.returns-in-68
unfolding letter_of
returns-in-68 c = rw (symbology_one c.args.t.now c.if-t-ne1.false, c.in-68.is)

pub returns-in-77 : goal.returns-in-77
unfolding letter_of
returns-in-77 c = rw (symbology_one c.args.t.now c.if-t-ne1.false, c.in-77.is)

pub returns-in-80 : goal.returns-in-80
unfolding letter_of
returns-in-80 c = rw (symbology_one c.args.t.now c.if-t-ne1.false, c.in-80.is)

pub returns-in-81 : goal.returns-in-81
unfolding letter_of
returns-in-81 c = rw (symbology_one c.args.t.now c.if-t-ne1.false, c.in-81.is)

pub returns-in_default : goal.returns-in_default
unfolding letter_of
returns-in_default c = rw (symbology_one c.args.t.now c.if-t-ne1.false) (grind (arith, common_steps))
