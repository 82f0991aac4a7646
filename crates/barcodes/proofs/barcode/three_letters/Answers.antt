-- `barcodes::barcode::three_letters` meets its contract, by its tests in turn.
use Rattle.barcodes.specs.Letters.{three_letters}
use Rattle.barcodes.proofs.barcode.three_letters.Goals as goal

pub returns-then-a-b : goal.returns-then-a-b
unfolding three_letters
returns-then-a-b c = simp c.if-a-b.true

pub returns-then-a-b-2 : goal.returns-then-a-b-2
unfolding three_letters
returns-then-a-b-2 c = simp (c.if-a-b.false, c.if-a-b-2.true)

pub returns-then-a-b-3 : goal.returns-then-a-b-3
unfolding three_letters
returns-then-a-b-3 c = simp (c.if-a-b.false, c.if-a-b-2.false, c.if-a-b-3.true)

pub returns-then-a-b-4 : goal.returns-then-a-b-4
unfolding three_letters
returns-then-a-b-4 c = simp (c.if-a-b.false, c.if-a-b-2.false, c.if-a-b-3.false, c.if-a-b-4.true)

pub returns : goal.returns
unfolding three_letters
returns c = simp (c.if-a-b.false, c.if-a-b-2.false, c.if-a-b-3.false, c.if-a-b-4.false)
