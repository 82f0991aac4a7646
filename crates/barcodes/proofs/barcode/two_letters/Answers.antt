-- `barcodes::barcode::two_letters` meets its contract, by its tests in turn.
use borrow.Author.Tests.{ne_eqb}
use Rattle.barcodes.specs.Letters.{two_letters}
use Rattle.barcodes.proofs.barcode.two_letters.Goals as goal

pub returns-then-a-eq49 : goal.returns-then-a-eq49
unfolding two_letters
returns-then-a-eq49 c = simp c.if-a-eq49.true c.code_128_letter.ensures

pub returns-then-a-b : goal.returns-then-a-b
unfolding two_letters
returns-then-a-b c = simp (ne_eqb c.args.a 49 c.if-a-eq49.false, c.if-a-b.true)

pub returns-then-a-b-2 : goal.returns-then-a-b-2
unfolding two_letters
returns-then-a-b-2 c = simp (ne_eqb c.args.a 49 c.if-a-eq49.false, c.if-a-b.false, c.if-a-b-2.true)

pub returns : goal.returns
unfolding two_letters
returns c = simp (ne_eqb c.args.a 49 c.if-a-eq49.false, c.if-a-b.false, c.if-a-b-2.false)
