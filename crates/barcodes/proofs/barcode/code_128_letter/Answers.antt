-- `barcodes::barcode::code_128_letter` meets its contract, by its tests in turn.
use borrow.Author.Tests.{ne_eqb}
use Rattle.barcodes.specs.Letters.{code128_letter}
use Rattle.barcodes.proofs.barcode.code_128_letter.Goals as goal

pub returns-then-b : goal.returns-then-b
unfolding code128_letter
returns-then-b c = simp c.if-b.true

pub returns-then-b-eq69 : goal.returns-then-b-eq69
unfolding code128_letter
returns-then-b-eq69 c = simp c.if-b-eq69.true

pub returns : goal.returns
unfolding code128_letter
returns c = simp (c.if-b.false, ne_eqb c.args.b 69 c.if-b-eq69.false)
