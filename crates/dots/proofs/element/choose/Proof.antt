-- `dots::element::choose` meets its contract. Assumes nothing.
use Rattle.dots.proofs.element.choose.Statement.{statement}
use Rattle.dots.proofs.element.choose.Tie as tie

returns : tie.Need-returns-then-is
returns c = simp c.if-is.true

returns-2 : tie.Need-returns
returns-2 c = simp c.if-is.false

pub choose_spec : {M : Type 1} → statement M
choose_spec = tie.close (tie.spec returns returns-2)
