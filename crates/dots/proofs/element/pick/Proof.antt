-- `dots::element::pick` meets its contract. Assumes nothing.
use Rattle.dots.proofs.element.pick.Statement.{statement}
use Rattle.dots.proofs.element.pick.Tie as tie

returns : tie.Need-returns-then-is
returns c = simp c.if-is.true

returns-2 : tie.Need-returns
returns-2 c = simp c.if-is.false

pub pick_spec : {M : Type 1} → statement M
pick_spec = tie.close (tie.spec returns returns-2)
