-- `writing_element::write::which_diagonal` meets its contract. Assumes nothing.
use borrow.Author.Tests.{eq-eqb, ne_eqb}
use Rattle.writing_element.proofs.write.which_diagonal.Statement.{statement}
use Rattle.writing_element.proofs.write.which_diagonal.Tie as tie

returns : tie.Need-returns-then-e-eq1
returns c = simp (eq-eqb c.args.e.direction 1 c.if-e-eq1.true)

returns-2 : tie.Need-returns-else-e-eq1
returns-2 c = simp (ne_eqb c.args.e.direction 1 c.if-e-eq1.false)

pub which_diagonal_spec : {M : Type 1} → statement M
which_diagonal_spec = tie.close (tie.spec returns returns-2)
