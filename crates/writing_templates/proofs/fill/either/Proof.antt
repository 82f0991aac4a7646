-- `writing_templates::fill::either` meets its contract. Assumes nothing.
use borrow.Author.Tests.{eq-eqb, ne_eqb}
use Rattle.writing_templates.proofs.fill.either.Statement.{statement}
use Rattle.writing_templates.proofs.fill.either.Tie as tie

returns : tie.Need-returns-then-flag-eq1
returns c = simp (eq-eqb c.args.flag 1 c.if-flag-eq1.true)

returns-2 : tie.Need-returns-else-flag-eq1
returns-2 c = simp (ne_eqb c.args.flag 1 c.if-flag-eq1.false)

pub either_spec : {M : Type 1} → statement M
either_spec = tie.close (tie.spec returns returns-2)
