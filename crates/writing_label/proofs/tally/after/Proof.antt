-- `writing_label::tally::after` meets its contract. Assumes nothing.
use borrow.Author.Tests.{eq-eqb, ne_eqb}
use borrow.Author.Rules.{rules}
use Rattle.writing_label.proofs.tally.after.Statement.{statement}
use Rattle.writing_label.proofs.tally.after.Tie as tie

returns : tie.Need-returns-then-n-eq0
returns c = rw c.stopped.ensures (simp (eq-eqb c.args.n 0 c.if-n-eq0.true))

returns-2 : tie.Need-returns
returns-2 c = rw (c.onto.ensures, c.onto-2.ensures) (simp (ne_eqb c.args.n 0 c.if-n-eq0.false))

pub after_spec : {M : Type 1} → statement M
after_spec = tie.close (tie.spec (λ c κs. search rules) returns (λ c κs. search rules) (λ c κs. search rules) returns-2)
