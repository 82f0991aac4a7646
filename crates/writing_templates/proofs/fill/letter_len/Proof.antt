-- `writing_templates::fill::letter_len` meets its contract. Assumes nothing.
use borrow.Author.Tests.{eq-eqb, ne_eqb}
use Rattle.writing_templates.proofs.fill.letter_len.Statement.{statement}
use Rattle.writing_templates.proofs.fill.letter_len.Tie as tie

returns : tie.Need-returns-then-b-eq0
returns c = simp (eq-eqb c.args.b 0 c.if-b-eq0.true)

returns-2 : tie.Need-returns-else-b-eq0
returns-2 c = simp (ne_eqb c.args.b 0 c.if-b-eq0.false)

pub letter_len_spec : {M : Type 1} → statement M
letter_len_spec = tie.close (tie.spec returns returns-2)
