-- `parameters::params::is_exactly` meets its contract: a byte alone is told at once.
-- Assumes nothing.
use mathlib.Core.Path.{sym, ◌∙◌}
use Rattle.parameters.proofs.ParamsLaws.{alone_one, alone_exactly}
use borrow.Author.Rules.{rules}
use Rattle.parameters.proofs.params.is_exactly.Statement.{statement}
use Rattle.parameters.proofs.params.is_exactly.Tie as tie

returns-2 : tie.Need-returns-then-is_mark
returns-2 c =
    let m = c in
    let a = m.args in
    alone_exactly a.s.now a.b (sym (alone_one a.s.now m.if-s-ne1.false) ∙ sym m.is_mark.ensures ∙ c.if-is_mark.true)

pub is_exactly_spec : {M : Type 1} → statement M
is_exactly_spec =
    tie.close
    (tie.spec (λ c κs. search rules) (λ c. search rules) (λ c. search rules) (λ c κs. search rules) (λ c. search rules)
    returns-2 (λ c κs. search rules) (λ c. search rules))
