-- `parameters::params::tail` meets its contract.
-- Assumes nothing.
use Rattle.text.proofs.DropSteps.{rest}
use Rattle.parameters.proofs.ParamsLaws.{drop_none}
use borrow.Author.Rules.{rules}
use Rattle.parameters.proofs.params.tail.Statement.{statement}
use Rattle.parameters.proofs.params.tail.Tie as tie

returns : tie.Need-returns-then-s-eq0
returns c = drop_none c.args.s.now c.if-s-eq0.true

pub tail_spec : {M : Type 1} → statement M
tail_spec =
    tie.close (tie.spec returns (λ c. search rules) (λ c. search rules) (λ c. search rules)
    (λ c. rest c.args.s.now 1))
