-- `crate::blank::last` meets its contract.
-- Assumes nothing.
use borrow.Author.Rules.{rules}
use Rattle.text.proofs.BlankSteps.{last_is}
use Rattle.numbers.proofs.blank.last.Statement.{statement}
use Rattle.numbers.proofs.blank.last.Tie as tie

returns : tie.Need-returns
returns c = last_is c.args.s.now c.args.k _ c.min.ensures

pub last_spec : {M : Type 1} → statement M
last_spec =
    tie.close
    (tie.spec (λ c κs. search rules) (λ c. search rules) (λ c. search rules) (λ c. search rules) (λ c. search rules)
    returns)
