-- `strict::verdict::told` meets its contract. Assumes nothing.
use borrow.Author.Rules.{rules}
use Rattle.strict.proofs.verdict.told.Statement.{statement}
use Rattle.strict.proofs.verdict.told.Tie as tie

pub told_spec : {M : Type 1} → statement M
told_spec = tie.close (tie.spec (λ c κs. search rules) (λ c κs. search rules) (λ c. simp (c.number.ensures, c.kind.ensures)))
