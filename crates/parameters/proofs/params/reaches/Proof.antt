-- `parameters::params::reaches` meets its contract: what was seen, or what is counted.
-- Assumes nothing.
use borrow.Author.Rules.{rules}
use Rattle.parameters.proofs.params.reaches.Statement.{statement}
use Rattle.parameters.proofs.params.reaches.Tie as tie

returns-2 : tie.Need-returns
returns-2 c = rw c.if-seen.false c.has_fields.ensures

pub reaches_spec : {M : Type 1} → statement M
reaches_spec = tie.close (tie.spec (λ c. search rules) (λ c κs. search rules) returns-2)
