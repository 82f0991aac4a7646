-- `parameters::params::type_at` meets its contract: the first field, trimmed.
-- Assumes nothing.
use mathlib.Core.Path.{ap, ◌∙◌}
use Rattle.text.specs.Blank.{trim}
use Rattle.parameters.specs.Params.{type_at}
use borrow.Author.Rules.{rules}
use Rattle.parameters.proofs.params.type_at.Statement.{statement}
use Rattle.parameters.proofs.params.type_at.Tie as tie

returns : tie.Need-returns
unfolding type_at
returns c = c.trim.ensures ∙ ap trim c.first_field.ensures

pub type_at_spec : {M : Type 1} → statement M
type_at_spec = tie.close (tie.spec (λ c κs. search rules) (λ c κs. search rules) returns)
