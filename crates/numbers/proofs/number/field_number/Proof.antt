-- `crate::number::field_number` meets its contract: `trim`, then `parse`.
-- Assumes nothing.
use mathlib.Core.Path.{ap, ◌∙◌}
use borrow.Author.Rules.{rules}
use Rattle.numbers.specs.Number.{number_spelled}
use Rattle.numbers.proofs.number.field_number.Statement.{statement}
use Rattle.numbers.proofs.number.field_number.Tie as tie

returns : tie.Need-returns
returns c = c.parse.ensures ∙ ap number_spelled c.trim.ensures

pub field_number_spec : {M : Type 1} → statement M
field_number_spec = tie.close (tie.spec (λ c κs. search rules) (λ c κs. search rules) returns)
