-- `crate::number::number_or` meets its contract: `field_number`, then `or_default`.
-- Assumes nothing.
use mathlib.Core.Path.{ap, ◌∙◌}
use mir.Facts.{to_z-of_z}
use borrow.Author.Rules.{rules}
use Rattle.numbers.specs.Number.{number_or}
use Rattle.numbers.proofs.IntLaws.{back32}
use Rattle.numbers.proofs.number.number_or.Statement.{statement}
use Rattle.numbers.proofs.number.number_or.Tie as tie

returns : tie.Need-returns
returns c =
    let s = c in
    back32 c.or_default.result c.or_default.type_inv ∙ (simp (to_z-of_z s.ranges.default) at c.or_default.ensures) ∙ ap (number_or s.args.default) c.field_number.ensures

pub number_or_spec : {M : Type 1} → statement M
number_or_spec = tie.close (tie.spec (λ c κs. search rules) (λ c κs. search rules) returns)
