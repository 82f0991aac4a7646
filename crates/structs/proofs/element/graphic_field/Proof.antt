-- `structs::element::graphic_field` meets its contract. Assumes nothing.
use borrow.Author.Rules.{rules}
use Rattle.structs.proofs.element.graphic_field.Statement.{statement}
use Rattle.structs.proofs.element.graphic_field.Tie as tie

returns : tie.Need-returns
returns c = rw c.placed-a.ensures (search rules)

pub graphic_field_spec : {M : Type 1} → statement M
graphic_field_spec = tie.close (tie.spec (λ c κs. search rules) returns)
