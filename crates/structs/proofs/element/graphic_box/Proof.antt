-- `structs::element::graphic_box` meets its contract. Assumes nothing.
use borrow.Author.Rules.{rules}
use Rattle.structs.proofs.element.graphic_box.Statement.{statement}
use Rattle.structs.proofs.element.graphic_box.Tie as tie

returns : tie.Need-returns
returns c = rw (c.placed-a.ensures, c.colour.ensures) (search rules)

pub graphic_box_spec : {M : Type 1} → statement M
graphic_box_spec = tie.close (tie.spec (λ c κs. search rules) (λ c κs. search rules) returns)
