-- `structs_read::element::box_of` meets its contract. Assumes nothing.
use borrow.Author.Rules.{rules}
use Rattle.structs_read.proofs.element.box_of.Statement.{statement}
use Rattle.structs_read.proofs.element.box_of.Tie as tie

returns : tie.Need-returns
returns c = rw (c.at-position.ensures, c.colour_of-line_color.ensures) (search rules)

pub box_of_spec : {M : Type 1} → statement M
box_of_spec = tie.close (tie.spec (λ c κs. search rules) (λ c κs. search rules) returns)
