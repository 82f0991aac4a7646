-- `structs_read::element::graphic_of` meets its contract. Assumes nothing.
use borrow.Author.Rules.{rules}
use Rattle.structs_read.proofs.element.graphic_of.Statement.{statement}
use Rattle.structs_read.proofs.element.graphic_of.Tie as tie

returns : tie.Need-returns
returns c = rw (c.at-position.ensures, c.span-data.ensures) (search rules)

pub graphic_of_spec : {M : Type 1} → statement M
graphic_of_spec = tie.close (tie.spec (λ c κs. search rules) (λ c κs. search rules) returns)
