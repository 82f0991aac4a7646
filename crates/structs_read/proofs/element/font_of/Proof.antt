-- `structs_read::element::font_of` meets its contract. Assumes nothing.
use borrow.Author.Rules.{rules}
use Rattle.structs_read.proofs.element.font_of.Statement.{statement}
use Rattle.structs_read.proofs.element.font_of.Tie as tie

returns : tie.Need-returns
returns c = rw c.orientation_of-rotation.ensures (search rules)

pub font_of_spec : {M : Type 1} → statement M
font_of_spec = tie.close (tie.spec (λ c κs. search rules) returns)
