-- `structs_read::element::datamatrix_of` meets its contract. Assumes nothing.
use borrow.Author.Rules.{rules}
use Rattle.structs_read.proofs.element.datamatrix_of.Statement.{statement}
use Rattle.structs_read.proofs.element.datamatrix_of.Tie as tie

returns : tie.Need-returns
returns c = rw (c.at-position.ensures, c.span-data.ensures) (search rules)

pub datamatrix_of_spec : {M : Type 1} → statement M
datamatrix_of_spec = tie.close (tie.spec (λ c κs. search rules) (λ c κs. search rules) returns)
