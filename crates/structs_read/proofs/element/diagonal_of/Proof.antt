-- `structs_read::element::diagonal_of` meets its contract. Assumes nothing.
use borrow.Author.Rules.{rules}
use Rattle.structs_read.proofs.element.diagonal_of.Statement.{statement}
use Rattle.structs_read.proofs.element.diagonal_of.Tie as tie

returns : tie.Need-returns
returns c = rw c.at-position.ensures (search rules)

pub diagonal_of_spec : {M : Type 1} → statement M
diagonal_of_spec = tie.close (tie.spec (λ c κs. search rules) returns)
