-- `structs::element::datamatrix` meets its contract. Assumes nothing.
use borrow.Author.Rules.{rules}
use Rattle.structs.proofs.element.datamatrix.Statement.{statement}
use Rattle.structs.proofs.element.datamatrix.Tie as tie

returns : tie.Need-returns
returns c = rw c.placed-a.ensures (search rules)

pub datamatrix_spec : {M : Type 1} → statement M
datamatrix_spec = tie.close (tie.spec (λ c κs. search rules) returns)
