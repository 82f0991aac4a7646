-- `structs::element::diagonal` meets its contract. Assumes nothing.
use borrow.Author.Rules.{rules}
use Rattle.structs.proofs.element.diagonal.Statement.{statement}
use Rattle.structs.proofs.element.diagonal.Tie as tie

returns : tie.Need-returns
returns c = rw (c.placed-a.ensures, c.flag.ensures) (search rules)

pub diagonal_spec : {M : Type 1} → statement M
diagonal_spec = tie.close (tie.spec (λ c κs. search rules) (λ c κs. search rules) returns)
