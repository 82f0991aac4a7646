-- `structs::element::ean13` meets its contract. Assumes nothing.
use borrow.Author.Rules.{rules}
use Rattle.structs.proofs.element.ean13.Statement.{statement}
use Rattle.structs.proofs.element.ean13.Tie as tie

returns : tie.Need-returns
returns c = rw c.barred-a.ensures (search rules)

pub ean13_spec : {M : Type 1} → statement M
ean13_spec = tie.close (tie.spec (λ c κs. search rules) returns)
