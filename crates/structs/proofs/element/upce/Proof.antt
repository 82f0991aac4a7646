-- `structs::element::upce` meets its contract. Assumes nothing.
use borrow.Author.Rules.{rules}
use Rattle.structs.proofs.element.upce.Statement.{statement}
use Rattle.structs.proofs.element.upce.Tie as tie

returns : tie.Need-returns
returns c = rw c.barred-a.ensures (search rules)

pub upce_spec : {M : Type 1} → statement M
upce_spec = tie.close (tie.spec (λ c κs. search rules) returns)
