-- `structs::element::upca` meets its contract. Assumes nothing.
use borrow.Author.Rules.{rules}
use Rattle.structs.proofs.element.upca.Statement.{statement}
use Rattle.structs.proofs.element.upca.Tie as tie

returns : tie.Need-returns
returns c = rw c.barred-a.ensures (search rules)

pub upca_spec : {M : Type 1} → statement M
upca_spec = tie.close (tie.spec (λ c κs. search rules) returns)
