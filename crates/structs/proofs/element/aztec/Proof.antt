-- `structs::element::aztec` meets its contract. Assumes nothing.
use borrow.Author.Rules.{rules}
use Rattle.structs.proofs.element.aztec.Statement.{statement}
use Rattle.structs.proofs.element.aztec.Tie as tie

returns : tie.Need-returns
returns c = rw c.placed-a.ensures (search rules)

pub aztec_spec : {M : Type 1} → statement M
aztec_spec = tie.close (tie.spec (λ c κs. search rules) returns)
