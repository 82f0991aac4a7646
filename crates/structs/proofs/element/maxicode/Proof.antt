-- `structs::element::maxicode` meets its contract. Assumes nothing.
use borrow.Author.Rules.{rules}
use Rattle.structs.proofs.element.maxicode.Statement.{statement}
use Rattle.structs.proofs.element.maxicode.Tie as tie

returns : tie.Need-returns
returns c = rw c.placed-a.ensures (search rules)

pub maxicode_spec : {M : Type 1} → statement M
maxicode_spec = tie.close (tie.spec (λ c κs. search rules) returns)
