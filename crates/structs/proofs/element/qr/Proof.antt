-- `structs::element::qr` meets its contract. Assumes nothing.
use borrow.Author.Rules.{rules}
use Rattle.structs.proofs.element.qr.Statement.{statement}
use Rattle.structs.proofs.element.qr.Tie as tie

returns : tie.Need-returns
returns c = rw (c.placed-a.ensures, c.level.ensures) (search rules)

pub qr_spec : {M : Type 1} → statement M
qr_spec = tie.close (tie.spec (λ c κs. search rules) (λ c κs. search rules) returns)
