-- `structs::element::pdf417` meets its contract. Assumes nothing.
use borrow.Author.Rules.{rules}
use Rattle.structs.proofs.element.pdf417.Statement.{statement}
use Rattle.structs.proofs.element.pdf417.Tie as tie

returns : tie.Need-returns
returns c = let told = c in rw (told.placed-a.ensures, told.rotation.ensures, told.flag.ensures) (search rules)

pub pdf417_spec : {M : Type 1} → statement M
pdf417_spec = tie.close (tie.spec (λ c κs. search rules) (λ c κs. search rules) (λ c κs. search rules) returns)
