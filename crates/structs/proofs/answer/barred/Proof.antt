-- `structs::answer::barred` meets its contract. Assumes nothing.
use borrow.Author.Rules.{rules}
use Rattle.structs.proofs.answer.barred.Statement.{statement}
use Rattle.structs.proofs.answer.barred.Tie as tie

returns : tie.Need-returns
returns c = rw (c.placed-a.ensures, c.rotation.ensures, c.flag.ensures) (search rules)

pub barred_spec : {M : Type 1} → statement M
barred_spec = tie.close (tie.spec (λ c κs. search rules) (λ c κs. search rules) (λ c κs. search rules) returns)
