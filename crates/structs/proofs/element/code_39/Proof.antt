-- `structs::element::code_39` meets its contract. Assumes nothing.
use borrow.Author.Rules.{rules}
use Rattle.structs.proofs.element.code_39.Statement.{statement}
use Rattle.structs.proofs.element.code_39.Tie as tie

returns : tie.Need-returns
returns c = rw (c.barred-a.ensures, c.flag.ensures) (search rules)

pub code_39_spec : {M : Type 1} → statement M
code_39_spec = tie.close (tie.spec (λ c κs. search rules) (λ c κs. search rules) returns)
