-- `structs::element::text_field` meets its contract. Assumes nothing.
use borrow.Author.Rules.{rules}
use Rattle.structs.proofs.element.text_field.Statement.{statement}
use Rattle.structs.proofs.element.text_field.Tie as tie

returns : tie.Need-returns
returns c = let flag = c in rw (flag.placed-a.ensures, flag.rotation.ensures, flag.flag.ensures) (search rules)

pub text_field_spec : {M : Type 1} → statement M
text_field_spec = tie.close (tie.spec (λ c κs. search rules) (λ c κs. search rules) (λ c κs. search rules) returns)
