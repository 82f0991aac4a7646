-- `structs_read::element::is_element` meets its contract. Assumes nothing.
use borrow.Author.Rules.{rules}
use Rattle.structs_read.proofs.element.is_element.Statement.{statement}
use Rattle.structs_read.proofs.element.is_element.Tie as tie

returns : tie.Need-returns
returns c = rw (c.struct_of.ensures, c.element_of.ensures) at c.same.ensures

pub is_element_spec : {M : Type 1} → statement M
is_element_spec =
    tie.close (tie.spec (λ c κs. search rules) (λ c κs. search rules) (λ c κs. search rules) returns)
