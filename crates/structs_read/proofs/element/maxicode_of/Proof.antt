-- `structs_read::element::maxicode_of` meets its contract. Assumes nothing.
use borrow.Author.Rules.{rules}
use Rattle.structs_read.proofs.element.maxicode_of.Statement.{statement}
use Rattle.structs_read.proofs.element.maxicode_of.Tie as tie

returns : tie.Need-returns
returns c = rw (c.at-position.ensures, c.span-data.ensures) (search rules)

pub maxicode_of_spec : {M : Type 1} → statement M
maxicode_of_spec = tie.close (tie.spec (λ c κs. search rules) (λ c κs. search rules) returns)
