-- `structs::element::interleaved` meets its contract. Assumes nothing.
use borrow.Author.Rules.{rules}
use Rattle.structs.proofs.element.interleaved.Statement.{statement}
use Rattle.structs.proofs.element.interleaved.Tie as tie

returns : tie.Need-returns
returns c = rw (c.barred-a.ensures, c.flag.ensures) (search rules)

pub interleaved_spec : {M : Type 1} → statement M
interleaved_spec = tie.close (tie.spec (λ c κs. search rules) (λ c κs. search rules) returns)
