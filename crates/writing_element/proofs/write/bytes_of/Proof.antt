-- `writing_element::write::bytes_of` meets its contract. Assumes nothing.
use borrow.Author.Rules.{rules}
use Rattle.writing_element.proofs.write.bytes_of.Statement.{statement}
use Rattle.writing_element.proofs.write.bytes_of.Tie as tie

returns : tie.Need-returns
returns c = c.part.ensures

pub bytes_of_spec : {M : Type 1} → statement M
bytes_of_spec = tie.close (tie.spec (λ c κs. search rules) returns)
