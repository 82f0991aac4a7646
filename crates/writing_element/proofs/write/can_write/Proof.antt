-- `writing_element::write::can_write` meets its contract. Assumes nothing.
use borrow.Author.Rules.{rules}
use Rattle.writing_element.proofs.write.can_write.Statement.{statement}
use Rattle.writing_element.proofs.write.can_write.Tie as tie

returns : tie.Need-returns
returns c = rw (c.fine_bytes.ensures, c.fine_numbers.ensures)

pub can_write_spec : {M : Type 1} → statement M
can_write_spec = tie.close (tie.spec (λ c κs. search rules) (λ c κs. search rules) returns)
