-- `writing_limits::fine::is_line` meets its contract. Assumes nothing.
use Rattle.numbers.proofs.IntLaws.{back32}
use borrow.Author.Rules.{rules}
use Rattle.writing_limits.proofs.fine.is_line.Statement.{statement}
use Rattle.writing_limits.proofs.fine.is_line.Tie as tie

returns : tie.Need-returns
returns c = rw (c.in_range.ensures, c.in_range-2.ensures, c.is_number.ensures, back32 c.smaller.result c.smaller.type_inv, c.smaller.ensures)

pub is_line_spec : {M : Type 1} → statement M
is_line_spec = tie.close (tie.spec (λ c κs. search rules) (λ c κs. search rules) (λ c κs. search rules) (λ c κs. search rules) returns)
