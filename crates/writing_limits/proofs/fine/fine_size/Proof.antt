-- `writing_limits::fine::fine_size` meets its contract. Assumes nothing.
use borrow.Author.Rules.{rules}
use Rattle.writing_limits.proofs.fine.fine_size.Statement.{statement}
use Rattle.writing_limits.proofs.fine.fine_size.Tie as tie

returns : tie.Need-returns
returns c = rw (c.in_range.ensures, c.in_range-2.ensures, c.in_range-3.ensures, c.is_number.ensures)

pub fine_size_spec : {M : Type 1} → statement M
fine_size_spec = tie.close (tie.spec (λ c κs. search rules) (λ c κs. search rules) (λ c κs. search rules) (λ c κs. search rules) returns)
