-- `writing_limits::fine::fine_datamatrix` meets its contract. Assumes nothing.
use borrow.Author.Rules.{rules}
use Rattle.writing_limits.proofs.fine.fine_datamatrix.Statement.{statement}
use Rattle.writing_limits.proofs.fine.fine_datamatrix.Tie as tie

returns : tie.Need-returns
returns c = rw (c.in_range.ensures, c.in_range-2.ensures, c.in_range-3.ensures)

pub fine_datamatrix_spec : {M : Type 1} → statement M
fine_datamatrix_spec = tie.close (tie.spec (λ c κs. search rules) (λ c κs. search rules) (λ c κs. search rules) returns)
