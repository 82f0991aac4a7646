-- `writing_limits::fine::fine_diagonal` meets its contract. Assumes nothing.
use borrow.Author.Rules.{rules}
use Rattle.writing_limits.proofs.fine.fine_diagonal.Statement.{statement}
use Rattle.writing_limits.proofs.fine.fine_diagonal.Tie as tie

returns : tie.Need-returns
returns c = rw (c.is_cornered.ensures, c.is_sloped.ensures)

pub fine_diagonal_spec : {M : Type 1} → statement M
fine_diagonal_spec = tie.close (tie.spec (λ c κs. search rules) (λ c κs. search rules) returns)
