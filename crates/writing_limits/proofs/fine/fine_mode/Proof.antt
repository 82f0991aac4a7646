-- `writing_limits::fine::fine_mode` meets its contract. Assumes nothing.
use borrow.Author.Rules.{rules}
use Rattle.writing_limits.proofs.fine.fine_mode.Statement.{statement}
use Rattle.writing_limits.proofs.fine.fine_mode.Tie as tie

returns : tie.Need-returns
returns c = rw (c.in_range.ensures, c.in_range-2.ensures)

pub fine_mode_spec : {M : Type 1} → statement M
fine_mode_spec = tie.close (tie.spec (λ c κs. search rules) (λ c κs. search rules) returns)
