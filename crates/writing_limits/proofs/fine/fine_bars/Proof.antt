-- `writing_limits::fine::fine_bars` meets its contract. Assumes nothing.
use borrow.Author.Rules.{rules}
use Rattle.writing_limits.proofs.fine.fine_bars.Statement.{statement}
use Rattle.writing_limits.proofs.fine.fine_bars.Tie as tie

returns : tie.Need-returns
returns c = rw (c.in_range.ensures, c.in_range-2.ensures)

pub fine_bars_spec : {M : Type 1} → statement M
fine_bars_spec = tie.close (tie.spec (λ c κs. search rules) (λ c κs. search rules) returns)
