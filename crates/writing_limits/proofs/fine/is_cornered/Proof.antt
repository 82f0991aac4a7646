-- `writing_limits::fine::is_cornered` meets its contract. Assumes nothing.
use borrow.Author.Rules.{rules}
use Rattle.writing_limits.proofs.fine.is_cornered.Statement.{statement}
use Rattle.writing_limits.proofs.fine.is_cornered.Tie as tie

returns : tie.Need-returns
returns c = rw (c.in_range.ensures, c.in_range-2.ensures, c.in_range-3.ensures, c.far_fits.ensures)

pub is_cornered_spec : {M : Type 1} → statement M
is_cornered_spec = tie.close (tie.spec (λ c κs. search rules) (λ c κs. search rules) (λ c κs. search rules) (λ c κs. search rules) returns)
