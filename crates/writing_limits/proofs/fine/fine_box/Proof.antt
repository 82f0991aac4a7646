-- `writing_limits::fine::fine_box` meets its contract. Assumes nothing.
use borrow.Author.Rules.{rules}
use Rattle.writing_limits.proofs.fine.fine_box.Statement.{statement}
use Rattle.writing_limits.proofs.fine.fine_box.Tie as tie

returns : tie.Need-returns
returns c = rw (c.is_line.ensures, c.is_cornered.ensures)

pub fine_box_spec : {M : Type 1} → statement M
fine_box_spec = tie.close (tie.spec (λ c κs. search rules) (λ c κs. search rules) returns)
