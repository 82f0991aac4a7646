-- `writing_limits::fine::is_line_text` meets its contract. Assumes nothing.
use borrow.Author.Rules.{rules}
use Rattle.writing_limits.proofs.fine.is_line_text.Statement.{statement}
use Rattle.writing_limits.proofs.fine.is_line_text.Tie as tie

returns : tie.Need-returns
returns c = rw c.find.ensures.is

pub is_line_text_spec : {M : Type 1} → statement M
is_line_text_spec = tie.close (tie.spec (λ c κs. search rules) returns)
