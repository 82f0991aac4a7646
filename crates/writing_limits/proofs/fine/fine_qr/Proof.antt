-- `writing_limits::fine::fine_qr` meets its contract. Assumes nothing.
use borrow.Author.Rules.{rules}
use Rattle.writing_limits.proofs.fine.fine_qr.Statement.{statement}
use Rattle.writing_limits.proofs.fine.fine_qr.Tie as tie

returns : tie.Need-returns
returns c = rw (c.in_range.ensures, c.decoded_len.ensures)

pub fine_qr_spec : {M : Type 1} → statement M
fine_qr_spec = tie.close (tie.spec (λ c κs. search rules) (λ c κs. search rules) returns)
