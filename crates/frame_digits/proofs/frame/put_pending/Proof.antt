-- `frame_digits::frame::put_pending` meets its contract.
-- Assumes nothing.
use Rattle.frame_bytes.proofs.PutLaws.{then, line}
use borrow.Author.Rules.{rules}
use Rattle.frame_digits.proofs.frame.put_pending.Statement.{statement}
use Rattle.frame_digits.proofs.frame.put_pending.Tie as tie

returns : tie.Need-returns
returns c =
    let lf = c in let number = lf in let kind = number in
    line (then kind.put_byte-a.ensures number.put_u32-b.ensures) lf.put_lf.ensures

pub put_pending_spec : {M : Type 1} → statement M
put_pending_spec =
    tie.close
    (tie.spec (λ c κs. search rules) (λ c κs. search rules) (λ c κs. search rules) (λ c. search rules)
    returns)
