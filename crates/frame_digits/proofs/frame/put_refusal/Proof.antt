-- `frame_digits::frame::put_refusal` meets its contract.
-- Assumes nothing.
use Rattle.frame_bytes.proofs.PutLaws.{then, line}
use borrow.Author.Rules.{rules}
use Rattle.frame_digits.proofs.frame.put_refusal.Statement.{statement}
use Rattle.frame_digits.proofs.frame.put_refusal.Tie as tie

returns : tie.Need-returns
returns c =
    let lf = c in let place = lf in
    let number = place in let kind = number in
    line (then kind.put_byte-a.ensures (then number.put_byte-b.ensures place.put_u32-c.ensures)) lf.put_lf.ensures

pub put_refusal_spec : {M : Type 1} → statement M
put_refusal_spec =
    tie.close
    (tie.spec
    (λ c κs. search rules)
    (λ c κs. search rules)
    (λ c κs. search rules)
    (λ c κs. search rules)
    (λ c. search rules)
    returns)
