-- `frame_digits::kinds::put_128` meets its contract.
-- Assumes nothing.
use Rattle.frame_bytes.specs.Frame.{field_bytes}
use Rattle.frame_bytes.proofs.PutLaws.{then}
use borrow.Author.Rules.{rules}
use Rattle.frame_digits.proofs.kinds.put_128.Statement.{statement}
use Rattle.frame_digits.proofs.kinds.put_128.Tie as tie

returns : tie.Need-returns
unfolding field_bytes
returns c =
    let by = c in let mode = by in
    let bars = mode in
    then bars.put_bars-a.ensures
    (rw mode.mode.ensures at by.put_byte.ensures)

pub put_128_spec : {M : Type 1} → statement M
put_128_spec =
    tie.close (tie.spec (λ c κs. search rules) (λ c κs. search rules) (λ c κs. search rules) (λ c. search rules) returns)
