-- `frame_digits::kinds::put_aztec` meets its contract.
-- Assumes nothing.
use Rattle.numbers.proofs.IntLaws.{back32}
use Rattle.frame_bytes.specs.Frame.{field_bytes}
use Rattle.frame_bytes.proofs.PutLaws.{then}
use borrow.Author.Rules.{rules}
use Rattle.frame_digits.proofs.kinds.put_aztec.Statement.{statement}
use Rattle.frame_digits.proofs.kinds.put_aztec.Tie as tie

returns : tie.Need-returns
unfolding field_bytes
returns c =
    let size = c in let size-told = size in
    let magnification = size-told in
    let b = magnification.args.b in
    then (rw (back32 b.magnification magnification.struct_told-1.given.0.1) at magnification.put_i32-a.ensures)
    (rw (back32 b.size size-told.struct_told-2-1.given.1.0.1) at size.put_i32.ensures)

pub put_aztec_spec : {M : Type 1} → statement M
put_aztec_spec = tie.close (tie.spec (λ c κs. search rules) (λ c κs. search rules) (λ c. search rules) returns)
