-- `frame_digits::kinds::put_qr` meets its contract.
-- Assumes nothing.
use Rattle.numbers.proofs.IntLaws.{back32}
use Rattle.frame_bytes.specs.Frame.{field_bytes}
use Rattle.frame_bytes.proofs.PutLaws.{then}
use borrow.Author.Rules.{rules}
use Rattle.frame_digits.proofs.kinds.put_qr.Statement.{statement}
use Rattle.frame_digits.proofs.kinds.put_qr.Tie as tie

returns : tie.Need-returns
unfolding field_bytes
returns c =
    let letter = c in let level = letter in
    let magnification = level in
    let b = magnification.args.b in
    then (rw (back32 b.magnification magnification.struct_told-1.given.0.1) at magnification.put_i32-a.ensures)
    (rw level.level.ensures at letter.put_byte.ensures)

pub put_qr_spec : {M : Type 1} → statement M
put_qr_spec =
    tie.close (tie.spec (λ c κs. search rules) (λ c κs. search rules) (λ c κs. search rules) (λ c. search rules) returns)
