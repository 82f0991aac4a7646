-- `frame_digits::kinds::put_scale` meets its contract.
-- Assumes nothing.
use Rattle.numbers.proofs.IntLaws.{back32}
use Rattle.frame_bytes.specs.Frame.{scale_bytes}
use Rattle.frame_bytes.proofs.PutLaws.{then}
use borrow.Author.Rules.{rules}
use Rattle.frame_digits.proofs.kinds.put_scale.Statement.{statement}
use Rattle.frame_digits.proofs.kinds.put_scale.Tie as tie

returns : tie.Need-returns
unfolding scale_bytes
returns c =
    let vertical = c in let vertical-told = vertical in
    let horizontal = vertical-told in let horizontal-told = horizontal in
    let font = horizontal-told in
    let s = font.args.s in
    then (then (rw (back32 s.font font.struct_told-1.given.0.1) at font.put_i32-a.ensures)
    (rw (back32 s.horizontal horizontal-told.struct_told-2-1.given.1.0.1) at horizontal.put_i32-b.ensures))
    (rw (back32 s.vertical vertical-told.struct_told-3-1.given.1.1.0.1) at vertical.put_i32.ensures)

pub put_scale_spec : {M : Type 1} → statement M
put_scale_spec = tie.close (tie.spec (λ c κs. search rules) (λ c κs. search rules) (λ c κs. search rules) (λ c. search rules) returns)
