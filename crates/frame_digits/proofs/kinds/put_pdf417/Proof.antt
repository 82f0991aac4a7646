-- `frame_digits::kinds::put_pdf417` meets its contract.
-- Assumes nothing.
use Rattle.numbers.proofs.IntLaws.{back32}
use Rattle.frame_bytes.specs.Frame.{field_bytes}
use Rattle.frame_bytes.proofs.PutLaws.{then}
use borrow.Author.Rules.{rules}
use Rattle.frame_digits.proofs.kinds.put_pdf417.Statement.{statement}
use Rattle.frame_digits.proofs.kinds.put_pdf417.Tie as tie

returns : tie.Need-returns
unfolding field_bytes
returns c =
    let width = c in let width-told = width in
    let truncate = width-told in
    let rows = truncate in
    let turned = rows in
    let b = turned.args.b in
    then turned.put_rotation-a.ensures
    (then rows.put_rows-c.ensures
    (then truncate.put_flag-d.ensures
    (rw (back32 b.module_width width-told.struct_told-1.given.1.1.1.1.1.1.0.1) at width.put_i32.ensures)))

pub put_pdf417_spec : {M : Type 1} → statement M
put_pdf417_spec =
    tie.close
    (tie.spec
    (λ c κs. search rules)
    (λ c κs. search rules)
    (λ c κs. search rules)
    (λ c κs. search rules)
    (λ c. search rules)
    returns)
