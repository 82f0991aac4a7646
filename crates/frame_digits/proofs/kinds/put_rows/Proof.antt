-- `frame_digits::kinds::put_rows` meets its contract.
-- Assumes nothing.
use Rattle.numbers.proofs.IntLaws.{back32}
use Rattle.frame_bytes.specs.Frame.{row_bytes}
use Rattle.frame_bytes.proofs.PutLaws.{then}
use borrow.Author.Rules.{rules}
use Rattle.frame_digits.proofs.kinds.put_rows.Statement.{statement}
use Rattle.frame_digits.proofs.kinds.put_rows.Tie as tie

returns : tie.Need-returns
unfolding row_bytes
returns c =
    let rows = c in let rows_told = rows in
    let columns = rows_told in let columns-told = columns in
    let security = columns-told in let security-told = security in
    let height = security-told in
    let b = height.args.b in
    then (then (then (rw (back32 b.row_height height.struct_told-1.given.1.0.1) at height.put_i32-a.ensures)
    (rw (back32 b.security security-told.struct_told-2-1.given.1.1.0.1) at security.put_i32-c.ensures))
    (rw (back32 b.columns columns-told.struct_told-3-1.given.1.1.1.0.1) at columns.put_i32-d.ensures))
    (rw (back32 b.rows rows_told.struct_told-4-1.given.1.1.1.1.0.1) at rows.put_i32.ensures)

pub put_rows_spec : {M : Type 1} → statement M
put_rows_spec =
    tie.close
    (tie.spec
    (λ c κs. search rules)
    (λ c κs. search rules)
    (λ c κs. search rules)
    (λ c κs. search rules)
    (λ c. search rules)
    returns)
