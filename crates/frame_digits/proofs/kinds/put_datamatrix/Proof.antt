-- `frame_digits::kinds::put_datamatrix` meets its contract.
-- Assumes nothing.
use Rattle.numbers.proofs.IntLaws.{back32}
use Rattle.frame_bytes.specs.Frame.{field_bytes}
use Rattle.frame_bytes.proofs.PutLaws.{then}
use borrow.Author.Rules.{rules}
use Rattle.frame_digits.proofs.kinds.put_datamatrix.Statement.{statement}
use Rattle.frame_digits.proofs.kinds.put_datamatrix.Tie as tie

returns : tie.Need-returns
unfolding field_bytes
returns c =
    let rows = c in let rows_told = rows in
    let columns = rows_told in let columns-told = columns in
    let height = columns-told in
    let b = height.args.b in
    then (then (rw (back32 b.height height.struct_told-1.given.0.1) at height.put_i32-a.ensures)
    (rw (back32 b.columns columns-told.struct_told-2-1.given.1.0.1) at columns.put_i32-c.ensures))
    (rw (back32 b.rows rows_told.struct_told-3-1.given.1.1.0.1) at rows.put_i32.ensures)

pub put_datamatrix_spec : {M : Type 1} → statement M
put_datamatrix_spec =
    tie.close (tie.spec (λ c κs. search rules) (λ c κs. search rules) (λ c κs. search rules) (λ c. search rules) returns)
