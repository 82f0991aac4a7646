-- `writing_limits::fine::fine_rows` meets its contract. Assumes nothing.
use Rattle.numbers.proofs.IntLaws.{back32}
use borrow.Author.Rules.{rules}
use Rattle.writing_limits.proofs.fine.fine_rows.Statement.{statement}
use Rattle.writing_limits.proofs.fine.fine_rows.Tie as tie

returns : tie.Need-returns
returns c =
    let a = c.field_at in
    rw (c.in_range.ensures, rw (back32 a.result a.type_inv, a.ensures) at c.is_rows.ensures)

pub fine_rows_spec : {M : Type 1} → statement M
fine_rows_spec = tie.close (tie.spec (λ c κs. search rules) (λ c κs. search rules) (λ c κs. search rules) returns)
