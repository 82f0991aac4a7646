-- `writing_limits::fine::fine_pdf417` meets its contract. Assumes nothing.
use borrow.Author.Rules.{rules}
use Rattle.writing_limits.proofs.fine.fine_pdf417.Statement.{statement}
use Rattle.writing_limits.proofs.fine.fine_pdf417.Tie as tie

returns : tie.Need-returns
returns c =
    let rows = c in
    let columns = rows in
    let security = columns in
    rw (security.in_range.ensures, security.is_number.ensures, security.in_range-2.ensures, columns.in_range-3.ensures, rows.in_range-4.ensures, c.in_range-5.ensures)

pub fine_pdf417_spec : {M : Type 1} → statement M
fine_pdf417_spec = tie.close (tie.spec (λ c κs. search rules) (λ c κs. search rules) (λ c κs. search rules) (λ c κs. search rules) (λ c κs. search rules) (λ c κs. search rules) returns)
