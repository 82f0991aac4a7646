-- `writing_limits::fine::in_range` meets its contract. Assumes nothing.
use Rattle.numbers.proofs.IntLaws.{back32}
use borrow.Author.Rules.{rules}
use Rattle.writing_limits.proofs.fine.in_range.Statement.{statement}
use Rattle.writing_limits.proofs.fine.in_range.Tie as tie

returns : tie.Need-returns
returns c =
    let a = c.field_at in
    rw (back32 a.result a.type_inv, a.ensures) at c.between.ensures

pub in_range_spec : {M : Type 1} → statement M
in_range_spec = tie.close (tie.spec (λ c κs. search rules) (λ c κs. search rules) returns)
