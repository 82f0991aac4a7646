-- `writing_limits::fine::smaller` meets its contract. Assumes nothing.
use mathlib.Core.Path.{◌∙◌}
use Rattle.numbers.proofs.IntLaws.{back32}
use borrow.Author.Rules.{rules}
use Rattle.writing_limits.proofs.fine.smaller.Statement.{statement}
use Rattle.writing_limits.proofs.fine.smaller.Tie as tie

returns : tie.Need-returns
returns c =
    let a = c.field_at in
    let b = c.field_at-2 in
    back32 c.min.result c.min.type_inv ∙ (rw (back32 a.result a.type_inv, a.ensures, back32 b.result b.type_inv, b.ensures) at c.min.ensures)

pub smaller_spec : {M : Type 1} → statement M
smaller_spec = tie.close (tie.spec (λ c κs. search rules) (λ c κs. search rules) (λ c κs. search rules) returns)
