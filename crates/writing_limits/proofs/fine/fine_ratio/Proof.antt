-- `writing_limits::fine::fine_ratio` meets its contract. Assumes nothing.
use mathlib.Core.Path.{refl}
use Rattle.numbers.proofs.IntLaws.{back32}
use borrow.Author.Rules.{rules}
use Rattle.writing_limits.proofs.fine.fine_ratio.Statement.{statement}
use Rattle.writing_limits.proofs.fine.fine_ratio.Tie as tie

returns : tie.Need-returns
returns c =
    let a = c.field_at in
    let b = c.field_at-2 in
    rw c.same_bits.ensures (rw (rw (back32 a.result a.type_inv, a.ensures, back32 b.result b.type_inv, b.ensures) at c.bar_ratio.ensures) refl)

pub fine_ratio_spec : {M : Type 1} → statement M
fine_ratio_spec =
    tie.close
    (tie.spec (λ c κs. search rules) (λ c κs. search rules) (λ c κs. search rules) (λ c κs. search rules) returns)
