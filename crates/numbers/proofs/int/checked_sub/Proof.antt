-- `crate::int::checked_sub` meets its contract: `minus` gives the difference, and `narrow` tests it.
-- Assumes nothing.
use mathlib.Core.Path.{◌≡◌, ap, ◌∙◌}
use lib.IntN.{◌-ℤ◌}
use mir.Facts.{to_z-of_z}
use borrow.Author.Rules.{rules}
use Rattle.numbers.specs.Int.{checked}
use Rattle.numbers.proofs.IntLaws.{back64}
use Rattle.numbers.proofs.int.checked_sub.Statement.{statement}
use Rattle.numbers.proofs.int.checked_sub.Tie as tie

returns : tie.Need-returns
returns c =
    let s = c in
    let e : c.minus.result ≡ (s.args.a -ℤ s.args.b) = simp (to_z-of_z s.ranges.a, to_z-of_z s.ranges.b) at c.minus.ensures in
    simp (back64 c.minus.result c.minus.type_inv) at c.narrow.ensures ∙ ap checked e

pub checked_sub_spec : {M : Type 1} → statement M
checked_sub_spec = tie.close (tie.spec (λ c κs. search rules) (λ c κs. search rules) returns)
