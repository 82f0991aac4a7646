-- `crate::int::checked_add` meets its contract: `plus` gives the sum, and `narrow` tests it.
-- Assumes nothing.
use mathlib.Core.Path.{◌≡◌, ap, ◌∙◌}
use lib.IntN.{◌+ℤ◌}
use mir.Facts.{to_z-of_z}
use borrow.Author.Rules.{rules}
use Rattle.numbers.specs.Int.{checked}
use Rattle.numbers.proofs.IntLaws.{back64}
use Rattle.numbers.proofs.int.checked_add.Statement.{statement}
use Rattle.numbers.proofs.int.checked_add.Tie as tie

returns : tie.Need-returns
returns c =
    let s = c in
    let e : c.plus.result ≡ (s.args.a +ℤ s.args.b) = simp (to_z-of_z s.ranges.a, to_z-of_z s.ranges.b) at c.plus.ensures in
    simp (back64 c.plus.result c.plus.type_inv) at c.narrow.ensures ∙ ap checked e

pub checked_add_spec : {M : Type 1} → statement M
checked_add_spec = tie.close (tie.spec (λ c κs. search rules) (λ c κs. search rules) returns)
