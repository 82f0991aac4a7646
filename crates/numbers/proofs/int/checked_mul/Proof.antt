-- `crate::int::checked_mul` meets its contract: `times` gives the product, and `narrow` tests it.
-- Assumes nothing.
use mathlib.Core.Path.{◌≡◌, ap, ◌∙◌}
use lib.IntN.{◌*ℤ◌}
use mir.Facts.{to_z-of_z}
use borrow.Author.Rules.{rules}
use Rattle.numbers.specs.Int.{checked}
use Rattle.numbers.proofs.IntLaws.{back64}
use Rattle.numbers.proofs.int.checked_mul.Statement.{statement}
use Rattle.numbers.proofs.int.checked_mul.Tie as tie

returns : tie.Need-returns
returns c =
    let s = c in
    let e : c.times.result ≡ (s.args.a *ℤ s.args.b) = simp (to_z-of_z s.ranges.a, to_z-of_z s.ranges.b) at c.times.ensures in
    simp (back64 c.times.result c.times.type_inv) at c.narrow.ensures ∙ ap checked e

pub checked_mul_spec : {M : Type 1} → statement M
checked_mul_spec = tie.close (tie.spec (λ c κs. search rules) (λ c κs. search rules) returns)
