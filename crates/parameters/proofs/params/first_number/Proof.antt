-- `parameters::params::first_number` meets its contract: nothing there, or what `number_from` reads.
-- Assumes nothing.
use mathlib.Core.Path.{refl, ◌∙◌}
use native.Mathlib.Omega.{arith}
use mir.Facts.{to_z-of_z}
use Rattle.numbers.proofs.IntLaws.{back32}
use Rattle.parameters.proofs.PlaceLaws.{past_end, number_value}
use borrow.Author.Rules.{rules}
use Rattle.parameters.proofs.params.first_number.Statement.{statement}
use Rattle.parameters.proofs.params.first_number.Tie as tie

returns : tie.Need-returns-then-s-eq0
returns c =
    let a = c in
    back32 c.or_default.result c.or_default.type_inv
    ∙ number_value a.args.default a.args.s.now 0 refl (past_end _ _ 0 (omega (arith, c.if-s-eq0.true)) (simp (to_z-of_z a.ranges.default) at c.or_default.ensures))

returns-2 : tie.Need-returns
returns-2 c =
    let a = c in
    let n = c.number_from in
    back32 n.result.value c.struct_told-1.given.0.1
    ∙ number_value a.args.default a.args.s.now 0 refl (simp (to_z-of_z a.ranges.default) at n.ensures)

pub first_number_spec : {M : Type 1} → statement M
first_number_spec = tie.close (tie.spec (λ c κs. search rules) returns (λ c κs. search rules) returns-2)
