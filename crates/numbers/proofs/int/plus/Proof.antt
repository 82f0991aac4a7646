-- `crate::int::plus` meets its contract: the sum of two numbers of 32 bits fits 64.
-- Assumes nothing.
use mir.Syntax.{w64}
use mir.Val.{SFits}
use mir.Facts.{to_z-of_z, sfits_widen}
use Rattle.numbers.proofs.IntLaws.{add_fits}
use Rattle.numbers.proofs.int.plus.Statement.{statement}
use Rattle.numbers.proofs.int.plus.Tie as tie

cast-result : tie.Need-overflow_cast-result
cast-result c = simp (to_z-of_z c.ranges.a) (sfits_widen tt c.ranges.a)

cast-result-2 : tie.Need-overflow_cast-result-2
cast-result-2 c = simp (to_z-of_z c.ranges.b) (sfits_widen tt c.ranges.b)

add-result : tie.Need-overflow_add-result
add-result c =
    let a : SFits w64 c.args.a = sfits_widen tt c.ranges.a in
    let b : SFits w64 c.args.b = sfits_widen tt c.ranges.b in
    simp (to_z-of_z c.ranges.a, to_z-of_z c.ranges.b, to_z-of_z a, to_z-of_z b) (add_fits _ _ c.ranges.a c.ranges.b)

returns : tie.Need-returns
returns c =
    let a : SFits w64 c.args.a = sfits_widen tt c.ranges.a in
    let b : SFits w64 c.args.b = sfits_widen tt c.ranges.b in
    simp (to_z-of_z c.ranges.a, to_z-of_z c.ranges.b, to_z-of_z a, to_z-of_z b, to_z-of_z (add_fits _ _ c.ranges.a c.ranges.b))

pub plus_spec : {M : Type 1} → statement M
plus_spec = tie.close (tie.spec cast-result cast-result-2 add-result returns)
