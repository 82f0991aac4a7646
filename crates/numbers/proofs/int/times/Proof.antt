-- `crate::int::times` meets its contract: the product of two numbers of 32 bits fits 64.
-- Assumes nothing.
use mir.Syntax.{w64}
use mir.Val.{SFits}
use mir.Facts.{to_z-of_z, sfits_widen}
use Rattle.numbers.proofs.IntLaws.{mul_fits}
use Rattle.numbers.proofs.int.times.Statement.{statement}
use Rattle.numbers.proofs.int.times.Tie as tie

cast-result : tie.Need-overflow_cast-result
cast-result c = simp (to_z-of_z c.ranges.a) (sfits_widen tt c.ranges.a)

cast-result-2 : tie.Need-overflow_cast-result-2
cast-result-2 c = simp (to_z-of_z c.ranges.b) (sfits_widen tt c.ranges.b)

mul-result : tie.Need-overflow_mul-result
mul-result c =
    let a : SFits w64 c.args.a = sfits_widen tt c.ranges.a in
    let b : SFits w64 c.args.b = sfits_widen tt c.ranges.b in
    simp (to_z-of_z c.ranges.a, to_z-of_z c.ranges.b, to_z-of_z a, to_z-of_z b) (mul_fits _ _ c.ranges.a c.ranges.b)

returns : tie.Need-returns
returns c =
    let a : SFits w64 c.args.a = sfits_widen tt c.ranges.a in
    let b : SFits w64 c.args.b = sfits_widen tt c.ranges.b in
    simp (to_z-of_z c.ranges.a, to_z-of_z c.ranges.b, to_z-of_z a, to_z-of_z b, to_z-of_z (mul_fits _ _ c.ranges.a c.ranges.b))

pub times_spec : {M : Type 1} → statement M
times_spec = tie.close (tie.spec cast-result cast-result-2 mul-result returns)
