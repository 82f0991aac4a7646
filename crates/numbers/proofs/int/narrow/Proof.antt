-- `crate::int::narrow` meets its contract: the two tests are the range test on the magnitude.
-- Assumes nothing.
use mathlib.Core.Path.{◌≡◌}
use mathlib.Core.Bool.{true}
use lib.Signed.{mag}
use mir.Facts.{to_z-of_z}
use borrow.Author.Tests.{ltb-true}
use Rattle.numbers.specs.Int.{in32}
use Rattle.numbers.proofs.IntLaws.{back32, in32_low, in32_high, in32_mid}
use Rattle.numbers.proofs.int.narrow.Statement.{statement}
use Rattle.numbers.proofs.int.narrow.Tie as tie

returns : tie.Need-returns-then-t-ltminus2147483648
returns c = simp (in32_low c.args.t (simp (to_z-of_z c.ranges.t) at c.if-t-ltminus2147483648.true))

returns-2 : tie.Need-returns-then-t-gt2147483647
returns-2 c = simp (in32_high c.args.t (simp (to_z-of_z c.ranges.t) at c.if-t-gt2147483647.true))

cast-t3 : tie.Need-overflow_cast-result
cast-t3 c =
    let a = c in
    simp (to_z-of_z a.ranges.t) (record { sfits = ltb-true (mag a.args.t) 2147483648 (in32_mid a.args.t (simp (to_z-of_z a.ranges.t) at c.if-t-ltminus2147483648.false) (simp (to_z-of_z a.ranges.t) at c.if-t-gt2147483647.false)) })

returns-3 : tie.Need-returns
returns-3 c =
    let a = c in
    let e : in32 a.args.t ≡ true = in32_mid a.args.t (simp (to_z-of_z a.ranges.t) at c.if-t-ltminus2147483648.false) (simp (to_z-of_z a.ranges.t) at c.if-t-gt2147483647.false) in
    simp (to_z-of_z a.ranges.t, back32 a.args.t (ltb-true (mag a.args.t) 2147483648 e), e)

pub narrow_spec : {M : Type 1} → statement M
narrow_spec = tie.close (tie.spec returns returns-2 cast-t3 returns-3)
