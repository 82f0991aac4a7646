-- `crate::int::max` meets its contract.
-- Assumes nothing.
use mir.Facts.{to_z-of_z}
use Rattle.numbers.proofs.int.max.Statement.{statement}
use Rattle.numbers.proofs.int.max.Tie as tie

returns : tie.Need-returns-then-a-b
returns c = simp (to_z-of_z c.ranges.b, simp (to_z-of_z c.ranges.a, to_z-of_z c.ranges.b) at c.if-a-b.true)

returns-2 : tie.Need-returns-else-a-b
returns-2 c = simp (to_z-of_z c.ranges.a, simp (to_z-of_z c.ranges.a, to_z-of_z c.ranges.b) at c.if-a-b.false)

pub max_spec : {M : Type 1} → statement M
max_spec = tie.close (tie.spec returns returns-2)
