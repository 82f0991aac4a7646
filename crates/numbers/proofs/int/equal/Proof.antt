-- `crate::int::equal` meets its contract: equal bits are equal numbers.
-- Assumes nothing.
use Rattle.numbers.proofs.IntLaws.{eq_bits}
use Rattle.numbers.proofs.int.equal.Statement.{statement}
use Rattle.numbers.proofs.int.equal.Tie as tie

returns : tie.Need-returns
returns c = eq_bits c.args.a c.args.b c.ranges.a.sfits c.ranges.b.sfits

pub equal_spec : {M : Type 1} → statement M
equal_spec = tie.close (tie.spec returns)
