-- `parameters::rotation::epl_rotation` meets its contract, arm by arm.
-- Assumes nothing.
use Rattle.std.proofs.Common.{arith}
use lib.Dec.{lit<}
use Rattle.numbers.proofs.IntLaws.{bits_is, bits_not}
use Rattle.parameters.specs.Rotation.{rotation_of}
use Rattle.parameters.proofs.rotation.epl_rotation.Goals as goal

pub returns-in-1 : goal.returns-in-1
unfolding rotation_of
returns-in-1 c = rw (bits_is c.args.rotation 1 c.ranges.rotation.sfits (lit< tt) (omega arith))

pub returns-in-2 : goal.returns-in-2
unfolding rotation_of
returns-in-2 c = rw (bits_is c.args.rotation 2 c.ranges.rotation.sfits (lit< tt) (omega arith))

pub returns-in-3 : goal.returns-in-3
unfolding rotation_of
returns-in-3 c = rw (bits_is c.args.rotation 3 c.ranges.rotation.sfits (lit< tt) (omega arith))

pub returns-in_default : goal.returns-in_default
unfolding rotation_of
returns-in_default c =
    let r = c.args.rotation in
    let h = c.ranges.rotation.sfits in
    simp (bits_not r 1 h (lit< tt) (omega arith), bits_not r 2 h (lit< tt) (omega arith), bits_not r 3 h (lit< tt) (omega arith))
