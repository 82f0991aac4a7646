-- `profile::rule::allowed` meets its contract.
-- Assumes nothing.
use Rattle.std.proofs.Common.{◌||◌, arith}
use mir.Facts.{to_z-of_z}
use borrow.Author.Tests.{ne_eqb}
use Rattle.profile.specs.Profile.{allowed}
use Rattle.profile.proofs.rule.allowed.Goals as goal

pub returns-in-82 : goal.returns-in-82
unfolding allowed
returns-in-82 c = rw c.in-82.is (simp (to_z-of_z c.ranges.z) at c.between.ensures)

pub returns-in-70 : goal.returns-in-70
unfolding allowed
returns-in-70 c = rw c.in-70.is (simp (to_z-of_z c.ranges.z) at c.between-in-70.ensures)

pub returns-in-72 : goal.returns-in-72
unfolding allowed
returns-in-72 c =
    let f = to_z-of_z c.ranges.z in
    let b = simp f at c.between-in-72.ensures in
    let e = simp f at c.equal.ensures in
    rw c.in-72.is (λ i. b i || e i)

pub returns-in-86 : goal.returns-in-86
unfolding allowed
returns-in-86 c = rw c.in-86.is (simp (to_z-of_z c.ranges.z) at c.between-in-86.ensures)

pub returns-in-87 : goal.returns-in-87
unfolding allowed
returns-in-87 c = rw c.in-87.is (rw (to_z-of_z c.ranges.z))

pub returns-in_default : goal.returns-in_default
unfolding allowed
returns-in_default c =
    let q = c.args.q in
    simp (ne_eqb q 82 (omega arith), ne_eqb q 70 (omega arith), ne_eqb q 72 (omega arith), ne_eqb q 86 (omega arith), ne_eqb q 87 (omega arith))
