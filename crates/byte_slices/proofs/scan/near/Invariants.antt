-- `crate::scan::near` meets its contract. Invariant: i is a multiple of 8, and no b stands before it. Measure: 96 less
-- i.
use Rattle.std.proofs.Common.{◌≡◌, ◌-◌, ◌%◌, ◌≤◌}
use Rattle.text.specs.Scan.{None}
use Rattle.byte_slices.proofs.scan.near.Given as goal

abbrev pub invariant-loop-i : goal.invariant-loop-i
invariant-loop-i l = (l.i ≤ 96) × (l.i % 8 ≡ 0) × None l.a l.b 0 l.i

abbrev pub decreases-loop-i : goal.decreases-loop-i
decreases-loop-i l = 96 - l.i
