-- `crate::scan::scan` meets its contract. Invariant: no b stands before i. Measure: a's length less i.
use Rattle.std.proofs.Common.{◌-◌, ◌≤◌, length}
use Rattle.text.specs.Scan.{None}
use Rattle.byte_slices.proofs.scan.scan.Given as goal

abbrev pub invariant-loop-i : goal.invariant-loop-i
invariant-loop-i l = (l.i ≤ length l.a) × None l.a l.b 0 l.i

abbrev pub decreases-loop-i : goal.decreases-loop-i
decreases-loop-i l = length l.a - l.i
