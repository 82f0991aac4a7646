-- `crate::scan::by_four` meets its contract. Invariant: no b stands from `from` up to i. Measure: a's length less i.
use Rattle.std.proofs.Common.{◌-◌, length}
use Rattle.text.specs.Scan.{Passed}
use Rattle.byte_slices.proofs.scan.by_four.Given as goal

abbrev pub invariant-loop-i : goal.invariant-loop-i
invariant-loop-i l = Passed l.a l.b l.from l.i

abbrev pub decreases-loop-i : goal.decreases-loop-i
decreases-loop-i l = length l.a - l.i
