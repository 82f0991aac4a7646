-- Invariant: no header stands before i. Measure: s's length less i.
use Rattle.std.proofs.Common.{◌≡◌, ◌≤◌, ◌+◌, length, drop, ◌-◌}
use Rattle.barcodes_2d.specs.Maxicode.{header_place}
use Rattle.barcodes_2d.proofs.maxicode.header_place.Given as goal

abbrev pub invariant-loop-i : goal.invariant-loop-i
invariant-loop-i l = (l.i ≤ length l.s) × (header_place l.s ≡ l.i + header_place (drop l.i l.s))

abbrev pub decreases-loop-i : goal.decreases-loop-i
decreases-loop-i l = length l.s - l.i
