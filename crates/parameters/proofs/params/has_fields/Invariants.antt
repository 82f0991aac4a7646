-- Invariant: a comma before i for each field that is no longer wanted. Measure: s's length less i.
use Rattle.std.proofs.Common.{length, ◌-◌, ◌≡◌, drop, ◌+◌, ◌≤◌}
use Rattle.text.specs.Fields.{fields}
use Rattle.parameters.proofs.params.has_fields.Given as goal

abbrev pub invariant-loop-i : goal.invariant-loop-i
invariant-loop-i l = (l.i ≤ length l.s) × (l.n + length (fields (drop l.i l.s)) ≡ l.wanted + length (fields l.s))

abbrev pub decreases-loop-i : goal.decreases-loop-i
decreases-loop-i l = length l.s - l.i
