-- Invariant: `Ran`. Measure: s's length less end.
use Rattle.std.proofs.Common.{length, ◌-◌, ◌<◌}
use Rattle.parameters.proofs.PlaceLaws.{Ran}
use Rattle.parameters.proofs.params.number_from.Given as goal

abbrev pub invariant-loop-value : goal.invariant-loop-value
invariant-loop-value l = Ran l.s l.at l.value l.end × (l.end < length l.s)

abbrev pub decreases-loop-value : goal.decreases-loop-value
decreases-loop-value l = length l.s - l.end
