-- `label_index::labels::count_labels`. Invariant: what is counted so far, and the rest of the walk. Measure: what is left
-- of it.
use Rattle.std.proofs.Common.{◌≡◌, ◌-◌, ◌≤◌, length}
use Rattle.elements.specs.Walk.{fresh}
use Rattle.walk.specs.Steps.{trace_of}
use Rattle.label_index.proofs.PlanLaws.{count_from}
use Rattle.label_index.proofs.labels.count_labels.Given as goal

abbrev pub invariant-loop-next : goal.invariant-loop-next
invariant-loop-next l = record {
  counts : count_from 0 (trace_of l.input fresh) ≡ count_from l.n (trace_of l.input l.here);
  few : l.n ≤ l.here.place;
}

abbrev pub decreases-loop-next : goal.decreases-loop-next
decreases-loop-next l = length l.input - l.here.place
