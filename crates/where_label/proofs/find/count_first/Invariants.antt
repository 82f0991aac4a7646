-- `where_label::find::count_first`. Invariant: the label is the first from `first` on, only elements stand between `first`
-- and here, and those that are found are counted. Measure: what is left of the walk.
use Rattle.std.proofs.Common.{◌≡◌, ◌+◌, ◌-◌, ◌≤◌, length}
use Rattle.walk_theory.specs.Trace.{after}
use Rattle.walk.specs.Steps.{trace_of}
use Rattle.where_label.specs.Find.{elements_from, found_of, first_due}
use Rattle.where_label.proofs.find.count_first.Given as goal

abbrev pub invariant-loop-next : goal.invariant-loop-next
invariant-loop-next l = record {
  same : first_due l.l l.input l.fn.st l.i ≡ first_due l.l l.input l.first l.i;
  elements : after (trace_of l.input l.first) ≡ after (trace_of l.input l.here);
  counted : l.found + length (found_of l.l (elements_from l.input l.here)) ≡ length (found_of l.l (elements_from l.input l.first));
  few : l.found ≤ l.here.place;
  none : l.first.pending ≡ 0;
}

abbrev pub decreases-loop-next : goal.decreases-loop-next
decreases-loop-next l = length l.input - l.here.place
