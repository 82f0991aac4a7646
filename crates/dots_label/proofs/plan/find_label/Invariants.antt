-- `dots_label::plan::find_label`. Invariant: the label is the first from `first` on, and only elements stand between
-- `first` and here. Measure: what is left of the walk.
use Rattle.std.proofs.Common.{◌≡◌, ◌-◌, length}
use Rattle.walk_theory.specs.Trace.{after}
use Rattle.dots_label.specs.Walked.{drawn_trace, first_drawn}
use Rattle.dots_label.proofs.plan.find_label.Given as goal

abbrev pub invariant-loop-next : goal.invariant-loop-next
invariant-loop-next l = record {
  label : first_drawn l.input l.fn.st l.i ≡ first_drawn l.input l.first l.i;
  elements : after (drawn_trace l.input l.first) ≡ after (drawn_trace l.input l.here);
  fresh : l.first.pending ≡ 0;
}

abbrev pub decreases-loop-next : goal.decreases-loop-next
decreases-loop-next l = length l.input - l.here.place
