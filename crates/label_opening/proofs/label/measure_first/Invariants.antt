-- `label_opening::label::measure_first`. Invariant: the label is the first from `first` on, only elements stand between
-- `first` and here, and their lines are counted: an element takes a byte of the input at least, and at most
-- 2 * 4294967295 + 1 bytes of the listing. Measure: what is left of the walk.
use Rattle.std.proofs.Common.{◌≡◌, ◌+◌, ◌-◌, ◌*◌, ◌≤◌, length}
use Rattle.walk_theory.specs.Trace.{after}
use Rattle.walk.specs.Steps.{trace_of}
use Rattle.file_listing.specs.Listing.{lines_of, front_frames}
use Rattle.label_opening.specs.Opened.{first_due}
use Rattle.label_opening.proofs.label.measure_first.Given as goal

abbrev pub invariant-loop-next : goal.invariant-loop-next
invariant-loop-next l = record {
  same : first_due l.input l.fn.st l.i ≡ first_due l.input l.first l.i;
  elements : after (trace_of l.input l.first) ≡ after (trace_of l.input l.here);
  counted : l.pend + length (lines_of (front_frames l.input l.here)) ≡ length (lines_of (front_frames l.input l.first));
  few : l.pend ≤ 8589934591 * l.here.place;
}

abbrev pub decreases-loop-next : goal.decreases-loop-next
decreases-loop-next l = length l.input - l.here.place
