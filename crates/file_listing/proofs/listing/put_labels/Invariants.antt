-- Invariant: with the labels from first on, the buffer is what it shall be; only elements stand between first and here.
-- Measure: what is left of the walk.
use Rattle.std.proofs.Common.{◌≡◌, ◌-◌, length}
use Rattle.text.proofs.WroteTowardLaws.{Toward}
use Rattle.walk_theory.specs.Trace.{after}
use Rattle.walk.specs.Steps.{trace_of}
use Rattle.file_listing.specs.Listing.{text_from, all_text}
use Rattle.file_listing.proofs.listing.put_labels.Given as goal

abbrev pub invariant-loop-next : goal.invariant-loop-next
invariant-loop-next l = record {
  put : Toward l.out l.at (text_from l.input l.first) l.fn.out 0 (all_text l.input);
  same : after (trace_of l.input l.first) ≡ after (trace_of l.input l.here);
}

abbrev pub decreases-loop-next : goal.decreases-loop-next
decreases-loop-next l = length l.input - l.here.place
