-- Invariant: what is counted so far, and the rest of the walk; an element takes a byte of the input at least, and at
-- most 2 * 4294967295 + 1 bytes of the listing, with 11 of its label's. Measure: what is left of the walk.
use Rattle.std.proofs.Common.{◌≡◌, ◌+◌, ◌-◌, ◌*◌, ◌≤◌, length}
use Rattle.elements.specs.Walk.{fresh}
use Rattle.walk.specs.Steps.{trace_of}
use Rattle.file_listing.proofs.ListingSizeLaws.{size_from}
use Rattle.file_listing.proofs.listing.measure.Given as goal

abbrev pub invariant-loop-next : goal.invariant-loop-next
invariant-loop-next l = record {
  counted : size_from l.input 0 0 (trace_of l.input fresh) ≡ size_from l.input l.total l.pend (trace_of l.input l.here);
  small : l.total + l.pend + 11 * l.here.pending ≤ 8589934602 * l.here.place;
}

abbrev pub decreases-loop-next : goal.decreases-loop-next
decreases-loop-next l = length l.input - l.here.place
