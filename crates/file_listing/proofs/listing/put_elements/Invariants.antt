-- Invariant: with the frames that the walk still begins with, the buffer is what it shall be. Measure: what is left of
-- the walk.
use Rattle.std.proofs.Common.{◌-◌, length}
use Rattle.text.proofs.WroteTowardLaws.{Toward}
use Rattle.file_listing.specs.Listing.{lines_of, front_frames}
use Rattle.file_listing.proofs.listing.put_elements.Given as goal

abbrev pub invariant-loop-next : goal.invariant-loop-next
invariant-loop-next l =
    Toward l.out l.to (lines_of (front_frames l.input l.here)) l.fn.out l.at (lines_of (front_frames l.input l.fn.st))

abbrev pub decreases-loop-next : goal.decreases-loop-next
decreases-loop-next l = length l.input - l.here.place
