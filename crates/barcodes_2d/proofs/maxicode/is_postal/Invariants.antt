-- Invariant: what is asked of s is asked of t from byte skip on, with some for a digit that stood before t. Measure:
-- t's length.
use Rattle.std.proofs.Common.{◌≡◌, ◌≤◌, length}
use Rattle.text.specs.Utf8.{decode}
use Rattle.barcodes_2d.specs.Maxicode.{postal}
use Rattle.barcodes_2d.proofs.MaxicodeLaws.{digits_from}
use Rattle.barcodes_2d.proofs.maxicode.is_postal.Given as goal

abbrev pub invariant-loop-t : goal.invariant-loop-t
invariant-loop-t l = (length l.t ≤ length l.fn.s) × (postal (decode l.fn.s) ≡ digits_from l.skip l.some (decode l.t))

abbrev pub decreases-loop-t : goal.decreases-loop-t
decreases-loop-t l = length l.t
