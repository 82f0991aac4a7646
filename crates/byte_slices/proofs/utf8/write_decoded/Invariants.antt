-- `crate::utf8::write_decoded` meets its contract. Invariant: `Stored`, what t is decoded to, stored on out as it is,
-- gives the end's bytes. Measure: t's length.
use Rattle.std.proofs.Common.{length}
use Rattle.text.proofs.Utf8Steps.{Stored}
use Rattle.byte_slices.proofs.utf8.write_decoded.Given as goal

abbrev pub invariant-loop-t : goal.invariant-loop-t
invariant-loop-t l = Stored l.src l.initial.out l.at l.out l.o l.t

abbrev pub decreases-loop-t : goal.decreases-loop-t
decreases-loop-t l = length l.t
