-- `crate::utf8::decoded_len` meets its contract. Invariant: `Counted`, n is the length of what stands before t, and
-- at most `most`. Measure: t's length.
use Rattle.std.proofs.Common.{length}
use Rattle.text.proofs.Utf8Steps.{Counted}
use Rattle.byte_slices.proofs.utf8.decoded_len.Given as goal

abbrev pub invariant-loop-t : goal.invariant-loop-t
invariant-loop-t l = Counted l.s l.most l.n l.t

abbrev pub decreases-loop-t : goal.decreases-loop-t
decreases-loop-t l = length l.t
