-- `frame_bytes::hex::put_decoded`: what t is decoded to is left to write, from o on. Measure: t's length.
use Rattle.std.proofs.Common.{length}
use Rattle.text.specs.Utf8.{decode}
use Rattle.frame_bytes.proofs.PutLaws.{Left}
use Rattle.frame_bytes.proofs.hex.put_decoded.Given as goal

abbrev pub invariant-loop-t : goal.invariant-loop-t
invariant-loop-t l = Left l.out l.fn.out l.at l.o (decode l.src) (decode l.t)

abbrev pub decreases-loop-t : goal.decreases-loop-t
decreases-loop-t l = length l.t
