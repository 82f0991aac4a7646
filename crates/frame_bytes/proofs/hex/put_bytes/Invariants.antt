-- `frame_bytes::hex::put_bytes`: the bytes before the index are written, up to o.
use Rattle.std.proofs.Common.{take}
use Rattle.frame_bytes.specs.Put.{PutHex}
use Rattle.frame_bytes.proofs.hex.put_bytes.Given as goal

abbrev pub invariant-loop-b : goal.invariant-loop-b
invariant-loop-b l = PutHex l.out l.fn.out l.at (take l.b-index l.src) l.b-index l.o
