-- `frame_bytes::hex::put_bytes`: one byte more.
use Rattle.std.proofs.Common.{sym, add-one}
use Rattle.std.proofs.Math.Seq.{take-suc}
use Rattle.frame_bytes.proofs.PutLaws.{then, retold}
use Rattle.frame_bytes.proofs.hex.put_bytes.Goals as goal

pub loop-b-preserved : goal.loop-b-preserved
loop-b-preserved c =
    retold (sym (rw add-one (take-suc c.args.src.now c.loop-b.b-index 0 c.loop-b-test.true)))
    (then c.loop-b.invariant c.put_byte-o.ensures)
