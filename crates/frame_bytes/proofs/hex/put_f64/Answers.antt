-- `frame_bytes::hex::put_f64`: the high half and then the low.
use Rattle.std.proofs.Common.{ap}
use Rattle.frame_bytes.specs.Frame.{be64}
use Rattle.frame_bytes.proofs.PutLaws.{then, retold}
use Rattle.frame_bytes.proofs.hex.put_f64.Goals as goal

pub returns : goal.returns
returns c = retold (ap be64 c.bits-bits.ensures) (then c.put_u32-a.ensures c.put_u32.ensures)
