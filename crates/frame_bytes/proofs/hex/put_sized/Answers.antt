-- `frame_bytes::hex::put_sized`: the length and then the bytes.
use Rattle.frame_bytes.proofs.PutLaws.{then}
use Rattle.frame_bytes.proofs.hex.put_sized.Goals as goal

pub returns : goal.returns
returns c = then c.put_u32-a.ensures c.put_bytes.ensures
