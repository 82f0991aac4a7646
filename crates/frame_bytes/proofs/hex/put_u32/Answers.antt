-- `frame_bytes::hex::put_u32`: four bytes, one after the other.
use Rattle.frame_bytes.specs.Frame.{be32}
use Rattle.frame_bytes.proofs.PutLaws.{then}
use Rattle.frame_bytes.proofs.hex.put_u32.Goals as goal

pub returns : goal.returns
unfolding be32
returns c = then c.put_byte-a.ensures (then c.put_byte-b.ensures (then c.put_byte-c.ensures c.put_byte.ensures))
