-- `frame_bytes::data::put_payload`: the total, and then the payload with its length.
use Rattle.std.proofs.Common.{ap, List, ℕ, length, arith}
use Rattle.frame_bytes.specs.Frame.{be32, sized}
use Rattle.frame_bytes.proofs.PutLaws.{then, counted, retold}
use Rattle.frame_bytes.proofs.data.put_payload.Goals as goal

pub returns : goal.returns
returns c =
    let t = c.part-payload.ensures in
    counted (omega (arith, ap length t))
    (then (retold (ap (λ (l : List ℕ). be32 (length l)) t) c.put_u32-a.ensures) (retold (ap sized t) c.put_sized.ensures))
