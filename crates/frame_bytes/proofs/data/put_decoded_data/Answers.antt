-- `frame_bytes::data::put_decoded_data`: the decoded length, for which the room is enough, and then the text.
use Rattle.std.proofs.Common.{◌≡◌, ap, List, ℕ, length, arith}
use Rattle.text.specs.Utf8.{decode}
use Rattle.frame_bytes.specs.Frame.{be32, part}
use Rattle.frame_bytes.proofs.PutLaws.{then, retold, same}
use Rattle.frame_bytes.proofs.data.put_decoded_data.Goals as goal

pub returns : goal.returns
returns c =
    let t = c.part-p.ensures in
    let n : c.decoded_len-n.result ≡ length (decode (part c.args.input.now c.args.d)) = omega (arith, ap (λ (l : List ℕ). length (decode l)) t) in
    then (retold (ap be32 n) c.put_u32-a.ensures) (same (ap decode t) c.put_decoded.ensures)
