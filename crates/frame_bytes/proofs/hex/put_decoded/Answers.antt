-- `frame_bytes::hex::put_decoded`: one part more.
use Rattle.std.proofs.Common.{◌-◌, ◌<◌, take, drop, length, arith}
use Rattle.text.specs.Utf8.{shown, decode}
use Rattle.text.proofs.Utf8Steps.{length_left, decode_left, decode_none}
use Rattle.frame_bytes.proofs.PutLaws.{left_room, left_step, left_none}
use Rattle.frame_bytes.proofs.hex.put_decoded.Goals as goal

pub put_part-o-requires : goal.put_part-o-requires
put_part-o-requires c =
    let t = c.loop-t.t.now in
    let h : 0 < length t = grind arith in
    omega (arith, left_room c.loop-t.invariant c.requires, length_left t c.part_len-k.result h c.part_len-k.ensures)

pub loop-t-preserved : goal.loop-t-preserved
loop-t-preserved c =
    let t = c.loop-t.t.now in
    let k = c.part_len-k.result in
    let h : 0 < length t = grind arith in
    left_step c.loop-t.invariant (shown (take k t)) (decode (take (length t - k) (drop k t)))
    (decode_left t k h c.part_len-k.ensures) c.put_part-o.ensures

pub returns : goal.returns
returns c = left_none c.loop-t.invariant (decode_none c.loop-t.t.now (grind arith))
