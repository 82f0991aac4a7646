-- `frame_bytes::fields::put_head`: the kind, x and y.
use Rattle.std.proofs.Common.{rules}
use Rattle.frame_bytes.specs.Frame.{head}
use Rattle.frame_bytes.proofs.PutLaws.{then, number_put}
use Rattle.frame_bytes.proofs.fields.put_head.Goals as goal

pub returns : goal.returns
unfolding head
returns c =
    then c.put_byte-a.ensures
    (then (number_put c.args.p.x (search rules) c.put_i32-b.ensures)
    (number_put c.args.p.y (search rules) c.put_i32.ensures))
