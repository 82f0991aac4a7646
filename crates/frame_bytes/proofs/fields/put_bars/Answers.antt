-- `frame_bytes::fields::put_bars`: its four fields, one after the other.
use Rattle.std.proofs.Common.{rules}
use Rattle.frame_bytes.specs.Frame.{bar_bytes}
use Rattle.frame_bytes.proofs.PutLaws.{then, number_put}
use Rattle.frame_bytes.proofs.fields.put_bars.Goals as goal

pub returns : goal.returns
unfolding bar_bytes
returns c =
    then
    (then (then c.put_rotation-a.ensures (number_put c.args.b.narrow (search rules) c.put_i32-c.ensures))
    (number_put c.args.b.height (search rules) c.put_i32-d.ensures))
    c.put_flag.ensures
