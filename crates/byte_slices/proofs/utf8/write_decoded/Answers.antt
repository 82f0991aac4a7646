-- There is room for the next part; storing it goes on with the rest; at the end of t all is stored.
use Rattle.std.proofs.Common.{ap, ◌∙◌, arith}
use Rattle.std.proofs.lemmas.Bool.Decides.{nat_tests}
use Rattle.text.specs.Utf8.{shown}
use Rattle.text.proofs.Utf8Steps.{write_room, write_step, write_end}
use Rattle.byte_slices.proofs.utf8.write_decoded.Goals as goal

pub put_bytes-requires : goal.put_bytes-requires
put_bytes-requires c = write_room (grind (arith, nat_tests)) c.part_len.ensures (c.shown-w.ensures ∙ ap shown c.split_at.ensures.front) c.split_at.ensures.back c.loop-t.invariant c.requires

pub loop-t-preserved : goal.loop-t-preserved
loop-t-preserved c = write_step (grind (arith, nat_tests)) c.part_len.ensures (c.shown-w.ensures ∙ ap shown c.split_at.ensures.front) c.split_at.ensures.back c.loop-t.invariant c.put_bytes.ensures

pub returns : goal.returns
returns c = write_end c.loop-t.invariant (grind (arith, nat_tests))
