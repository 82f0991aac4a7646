-- A part is counted, or `most` is passed; at the end of t all is counted.
use Rattle.std.proofs.Common.{ap, arith}
use Rattle.std.proofs.lemmas.Bool.Decides.{nat_tests}
use Rattle.text.specs.Utf8.{shown}
use Rattle.text.proofs.Utf8Steps.{count_step, count_most, count_end}
use Rattle.byte_slices.proofs.utf8.decoded_len.Goals as goal

pub returns-then-most-n : goal.returns-then-most-n
returns-then-most-n c = count_most (grind (arith, nat_tests)) c.part_len.ensures (ap shown c.split_at.ensures.front) c.split_at.ensures.back c.shown_len-m.ensures c.loop-t.invariant c.if-most-n.true

pub loop-t-preserved : goal.loop-t-preserved
loop-t-preserved c = count_step (grind (arith, nat_tests)) c.part_len.ensures (ap shown c.split_at.ensures.front) c.split_at.ensures.back c.shown_len-m.ensures c.loop-t.invariant c.if-most-n.false

pub returns : goal.returns
returns c = count_end c.loop-t.invariant (grind (arith, nat_tests))
