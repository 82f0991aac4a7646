-- `label_index::glance::pass_told`. Invariant: what stands between the start and here is told so. Measure: the bytes
-- left.
use Rattle.std.proofs.Common.{◌-◌, length}
use Rattle.label_index.specs.Glance.{Past}
use Rattle.label_index.proofs.PastLaws.{state_at}
use Rattle.label_index.proofs.glance.pass_told.Given as goal

abbrev pub invariant-loop-g : goal.invariant-loop-g
invariant-loop-g l = Past l.input l.fn.st (state_at l.reference l.n l.at)

abbrev pub decreases-loop-g : goal.decreases-loop-g
decreases-loop-g l = length l.input - l.at
