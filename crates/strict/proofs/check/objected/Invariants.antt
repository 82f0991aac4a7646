-- Invariant: what is left of the look, `Left`. Measure: the bytes left.
use Rattle.std.proofs.Common.{suc, ◌-◌, length}
use Rattle.strict.specs.Look.{looked_by}
use Rattle.strict.proofs.LookLaws.{Left}
use Rattle.strict.proofs.check.objected.Given as goal

abbrev pub invariant-loop-at : goal.invariant-loop-at
invariant-loop-at l = Left l.input l.end l.otherwise (looked_by (suc (length l.input)) l.input 0 l.end l.otherwise) l.at

abbrev pub decreases-loop-at : goal.decreases-loop-at
decreases-loop-at l = length l.input - l.at
