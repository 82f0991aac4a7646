-- Invariant: the walk from here ends as the whole one. Measure: the bytes left.
use Rattle.std.proofs.Common.{◌≡◌, ◌-◌, length}
use Rattle.elements.specs.Walk.{fresh}
use Rattle.strict.specs.Look.{end_of}
use Rattle.strict.proofs.check.plain.Given as goal

abbrev pub invariant-loop-next : goal.invariant-loop-next
invariant-loop-next l = end_of l.input fresh ≡ end_of l.input l.here

abbrev pub decreases-loop-next : goal.decreases-loop-next
decreases-loop-next l = length l.input - l.here.place
