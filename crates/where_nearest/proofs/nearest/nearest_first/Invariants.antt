-- `where_nearest::nearest::nearest_first`. Invariant: some elements are pending here, and the best is the nearest of them,
-- whatever follows. Measure: what is left of the walk.
use Rattle.std.proofs.Common.{◌-◌, length}
use Rattle.where_nearest.proofs.NearestLaws.{Pending}
use Rattle.where_nearest.proofs.nearest.nearest_first.Given as goal

abbrev pub invariant-loop-next : goal.invariant-loop-next
invariant-loop-next l = Pending l.input l.i l.q l.fn.st l.here l.best

abbrev pub decreases-loop-next : goal.decreases-loop-next
decreases-loop-next l = length l.input - l.here.place
