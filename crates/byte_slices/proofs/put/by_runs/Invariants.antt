-- `crate::put::by_runs` meets its contract. Invariant: `Run`, where the first run was stored on l, the first i bytes of
-- src now are. The last run may overlap them. Measure: src's length less i.
use Rattle.std.proofs.Common.{◌-◌, length}
use Rattle.text.proofs.WroteLaws.{Run}
use Rattle.byte_slices.proofs.put.by_runs.Given as goal

abbrev pub invariant-loop-i : goal.invariant-loop-i
invariant-loop-i g l = Run g.row.N l.src l.initial.out l.at l.out l.i

abbrev pub decreases-loop-i : goal.decreases-loop-i
decreases-loop-i g l = length l.src - l.i
