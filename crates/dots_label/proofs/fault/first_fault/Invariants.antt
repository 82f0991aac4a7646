-- `dots_label::fault::first_fault`. Invariant: what is told from st on is what is told from here on. Measure: what is left
-- of the walk.
use Rattle.std.proofs.Common.{◌≡◌, ◌-◌, length}
use Rattle.dots_label.specs.Walked.{drawn_from, fault_from}
use Rattle.dots_label.proofs.fault.first_fault.Given as goal

abbrev pub invariant-loop-next : goal.invariant-loop-next
invariant-loop-next l = fault_from l.graphic l.fn.st.pending (drawn_from l.input l.fn.st) ≡ fault_from l.graphic l.here.pending (drawn_from l.input l.here)

abbrev pub decreases-loop-next : goal.decreases-loop-next
decreases-loop-next l = length l.input - l.here.place
