-- `writing_label::at_300::pass_300`. Invariant: passing the elements that are still to come, from here, is passing all of them from
-- the start. Measure: the elements still to come.
use Rattle.std.proofs.Common.{◌≡◌, ◌-◌, ℕ, List, length, drop}
use Rattle.lent_lists.specs.Passed.{Passes}
use Rattle.writing_label.specs.Tally.{TurnOf300}
use Rattle.writing_label.specs.declared.tally.Tally.{Tally}
use Rattle.writing_label.proofs.at_300.pass_300.Given as goal

abbrev pub invariant-loop-i : goal.invariant-loop-i
invariant-loop-i l = (z : Tally × List ℕ) → Passes (TurnOf300 l.input) (drop l.i l.xs) (l.c, l.out) z → Passes (TurnOf300 l.input) l.fn.xs (l.fn.start, l.fn.out) z

abbrev pub decreases-loop-i : goal.decreases-loop-i
decreases-loop-i l = length l.xs - l.i
