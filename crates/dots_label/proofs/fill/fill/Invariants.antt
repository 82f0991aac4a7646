-- `dots_label::fill::fill`. Invariant: the elements that are still to come, stored at i, make the list what it is to be;
-- and where one is to come, the cursor is within the input. Measure: the elements still to come.
use Rattle.std.proofs.Common.{◌-◌, ◌≡◌, ◌++◌, ◌≤◌, ◌<◌, drop}
use Rattle.std.proofs.lemmas.List.Edits.{sets}
use Rattle.lent_lists.specs.Filled.{made}
use Rattle.dots_label.specs.Walked.{next_of, WithinCursor}
use Rattle.dots_label.proofs.fill.fill.Given as goal

abbrev pub invariant-loop-i : goal.invariant-loop-i
invariant-loop-i l = record {
  upto : l.i ≤ l.n;
  within : l.i < l.n → WithinCursor l.input l.c;
  stored : sets l.list l.i (made (next_of l.input) (λ c. c.element) (l.n - l.i) l.c) ≡ made (next_of l.input) (λ c. c.element) l.n l.fn.start ++ drop l.n l.fn.list;
}

abbrev pub decreases-loop-i : goal.decreases-loop-i
decreases-loop-i l = l.n - l.i
