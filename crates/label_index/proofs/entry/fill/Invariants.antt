-- `label_index::entry::fill`. Invariant: the entries that are still to come, stored at i, make the list what it is to be;
-- and where one is to come, the cursor is within the input. Measure: the entries still to come.
use Rattle.std.proofs.Common.{◌-◌, ◌≡◌, ◌++◌, ◌≤◌, ◌<◌, drop}
use Rattle.std.proofs.lemmas.List.Edits.{sets}
use Rattle.lent_lists.specs.Filled.{made}
use Rattle.label_index.specs.Entries.{next_of, WithinCursor}
use Rattle.label_index.proofs.entry.fill.Given as goal

abbrev pub invariant-loop-i : goal.invariant-loop-i
invariant-loop-i l = record {
  upto : l.i ≤ l.n;
  within : l.i < l.n → WithinCursor l.input l.c;
  stored : sets l.entries l.i (made (next_of l.input) (λ c. c.entry) (l.n - l.i) l.c) ≡ made (next_of l.input) (λ c. c.entry) l.n l.fn.start ++ drop l.n l.fn.entries;
}

abbrev pub decreases-loop-i : goal.decreases-loop-i
decreases-loop-i l = l.n - l.i
