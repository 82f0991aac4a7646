-- `label_index::entry::next`. Invariant: the next entry is that of the walk from here on, one more being counted as
-- pending than are. Measure: the bytes left.
use Rattle.std.proofs.Common.{◌≡◌, ◌+◌, ◌-◌, ◌≤◌, ◌<◌, length}
use Rattle.walk_theory.specs.Index.{hand}
use Rattle.walk_theory.specs.Next as theory
use Rattle.grammar.specs.Epl.{epl}
use Rattle.label_index.specs.Entries.{cursor_of, Within}
use Rattle.label_index.proofs.entry.next.Given as goal

abbrev pub invariant-loop-next : goal.invariant-loop-next
invariant-loop-next l = record {
  within : Within l.input l.here.place l.here.reference;
  some : 0 < l.here.pending;
  few : l.here.pending ≤ l.here.place + 1;
  same : theory.next epl l.input (cursor_of l.c) ≡ theory.next_from epl l.input (cursor_of l.c) l.here.place (hand l.first l.reference l.here.reference (l.here.pending - 1));
}

abbrev pub decreases-loop-next : goal.decreases-loop-next
decreases-loop-next l = length l.input - l.here.place
