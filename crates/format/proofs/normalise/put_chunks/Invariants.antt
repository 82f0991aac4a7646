-- `format::normalise::put_chunks`: with the text from at on, the buffer is what it shall be. Measure: the bytes left.
use Rattle.std.proofs.Common.{◌≤◌, ◌-◌, length, drop}
use Rattle.text.proofs.WroteTowardLaws.{Toward}
use Rattle.grammar.specs.Normal.{normalised}
use Rattle.format.proofs.normalise.put_chunks.Given as goal

abbrev pub invariant-loop-at : goal.invariant-loop-at
invariant-loop-at l = record {
  inside : l.at ≤ length l.input;
  toward : Toward l.out l.to (normalised (drop l.at l.input)) l.fn.out l.from (normalised l.input);
}

abbrev pub decreases-loop-at : goal.decreases-loop-at
decreases-loop-at l = length l.input - l.at
