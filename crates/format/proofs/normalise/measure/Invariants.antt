-- `format::normalise::measure`: what is counted so far, and the text from at on; a byte of input gives two at most.
-- Measure: the bytes left.
use Rattle.std.proofs.Common.{◌≡◌, ◌≤◌, ◌+◌, ◌-◌, ◌*◌, length, drop}
use Rattle.grammar.specs.Normal.{normalised}
use Rattle.format.proofs.normalise.measure.Given as goal

abbrev pub invariant-loop-at : goal.invariant-loop-at
invariant-loop-at l = record {
  inside : l.at ≤ length l.input;
  few : l.total ≤ 2 * l.at;
  counted : length (normalised l.input) ≡ l.total + length (normalised (drop l.at l.input));
}

abbrev pub decreases-loop-at : goal.decreases-loop-at
decreases-loop-at l = length l.input - l.at
