-- `walk::step::answer_from`: the answer is the first from at on, with this reference. Measure: the bytes left.
use Rattle.std.proofs.Common.{◌≡◌, ◌≤◌, ◌-◌, length, drop}
use Rattle.walk_theory.specs.Step.{answer, handing}
use Rattle.grammar.specs.Epl.{epl}
use Rattle.walk.specs.Steps.{state_of}
use Rattle.walk.proofs.step.answer_from.Given as goal

abbrev pub invariant-loop-end : goal.invariant-loop-end
invariant-loop-end l = record {
  inside : l.at ≤ length l.input;
  same : handing (state_of l.st) (answer epl (drop l.st.place l.input) l.st.place l.st.reference l.st.pending) ≡ handing (state_of l.st) (answer epl (drop l.at l.input) l.at l.reference l.n);
}

abbrev pub decreases-loop-end : goal.decreases-loop-end
decreases-loop-end l = length l.input - l.at
