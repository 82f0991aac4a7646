-- The plain walk to its end, one step: r is the answer of the step from w, and q what it was matched with (`end_by`,
-- `moved_by`). Assumes nothing.
use mathlib.Core.Path.{◌≡◌, sym, ap, ◌∙◌}
use mathlib.Core.List.{List}
use Prim.Native.Nat.{ℕ}
use Rattle.elements.specs.declared.walk_state.WalkState.{WalkState}
use Rattle.walk_theory.specs.Step.{step}
use Rattle.walk_theory.specs.Reach.{Final}
use Rattle.walk_theory.specs.Trace.{Goes, on_answer, trace, final}
use Rattle.walk_theory.proofs.TraceLaws.{trace_by, goes_by}
use Rattle.grammar.specs.Epl.{epl}
use Rattle.grammar.proofs.FoundLaws.{reads}
use Rattle.walk.specs.Steps.{state_of, answer_of}
use Rattle.walk.specs.declared.answer.Answer.{Answer}
use Rattle.strict.specs.Look.{end_of}

-- the end of the whole walk by the first step's answer
abbrev pub end_on : List ℕ → Answer → Final
end_on s q = final (on_answer epl (trace epl s) (answer_of q))

abbrev pub Moved : List ℕ → WalkState → Answer → Type 0
Moved s w q = Goes s (state_of w) (answer_of q)

module _ (s : List ℕ) (w : WalkState) (r q : Answer) (e : answer_of r ≡ step epl s (state_of w)) (k : r ≡ q) where
  pub end_by : end_of s w ≡ end_on s q
  end_by = ap final (trace_by epl reads s (state_of w) (answer_of q) (ap answer_of (sym k) ∙ e))

  pub moved_by : Moved s w q
  moved_by = goes_by epl reads s (state_of w) (answer_of q) (ap answer_of (sym k) ∙ e)
