-- The whole walk by the first step's answer, as a loop over the steps has it (`begins`), and how that answer moves on
-- (`moved_by`). Assumes nothing.
use mathlib.Core.Path.{◌≡◌, sym, ap, ◌∙◌}
use mathlib.Core.List.{List}
use Prim.Native.Nat.{ℕ}
use Rattle.elements.specs.declared.walk_state.WalkState.{WalkState}
use Rattle.walk_theory.specs.Step.{step}
use Rattle.walk_theory.specs.Trace.{trace, on_answer, Goes}
use Rattle.walk_theory.proofs.TraceLaws.{trace_by, goes_by}
use Rattle.grammar.specs.Epl.{epl}
use Rattle.grammar.proofs.FoundLaws.{reads}
use Rattle.walk.specs.Steps.{EplTrace, state_of, answer_of, trace_of}
use Rattle.walk.specs.declared.answer.Answer.{Answer}

abbrev pub on_step : List ℕ → Answer → EplTrace
on_step s q = on_answer epl (trace epl s) (answer_of q)

abbrev pub Moved : List ℕ → WalkState → Answer → Type 0
Moved s w q = Goes s (state_of w) (answer_of q)

-- r is the answer of the step from w, and q what it was matched with
module _ (s : List ℕ) (w : WalkState) (r q : Answer) (e : answer_of r ≡ step epl s (state_of w)) (k : r ≡ q) where
  pub begins : trace_of s w ≡ on_step s q
  begins = trace_by epl reads s (state_of w) (answer_of q) (ap answer_of (sym k) ∙ e)

  pub moved_by : Moved s w q
  moved_by = goes_by epl reads s (state_of w) (answer_of q) (ap answer_of (sym k) ∙ e)
