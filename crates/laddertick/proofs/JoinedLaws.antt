-- A walk by the code, to what it lists (`walked_lists`); what a call that joins gives, by what is due to it
-- (`union_denies`, `union_gives`), and what a refused one leaves (`join_keeps`). Assumes nothing.
use mathlib.Core.Path.{◌≡◌, refl, sym, ap, ◌∙◌}
use mathlib.Core.List.{List, [], ◌++◌, map}
use Prim.Native.Nat.{ℕ, ◌+◌, ◌<◌}
use native.Mathlib.Omega.{arith}
use lib.ListN.{length, drop}
use lib.Seq.{sets-eq}
use Rattle.elements.specs.declared.walk_state.WalkState.{WalkState}
use Rattle.elements.specs.Given.{text, denied, longest}
use Rattle.elements.specs.Walk.{fresh}
use Rattle.frame_bytes.specs.Frame.{frame_of}
use Rattle.walk_theory.specs.Reach as theory
use Rattle.walk_theory.specs.Reach.{Final, then, Reach}
use Rattle.walk_theory.specs.Trace.{ending}
use Rattle.walk_theory.proofs.TraceLaws.{reach_outcome}
use Rattle.grammar.specs.Epl.{epl}
use Rattle.grammar.proofs.FoundLaws.{reads}
use Rattle.walk.specs.declared.answer.Answer.{Answer}
use Rattle.walk.specs.declared.answer.Answer.TheVariants.{Element, Clear, Print, End, Refused}
use Rattle.walk.specs.Steps.{state_of, answer_of}
use Rattle.file_listing.specs.Listing.{outcome_of}
use Rattle.joining.specs.Join.{Joins}
use Rattle.joining.proofs.JoinLaws.{Dues, due_first, joins_denied, joins_short, joins_written, joins_one, joins_kept}
use Rattle.laddertick.specs.HostContracts.{Library, Union, JoinDenies, JoinGives}
use Rattle.laddertick.specs.Walked.{next, on_from, over, Walked, stop, go_on, answered}
use Rattle.laddertick.proofs.WalkedLaws.{next_differs, same_over, same_next, answered_is}
use Rattle.laddertick.proofs.ContractsLaws.{outcome_long}

-- ---- a walk by the code is the theory's
then_over : (r : Answer) (z : Final) → next r ≡ over z → then (answer_of r) ≡ theory.over z
then_over (Element w e) z h = absurd (next_differs (sym h))
then_over (Clear w) z h = absurd (next_differs (sym h))
then_over (Print w p) z h = absurd (next_differs (sym h))
then_over (End w) z h = ap theory.over (same_over h)
then_over (Refused w k p) z h = ap theory.over (same_over h)

then_on : (r : Answer) (v : WalkState) → next r ≡ on_from v → then (answer_of r) ≡ theory.on_from (state_of v)
then_on (Element w e) v h = ap (λ (x : WalkState). theory.on_from (state_of x)) (same_next h)
then_on (Clear w) v h = ap (λ (x : WalkState). theory.on_from (state_of x)) (same_next h)
then_on (Print w p) v h = ap (λ (x : WalkState). theory.on_from (state_of x)) (same_next h)
then_on (End w) v h = absurd (next_differs h)
then_on (Refused w k p) v h = absurd (next_differs h)

-- ---- a call that joins s and t
module _ {s t l : List ℕ} (c : Union) (is : Joins c.buffer l s t c.answer) where
  pub union_denies : {f k p : ℕ} → Dues s t f (denied k p) → JoinDenies k f p l c
  union_denies d = joins_one is (joins_denied l d)

  pub union_gives : {x : List ℕ} → Dues s t 0 (text x) → JoinGives x l c
  union_gives {x} d = record {
    room = λ h.
        let w = joins_one is (joins_written l d refl h refl) in
        let z : 0 + length x ≡ length x = omega arith in
        (w.0, w.1 ∙ sets-eq x l 0 (omega arith) ∙ ap (λ (k : ℕ). x ++ drop k l) z);
    short = λ h. joins_one is (joins_short l d refl h);
  }

module _ (library : Library) where
  reached : (s : List ℕ) {w : WalkState} {xs : List Answer} {z : Final} → Walked (library.step s) w xs z → Reach epl s (state_of w) (map answer_of xs) z
  reached s (stop {w} {z} h) = theory.stop (ap then (sym (library.steps s w)) ∙ then_over (library.step s w) z h)
  reached s (go_on {w} {w'} {xs} {z} h b) = theory.go_on (sym (library.steps s w)) (then_on (library.step s w) w' h) (reached s b)

  pub walked_lists : (s : List ℕ) (xs : List Answer) (z : Final) → Walked (library.step s) fresh xs z → outcome_of s ≡ ending z (answered s [] xs)
  walked_lists s xs z w = reach_outcome epl reads (List ℕ) frame_of (reached s w) ∙ ap (ending z) (answered_is s [] xs)

  pub join_keeps : (s t l : List ℕ) → ((library.join s t l).answer.number ≡ 0 → ⊥) → (library.join s t l).buffer ≡ l
  join_keeps s t l z = joins_kept (library.unites s t l) z

  pub long_join : (s t l : List ℕ) → longest < length s → JoinDenies 14 1 0 l (library.join s t l)
  long_join s t l h = union_denies (library.join s t l) (library.unites s t l) (due_first s t (outcome_long s h))
