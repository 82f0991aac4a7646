-- Demand 1, of functions that meet the contracts: what a refused call leaves, when it is refused as 14 and as 16, and
-- that the end keeps what is pending and is answered again (the laws that `demand1` of the claims names); the sizes of
-- what a step answers (`sized`); and what a call that fills a buffer gives, by what is due to it (`gives`, `denies`).
-- Assumes nothing.
use mathlib.Core.Path.{◌≡◌, sym, ap, subst, ◌∙◌}
use mathlib.Core.Bool.{Bool, true, false, cond, ◌||◌}
use mathlib.Core.List.{List, []}
use mathlib.Core.Logic.{◌⊎◌, inl, inr}
use Prim.Native.Nat.{ℕ, ◌≤◌, ◌<◌}
use native.Mathlib.Omega.{arith}
use lib.Dec.{ltb}
use lib.ListN.{length, drop}
use borrow.Author.Tests.{ltb-true, ltb-false}
use Rattle.text.proofs.BoolLaws.{test}
use Rattle.elements.specs.declared.filled.Filled.{Filled}
use Rattle.elements.specs.declared.filled.Filled.TheVariants as filled
use Rattle.elements.specs.declared.LabelElement.{LabelElement}
use Rattle.elements.specs.declared.LabelPosition.{LabelPosition}
use Rattle.elements.specs.declared.PrintCounts.{PrintCounts}
use Rattle.elements.specs.declared.refusal.Refusal.{Refusal}
use Rattle.elements.specs.declared.walk_state.WalkState.{WalkState}
use Rattle.elements.specs.Refusals.{number_of}
use Rattle.elements.specs.Spans.{In}
use Rattle.elements.specs.Walk.{fresh}
use Rattle.frame_bytes.specs.Frame.{frame_of}
use Rattle.elements.specs.Given.{Due, text, denied, Fills, given_of, longest}
use Rattle.walk_theory.specs.Step.{State, handing, answer, step}
use Rattle.walk_theory.specs.Step as theory
use Rattle.walk_theory.specs.Trace.{refuses, final, Within, ending, refusal_of, on_answer, trace, labels_in}
use Rattle.elements.proofs.GivenLaws.{fills_kept, text_written, text_short, refusal_due, within_long}
use Rattle.walk_theory.proofs.TurnLaws.{step_long, step_past, step_many}
use Rattle.walk_theory.proofs.TraceLaws.{trace_is, goes_by}
use Rattle.walk_theory.proofs.TraceLaws as trace_laws
use Rattle.walk_theory.proofs.RefusalLaws.{Says, says_step}
use Rattle.grammar.specs.Epl.{epl}
use Rattle.grammar.proofs.FoundLaws.{reads}
use Rattle.grammar.proofs.RangesLaws.{outside_numbers}
use Rattle.grammar.proofs.FaultsLaws.{first_fault, fault_between}
use Rattle.walk.specs.declared.answer.Answer.{Answer}
use Rattle.walk.specs.declared.answer.Answer.TheVariants.{Element, Clear, Print, End, Refused}
use Rattle.walk.specs.Steps.{EplTrace, state_of, answer_of}
use Rattle.structs.specs.declared.answer.Element as struct
use Rattle.structs.specs.Steps.{walk_of}
use Rattle.file_listing.specs.Listing.{outcome_of, listing_due, due_of}
use Rattle.format.specs.Normalise as normal
use Rattle.strict.specs.declared.verdict.Checked.{Checked}
use Rattle.strict.specs.Listing.{strict_due_of}
use Rattle.strict.proofs.LookLaws.{long_verdict}
use Rattle.strict.proofs.ListingLaws.{own_due}
use Rattle.dots.specs.declared.element.Element300.{Element300}
use Rattle.spellings.specs.Due.{element_due}
use Rattle.writing_element.specs.Plain.{plain_due}
use Rattle.writing_label.specs.Label.{plain_label_due, plain_label_due300}
use Rattle.laddertick.specs.HostContracts.{Filling, Library, Denies, Gives}
use Rattle.laddertick.specs.Walked.{Outside}
use Rattle.laddertick.specs.Sized.{Sized}
use Rattle.laddertick.proofs.SizedLaws as sized_laws
use Rattle.laddertick.proofs.StepInsideLaws as inside_laws

-- ---- the theory's steps
handing_refused : {R E P : Type 0} (g st : State R) (n p : ℕ) (a : theory.Answer R E P) → handing g a ≡ theory.refused n p st → st ≡ g
unfolding handing
handing_refused g st n p (theory.element e x) h = cc
handing_refused g st n p (theory.cleared x) h = cc
handing_refused g st n p (theory.printed k q x) h = cc
handing_refused g st n p (theory.ended x) h = cc
handing_refused g st n p (theory.refused k q x) h = cc

hands_by : (a b : Bool) (s : List ℕ) (st st' : State LabelPosition) (n p : ℕ)
    → cond a (theory.refused 14 0 st) (cond b (theory.refused 16 st.place st) (handing st (answer epl (drop st.place s) st.place st.ref st.pending))) ≡ theory.refused n p st' → st' ≡ st
hands_by true b s st st' n p h = cc
hands_by false true s st st' n p h = cc
hands_by false false s st st' n p h = handing_refused st st' n p (answer epl (drop st.place s) st.place st.ref st.pending) h

hands_back : (s : List ℕ) (st st' : State LabelPosition) (n p : ℕ) → step epl s st ≡ theory.refused n p st' → st' ≡ st
unfolding step
hands_back s st st' n p h = hands_by (ltb longest (length s)) (ltb (length s) st.place || ltb st.place st.pending) s st st' n p h

pub step_outside : (s : List ℕ) (w : WalkState) → length s ≤ longest → Outside s w → step epl s (state_of w) ≡ theory.refused 16 w.place (state_of w)
step_outside s w short (inl h) = step_past epl s (state_of w) short h
step_outside s w short (inr h) =
    test (ltb (length s) w.place) (λ e. step_past epl s (state_of w) short (ltb-true _ _ e)) (λ e. step_many epl s (state_of w) short (ltb-false _ _ e) h)

within_of : (s : List ℕ) (w : WalkState) → length s ≤ longest → (Outside s w → ⊥) → Within s (state_of w)
within_of s w short n = record {
  short = short;
  inside = test (ltb (length s) w.place) (λ e. absurd (n (inl (ltb-true _ _ e)))) (λ e. ltb-false _ _ e);
  counted = test (ltb w.place w.pending) (λ e. absurd (n (inr (ltb-true _ _ e)))) (λ e. ltb-false _ _ e);
}

-- 1 to 13, or 19
abbrev pub Line : ℕ → Type 0
Line n = ((1 ≤ n) × (n ≤ 13)) ⊎ (n ≡ 19)

refused_line : {n : ℕ} → (n ≡ 13) ⊎ (n ≡ 19) → Line n
refused_line (inl e) = inl (omega arith, omega arith)
refused_line (inr e) = inr e

pub step_inside : (s : List ℕ) (st : State LabelPosition) → Within s st → Says Line (step epl s st)
step_inside s st w =
    says_step epl reads Line
    (λ t n e. let b = fault_between (first_fault t n e) in inl (b.0, omega (arith, b.1)))
    (λ r u rest n x e. refused_line (outside_numbers r u rest x n e))
    s st w

-- a string over the limit is refused at once, and lists nothing
pub trace_long : (s : List ℕ) → longest < length s → trace epl s (state_of fresh) ≡ refuses 14 0
trace_long s h = trace_is epl reads s (state_of fresh) ∙ ap (on_answer epl (trace epl s)) (step_long epl s (state_of fresh) h)

pub outcome_long : (s : List ℕ) → longest < length s → outcome_of s ≡ refusal_of 14 0
outcome_long s h = ap (λ (x : EplTrace). ending (final x) (labels_in epl (List ℕ) frame_of s [] x)) (trace_long s h)

-- ---- answers of the code
end_is : (r : Answer) (w : WalkState) → answer_of r ≡ theory.ended (state_of w) → r ≡ End w
end_is (Element x e) w h = absurd (let z : ◌≡◌ {A = ℕ} 0 1 = cc in omega arith)
end_is (Clear x) w h = absurd (let z : ◌≡◌ {A = ℕ} 0 1 = cc in omega arith)
end_is (Print x p) w h = absurd (let z : ◌≡◌ {A = ℕ} 0 1 = cc in omega arith)
end_is (End x) w h = ap (λ (st : State LabelPosition). End (walk_of st)) same
  where
    same : state_of x ≡ state_of w
    same = cc
end_is (Refused x k p) w h = absurd (let z : ◌≡◌ {A = ℕ} 0 1 = cc in omega arith)

-- ---- a call that fills the buffer l, by what is due to it
module _ (d : Due) (l : List ℕ) (c : Filling) where
  pub keeps : (k : Refusal) (p : ℕ) → c.answer ≡ filled.Refused k p → Fills c.buffer l d (given_of c.answer) → c.buffer ≡ l
  keeps k p h f = fills_kept d (subst (λ (x : Filled). Fills c.buffer l d (given_of x)) h f)

  pub denies : {n p : ℕ} → d ≡ denied n p → Fills c.buffer l d (given_of c.answer) → Denies n p l c
  denies e f = refusal_due (subst (λ (x : Due). Fills c.buffer l x (given_of c.answer)) e f)

  pub gives : (t : List ℕ) → d ≡ text t → Fills c.buffer l d (given_of c.answer) → Gives t l c
  gives t e f =
      let g = subst (λ (x : Due). Fills c.buffer l x (given_of c.answer)) e f in
      record { room = text_written t g; short = text_short t g }

module _ (library : Library) where
  answers_as : (s : List ℕ) (w : WalkState) {r : Answer} → library.step s w ≡ r → step epl s (state_of w) ≡ answer_of r
  answers_as s w h = sym (library.steps s w) ∙ ap answer_of h

  pub step_hands_back : (s : List ℕ) (w w' : WalkState) (k : Refusal) (p : ℕ) → library.step s w ≡ Refused w' k p → w' ≡ w
  step_hands_back s w w' k p h = ap walk_of (hands_back s (state_of w) (state_of w') (number_of k) p (answers_as s w h))

  pub list_keeps : (s l : List ℕ) (k : Refusal) (p : ℕ) → (library.list s l).answer ≡ filled.Refused k p → (library.list s l).buffer ≡ l
  list_keeps s l k p h = keeps (due_of s) l (library.list s l) k p h (library.lists s l)

  pub normalise_keeps : (s l : List ℕ) (k : Refusal) (p : ℕ) → (library.normalise s l).answer ≡ filled.Refused k p → (library.normalise s l).buffer ≡ l
  normalise_keeps s l k p h = keeps (normal.due_of s) l (library.normalise s l) k p h (library.normalises s l)

  pub strict_list_keeps : (s l : List ℕ) (k : Refusal) (p : ℕ) → (library.strict_list s l).answer ≡ filled.Refused k p → (library.strict_list s l).buffer ≡ l
  strict_list_keeps s l k p h = keeps (strict_due_of s) l (library.strict_list s l) k p h (library.strictly_lists s l)

  pub write_keeps : (s : List ℕ) (e : LabelElement) (l : List ℕ) (k : Refusal) (p : ℕ) → (library.write s e l).answer ≡ filled.Refused k p → (library.write s e l).buffer ≡ l
  write_keeps s e l k p h = keeps (element_due s e) l (library.write s e l) k p h (library.writes s e l)

  pub write_plain_keeps : (s : List ℕ) (x : struct.Element) (l : List ℕ) (k : Refusal) (p : ℕ) → (library.write_plain s x l).answer ≡ filled.Refused k p → (library.write_plain s x l).buffer ≡ l
  write_plain_keeps s x l k p h = keeps (plain_due s x) l (library.write_plain s x l) k p h (library.writes_plain s x l)

  pub write_label_keeps : (s : List ℕ) (xs : List struct.Element) (q : PrintCounts) (l : List ℕ) (k : Refusal) (p : ℕ) → (library.write_label s xs q l).answer ≡ filled.Refused k p → (library.write_label s xs q l).buffer ≡ l
  write_label_keeps s xs q l k p h = keeps (plain_label_due s xs q) l (library.write_label s xs q l) k p h (library.writes_label s xs q l)

  pub write_label_300_keeps : (s : List ℕ) (xs : List Element300) (q : PrintCounts) (l : List ℕ) (k : Refusal) (p : ℕ) → (library.write_label_300 s xs q l).answer ≡ filled.Refused k p → (library.write_label_300 s xs q l).buffer ≡ l
  write_label_300_keeps s xs q l k p h = keeps (plain_label_due300 s xs q) l (library.write_label_300 s xs q l) k p h (library.writes_label_300 s xs q l)

  pub long_step : (s : List ℕ) (w : WalkState) → longest < length s → answer_of (library.step s w) ≡ theory.refused 14 0 (state_of w)
  long_step s w h = library.steps s w ∙ step_long epl s (state_of w) h

  pub long_list : (s l : List ℕ) → longest < length s → Denies 14 0 l (library.list s l)
  long_list s l h = denies (due_of s) l (library.list s l) (ap listing_due (outcome_long s h)) (library.lists s l)

  pub long_normalise : (s l : List ℕ) → longest < length s → Denies 14 0 l (library.normalise s l)
  long_normalise s l h = denies (normal.due_of s) l (library.normalise s l) (within_long longest s _ h) (library.normalises s l)

  pub long_check : (s : List ℕ) → longest < length s → library.check s ≡ record { number = 14; field = 0; held = 0; place = 0 }
  long_check s h = library.checks s ∙ long_verdict s h

  pub long_strict_list : (s l : List ℕ) → longest < length s → Denies 14 0 l (library.strict_list s l)
  long_strict_list s l h =
      let c = long_verdict s h in
      denies (strict_due_of s) l (library.strict_list s l) (own_due s 14 (omega arith) (ap (λ (x : Checked). x.number) c) ∙ ap (λ (x : Checked). denied 14 x.place) c) (library.strictly_lists s l)

  pub outside : (s : List ℕ) (w : WalkState) → length s ≤ longest → Outside s w → answer_of (library.step s w) ≡ theory.refused 16 w.place (state_of w)
  outside s w short o = library.steps s w ∙ step_outside s w short o

  pub inside : (s : List ℕ) (w : WalkState) → length s ≤ longest → (Outside s w → ⊥) → (k : Refusal) (p : ℕ) (w' : WalkState) → library.step s w ≡ Refused w' k p → Line (number_of k)
  inside s w short n k p w' h = subst (Says Line) (answers_as s w h) (step_inside s (state_of w) (within_of s w short n))

  pub end_keeps : (s : List ℕ) (w w' : WalkState) → library.step s w ≡ End w' → (w'.place ≡ length s) × (w'.pending ≡ w.pending)
  end_keeps s w w' h = let g = goes_by epl reads s (state_of w) (answer_of (End w')) (sym (answers_as s w h)) in (g.1, g.2)

  pub ended_again : (s : List ℕ) (w w' : WalkState) → library.step s w ≡ End w' → library.step s w' ≡ End w'
  ended_again s w w' h = end_is (library.step s w') w' (library.steps s w' ∙ trace_laws.ended_again epl reads s (state_of w) (state_of w') (answers_as s w h))

  pub data_inside : (s : List ℕ) (w w' : WalkState) (e : LabelElement) → library.step s w ≡ Element w' e → In (length s) e
  data_inside s w w' e h = inside_laws.data_inside s (state_of w) (state_of w') e (answers_as s w h)

  pub sized : (s : List ℕ) (w w' : WalkState) (e : LabelElement) → library.step s w ≡ Element w' e → Sized e
  sized s w w' e h = sized_laws.sized s (state_of w) (state_of w') e (answers_as s w h)
