-- The walk by a function that meets the contract of `step` is the theory's (`walked`), there is one of it
-- (`one_walked`), from any state it ends (`ends`), and the labels answered are the theory's (`answered_is`). Assumes
-- nothing.
use mathlib.Core.Path.{◌≡◌, refl, sym, ap, ◌∙◌}
use mathlib.Core.List.{List, [], ◌∷◌, ◌++◌, map}
use Prim.Native.Nat.{ℕ, zero, suc, ◌<◌}
use native.Mathlib.Omega.{arith}
use Rattle.elements.specs.declared.LabelPosition.{LabelPosition}
use Rattle.elements.specs.declared.walk_state.WalkState.{WalkState}
use Rattle.frame_bytes.specs.Frame.{frame_of}
use Rattle.walk_theory.specs.Step.{State, element, cleared, printed, ended, refused, step}
use Rattle.walk_theory.specs.Trace.{left}
use Rattle.walk_theory.proofs.TraceLaws.{goes_by}
use Rattle.walk_theory.specs.Reach as theory
use Rattle.walk_theory.specs.Reach.{Final, accepted, refusal, Then, then, Reach}
use Rattle.grammar.specs.Epl.{epl}
use Rattle.grammar.proofs.FoundLaws.{reads}
use Rattle.walk.specs.declared.answer.Answer.{Answer}
use Rattle.walk.specs.declared.answer.Answer.TheVariants.{Element, Clear, Print, End, Refused}
use Rattle.walk.specs.Steps.{EplAnswer, state_of, answer_of}
use Rattle.structs.specs.Steps.{walk_of}
use Rattle.laddertick.specs.HostContracts.{Stepped, Library}
use Rattle.laddertick.specs.Walked.{Next, on_from, over, next, Walked, stop, go_on, answered}

-- ---- after an answer
over≢on : {z : Final} {st : State LabelPosition} → ◌≡◌ {A = Then LabelPosition} (theory.over z) (theory.on_from st) → ⊥
over≢on e = let z : ◌≡◌ {A = ℕ} 0 1 = cc in omega arith

next_over : (r : Answer) (z : Final) → then (answer_of r) ≡ theory.over z → next r ≡ over z
next_over (Element w e) z h = absurd (over≢on (sym h))
next_over (Clear w) z h = absurd (over≢on (sym h))
next_over (Print w p) z h = absurd (over≢on (sym h))
next_over (End w) z h = cc
next_over (Refused w k p) z h = cc

-- the state that a walk goes on from
same_on : {st st' : State LabelPosition} → ◌≡◌ {A = Then LabelPosition} (theory.on_from st) (theory.on_from st') → st ≡ st'
same_on e = cc

next_on : (r : Answer) (st : State LabelPosition) → then (answer_of r) ≡ theory.on_from st → next r ≡ on_from (walk_of st)
next_on (Element w e) st h = ap (λ (x : State LabelPosition). on_from (walk_of x)) (same_on h)
next_on (Clear w) st h = ap (λ (x : State LabelPosition). on_from (walk_of x)) (same_on h)
next_on (Print w p) st h = ap (λ (x : State LabelPosition). on_from (walk_of x)) (same_on h)
next_on (End w) st h = absurd (over≢on h)
next_on (Refused w k p) st h = absurd (over≢on h)

-- ---- one walk
pub next_differs : {z : Final} {w : WalkState} → ◌≡◌ {A = Next} (over z) (on_from w) → ⊥
next_differs e = let z : ◌≡◌ {A = ℕ} 0 1 = cc in omega arith

pub same_over : {y z : Final} → ◌≡◌ {A = Next} (over y) (over z) → y ≡ z
same_over e = cc

pub same_next : {v w : WalkState} → ◌≡◌ {A = Next} (on_from v) (on_from w) → v ≡ w
same_next e = cc

module _ (f : WalkState → Answer) where
  one_by : {v w : WalkState} {xs ys : List Answer} {y z : Final} → v ≡ w → Walked f v xs y → Walked f w ys z → (xs ≡ ys) × (y ≡ z)
  one_by i (stop h) (stop k) = (refl, same_over (sym h ∙ ap (λ (x : WalkState). next (f x)) i ∙ k))
  one_by i (stop h) (go_on k c) = absurd (next_differs (sym h ∙ ap (λ (x : WalkState). next (f x)) i ∙ k))
  one_by i (go_on h b) (stop k) = absurd (next_differs (sym k ∙ ap (λ (x : WalkState). next (f x)) (sym i) ∙ h))
  one_by i (go_on h b) (go_on k c) =
      let r = one_by (same_next (sym h ∙ ap (λ (x : WalkState). next (f x)) i ∙ k)) b c in
      ((λ j. f (i j) ∷ r.0 j), r.1)

  pub one_walked : {w : WalkState} {xs ys : List Answer} {y z : Final} → Walked f w xs y → Walked f w ys z → (xs ≡ ys) × (y ≡ z)
  one_walked b c = one_by refl b c

-- ---- the walk, and what it answered
module _ (g : List ℕ → WalkState → Answer) (meets : (s : List ℕ) (w : WalkState) → Stepped s w (g s w)) (s : List ℕ) where
  pub walked : {st : State LabelPosition} {bs : List (EplAnswer)} {z : Final} → Reach epl s st bs z
      → (xs : List Answer) × Walked (g s) (walk_of st) xs z × (map answer_of xs ≡ bs)
  walked (theory.stop {st} {f} h) = ([], stop (next_over (g s (walk_of st)) f (ap then (meets s (walk_of st)) ∙ h)), refl)
  walked (theory.go_on {st} {st'} {a} {xs} {f} h k b) =
      let i = walked b in
      let e = meets s (walk_of st) ∙ h in
      (g s (walk_of st) ∷ i.0, go_on (next_on (g s (walk_of st)) st' (ap then e ∙ k)) i.1, λ j. e j ∷ i.2 j)

-- ---- from any state the steps end
abbrev Ends : List ℕ → State LabelPosition → Type 0
Ends s st = (bs : List EplAnswer) × (z : Final) × Reach epl s st bs z

ends_by : (k : ℕ) (s : List ℕ) (st : State LabelPosition) → left s st < k → Ends s st
ends_by zero s st h = absurd (omega arith)
ends_by (suc k) s st h = by (λ st' l. ends_by k s st' l) (step epl s st) refl
  where
    further : ((st' : State LabelPosition) → left s st' < k → Ends s st') → (a : EplAnswer) (st' : State LabelPosition) → step epl s st ≡ a → then a ≡ theory.on_from st' → left s st' < k → Ends s st
    further again a st' e t l = let i = again st' l in (a ∷ i.0, i.1, theory.go_on e t i.2)

    by : ((st' : State LabelPosition) → left s st' < k → Ends s st') → (a : EplAnswer) → step epl s st ≡ a → Ends s st
    by again (element x st') e = let g = goes_by epl reads s st (element x st') (sym e) in further again (element x st') st' e refl (omega (arith, g.1, g.2))
    by again (cleared st') e = let g = goes_by epl reads s st (cleared st') (sym e) in further again (cleared st') st' e refl (omega (arith, g.1, g.2))
    by again (printed n q st') e = let g = goes_by epl reads s st (printed n q st') (sym e) in further again (printed n q st') st' e refl (omega (arith, g.1, g.2))
    by again (ended st') e = ([], accepted st'.pending, theory.stop (ap then e))
    by again (refused n p st') e = ([], refusal n p, theory.stop (ap then e))

pub ends : (library : Library) (s : List ℕ) (w : WalkState) → (xs : List Answer) × (z : Final) × Walked (library.step s) w xs z
ends library s w =
    let r = ends_by (suc (left s (state_of w))) s (state_of w) (omega arith) in
    let c = walked library.step library.steps s r.2 in
    (c.0, r.1, c.1)

pub answered_is : (s : List ℕ) (p : List (List ℕ)) (xs : List Answer) → theory.answered epl (List ℕ) frame_of s p (map answer_of xs) ≡ answered s p xs
answered_is s p [] = refl
answered_is s p (Element w e ∷ xs) = answered_is s (p ++ (frame_of s e ∷ [])) xs
answered_is s p (Clear w ∷ xs) = answered_is s [] xs
answered_is s p (Print w q ∷ xs) = λ i. record { count = q.count; says = q.counts; frames = p } ∷ answered_is s [] xs i
answered_is s p (End w ∷ xs) = answered_is s p xs
answered_is s p (Refused w k n ∷ xs) = answered_is s p xs
