-- The whole walk from a state, and the labels that it answers (01, "For demand 3").
use Rattle.std.specs.Prelude.{◌≡◌, List, [], ◌∷◌, ◌++◌, ℕ}
use Rattle.walk_theory.specs.Language.{Language}
use Rattle.walk_theory.specs.Labels.{Label}
use Rattle.walk_theory.specs.Step.{State, Answer, element, cleared, printed, ended, refused, step}

-- the end, with the count of what is pending there, or a refusal
pub data Final : Type 0 where
  accepted : ℕ → Final
  refusal : ℕ → ℕ → Final

-- after an answer the walk goes on from the state that it returned, or is over
pub data Then (R : Type 0) : Type 0 where
  on_from : State R → Then R
  over : Final → Then R

abbrev pub then : {R E P : Type 0} → Answer R E P → Then R
then (element e st) = on_from st
then (cleared st) = on_from st
then (printed n q st) = on_from st
then (ended st) = over (accepted st.pending)
then (refused n p st) = over (refusal n p)

module _ (L : Language) where
  open L use {R, E, P}

  -- from a state, these answers and then this end, each step given the state that the last one returned
  pub data Reach (s : List ℕ) : State R → List (Answer R E P) → Final → Type 0 where
    stop : {st : State R} {f : Final} → then (step L s st) ≡ over f → Reach s st [] f
    go_on : {st st' : State R} {a : Answer R E P} {xs : List (Answer R E P)} {f : Final} → step L s st ≡ a
        → then a ≡ on_from st' → Reach s st' xs f → Reach s st (a ∷ xs) f

  -- "Labels answered: at each print, what it carries and the elements since the start or the last clear or print"
  module _ (F : Type 0) (frame : List ℕ → E → F) where
    abbrev pub answered : List ℕ → List F → List (Answer R E P) → List (Label F P)
    answered s p [] = []
    answered s p (element e st ∷ xs) = answered s (p ++ (frame s e ∷ [])) xs
    answered s p (cleared st ∷ xs) = answered s [] xs
    answered s p (printed n q st ∷ xs) = record { count = n; says = q; frames = p } ∷ answered s [] xs
    answered s p (ended st ∷ xs) = answered s p xs
    answered s p (refused n k st ∷ xs) = answered s p xs
