-- The whole walk as one value: what the steps answer from a state, each given the state that the last one returned; and
-- how each answer moves it on.
use Rattle.std.specs.Prelude.{◌≡◌, List, [], ◌∷◌, ◌++◌, ℕ, zero, suc, ◌-◌, ◌≤◌, ◌<◌, length}
use Rattle.walk_theory.specs.Language.{Language}
use Rattle.walk_theory.specs.Labels.{Label}
use Rattle.elements.specs.Given.{longest}
use Rattle.walk_theory.specs.Step.{State, Answer, element, cleared, printed, ended, refused, step}
use Rattle.walk_theory.specs.Reach.{Final, accepted, refusal}

-- the answers up to the end, with the count of what is pending there, or the refusal; without their states
pub data Trace (E P : Type 0) : Type 0 where
  stops : ℕ → Trace E P
  refuses : ℕ → ℕ → Trace E P
  yields : E → Trace E P → Trace E P
  clears : Trace E P → Trace E P
  prints : ℕ → P → Trace E P → Trace E P

-- where it ends
abbrev pub final : {E P : Type 0} → Trace E P → Final
final (stops n) = accepted n
final (refuses n k) = refusal n k
final (yields e t) = final t
final (clears t) = final t
final (prints n q t) = final t

-- what follows the elements that a trace begins with
abbrev pub after : {E P : Type 0} → Trace E P → Trace E P
after (stops n) = stops n
after (refuses n k) = refuses n k
after (yields e t) = after t
after (clears t) = clears t
after (prints n q t) = prints n q t

-- how many labels are printed on the way
abbrev pub prints_in : {E P : Type 0} → Trace E P → ℕ
prints_in (stops n) = 0
prints_in (refuses n k) = 0
prints_in (yields e t) = prints_in t
prints_in (clears t) = prints_in t
prints_in (prints n q t) = suc (prints_in t)

-- what a walk lists: its labels and the count of what is pending at the end, or the refusal alone
pub data Outcome (F P : Type 0) : Type 0 where
  listed : List (Label F P) → ℕ → Outcome F P
  refusal_of : ℕ → ℕ → Outcome F P

-- of a walk that reached this end, `ls` being the labels that it answered
abbrev pub ending : {F P : Type 0} → Final → List (Label F P) → Outcome F P
ending (accepted n) ls = listed ls n
ending (refusal n p) ls = refusal_of n p

-- a state that is neither 14 nor 16
pub record Within {R : Type 0} (s : List ℕ) (st : State R) : Type 0 where
  pub short : length s ≤ longest
  pub inside : st.place ≤ length s
  pub counted : st.pending ≤ st.place

-- what an answer but a refusal shows: it comes from within the input, and moves on
abbrev pub Goes : {R E P : Type 0} → List ℕ → State R → Answer R E P → Type 0
Goes s st (element e st') = Within s st × (st.place < st'.place) × (st'.place ≤ length s)
    × (st'.pending ≡ suc st.pending)
Goes s st (cleared st') = Within s st × (st.place < st'.place) × (st'.place ≤ length s) × (st'.pending ≡ 0)
Goes s st (printed n q st') = Within s st × (st.place < st'.place) × (st'.place ≤ length s) × (st'.pending ≡ 0)
    × (n ≡ st.pending) × (0 < n)
Goes s st (ended st') = Within s st × (st'.place ≡ length s) × (st'.pending ≡ st.pending)
Goes s st (refused n p st') = Unit

-- falls at each answer but the end and a refusal
abbrev pub left : {R : Type 0} → List ℕ → State R → ℕ
left s st = length s - st.place

module _ (L : Language) where
  open L use {R, E, P}

  abbrev pub on_answer : (State R → Trace E P) → Answer R E P → Trace E P
  on_answer go (element e st) = yields e (go st)
  on_answer go (cleared st) = clears (go st)
  on_answer go (printed n q st) = prints n q (go st)
  on_answer go (ended st) = stops st.pending
  on_answer go (refused n p st) = refuses n p

  abbrev pub steps : ℕ → List ℕ → State R → Trace E P
  steps zero s st = refuses 0 0
  steps (suc k) s st = on_answer (λ st'. steps k s st') (step L s st)

  unfoldable pub trace : List ℕ → State R → Trace E P
  trace s st = steps (suc (left s st)) s st

  module _ (F : Type 0) (frame : List ℕ → E → F) where
    -- the labels answered on the way, `p` being pending
    abbrev pub labels_in : List ℕ → List F → Trace E P → List (Label F P)
    labels_in s p (stops n) = []
    labels_in s p (refuses n k) = []
    labels_in s p (yields e t) = labels_in s (p ++ (frame s e ∷ [])) t
    labels_in s p (clears t) = labels_in s [] t
    labels_in s p (prints n q t) = record { count = n; says = q; frames = p } ∷ labels_in s [] t

    -- the frames of the elements that a trace begins with
    abbrev pub lead : List ℕ → Trace E P → List F
    lead s (stops n) = []
    lead s (refuses n k) = []
    lead s (yields e t) = frame s e ∷ lead s t
    lead s (clears t) = []
    lead s (prints n q t) = []

    -- what the walk of an input from a state lists
    abbrev pub outcome : List ℕ → State R → Outcome F P
    outcome s st = ending (final (trace s st)) (labels_in s [] (trace s st))
