-- The walk of a string by a function that answers as `step` does, and the labels answered (01, "For demand 3").
use Rattle.std.specs.Prelude.{◌≡◌, List, [], ◌∷◌, ◌++◌, ◌⊎◌, ℕ, ◌<◌, length}
use Rattle.elements.specs.declared.walk_state.WalkState.{WalkState}
use Rattle.elements.specs.Refusals.{number_of}
use Rattle.frame_bytes.specs.Frame.{frame_of}
use Rattle.walk_theory.specs.Reach.{Final, accepted, refusal}
use Rattle.walk.specs.declared.answer.Answer.{Answer}
use Rattle.walk.specs.declared.answer.Answer.TheVariants.{Element, Clear, Print, End, Refused}
use Rattle.file_listing.specs.Listing.{FramedLabel}

-- after an answer the walk goes on from the state that it returned, or is over
pub data Next : Type 0 where
  on_from : WalkState → Next
  over : Final → Next

abbrev pub next : Answer → Next
next (Element w e) = on_from w
next (Clear w) = on_from w
next (Print w p) = on_from w
next (End w) = over (accepted w.pending)
next (Refused w k p) = over (refusal (number_of k) p)

-- from a state, these answers and then this end, each step given the state that the last one returned
pub data Walked (f : WalkState → Answer) : WalkState → List Answer → Final → Type 0 where
  stop : {w : WalkState} {z : Final} → next (f w) ≡ over z → Walked f w [] z
  go_on : {w w' : WalkState} {xs : List Answer} {z : Final} → next (f w) ≡ on_from w' → Walked f w' xs z
      → Walked f w (f w ∷ xs) z

-- "walk state with its place past the end, or its pending count above its place"
abbrev pub Outside : List ℕ → WalkState → Type 0
Outside s w = (length s < w.place) ⊎ (w.place < w.pending)

-- "Labels answered: at each print, what it carries and the elements since the start or the last clear or print", the
-- elements by their frames
abbrev pub answered : List ℕ → List (List ℕ) → List Answer → List FramedLabel
answered s p [] = []
answered s p (Element w e ∷ xs) = answered s (p ++ (frame_of s e ∷ [])) xs
answered s p (Clear w ∷ xs) = answered s [] xs
answered s p (Print w q ∷ xs) = record { count = q.count; says = q.counts; frames = p } ∷ answered s [] xs
answered s p (End w ∷ xs) = answered s p xs
answered s p (Refused w k n ∷ xs) = answered s p xs
