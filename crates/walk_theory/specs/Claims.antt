-- What a language of units has to show of one unit, and what is then claimed of the whole walk of every string of at
-- most 16,777,216 bytes.
use Rattle.std.specs.Prelude.{◌≡◌, List, [], ◌++◌, ℕ, length}
use Rattle.walk_theory.specs.Language.{Language, yield}
use Rattle.walk_theory.specs.Division.{Division}
use Rattle.walk_theory.specs.Labels.{Label, Divides, Fails}
use Rattle.walk_theory.specs.Step.{state, Answer}
use Rattle.walk_theory.specs.Reach.{Final, accepted, Reach, answered, refusal}

module _ (L : Language) (F : Type 0) (frame : List ℕ → L.E → F) where
  open L use {U, R, E, P, bytes, act, shifted}

  -- an element's frame in a string that holds its unit is its frame in the unit alone
  abbrev pub Local : Type 0
  Local = (r : R) (u : U) (e : E) → act r u ≡ yield e → (pre post : List ℕ)
      → frame (pre ++ (bytes u ++ post)) (shifted (length pre) e) ≡ frame (bytes u) e

  -- r is the fresh reference
  pub record Walks (r : R) (s : List ℕ) : Type 0 where
    -- no string divides in two ways
    pub one_division : (us vs : List U) → Division L s us → Division L s vs → us ≡ vs
    -- the steps from the fresh state reach the end or a refusal
    pub answers : List (Answer R E P)
    pub final : Final
    pub ends : Reach L s (state 0 r 0) answers final
    -- and nothing else
    pub one_walk : (ys : List (Answer R E P)) (f : Final) → Reach L s (state 0 r 0) ys f → (ys ≡ answers) × (f ≡ final)
    -- where s divides in range they reach the end with the division's count pending, and answer the division's labels
    pub divides→accepted : (ls : List (Label F P)) (n : ℕ) → Divides L F frame s r ls n
        → (final ≡ accepted n) × (answered L F frame s [] answers ≡ ls)
    -- and only there
    pub accepted→divides : (n : ℕ) → final ≡ accepted n → (ls : List (Label F P)) × Divides L F frame s r ls n
    -- a refusal is that of the earliest refused unit
    pub refused→fails : (n p : ℕ) → final ≡ refusal n p → Fails L F frame s 0 r [] n p
