-- A byte string divided end to end into units (01, "Grammar").
use Rattle.std.specs.Prelude.{◌≡◌, List, [], ◌∷◌, ◌++◌, ℕ, zero, suc, ◌<◌, length}
use Rattle.walk_theory.specs.Language.{First, none, bad, unit, Language}

module _ (L : Language) where
  open L use {U, bytes, Stands, first}

  -- `s` divides into the units `us`: each stands before what follows it
  pub data Division : List ℕ → List U → Type 0 where
    done : Division [] []
    more : {u : U} {us : List U} {s rest : List ℕ} → s ≡ bytes u ++ rest → Stands u rest → Division rest us
        → Division s (u ∷ us)

  -- the units that stand first in a string, one after the other, up to its end or a fault; each takes a byte at least,
  -- so the string's length bounds them
  abbrev pub on_units : (List ℕ → List U) → First U → List U
  on_units go none = []
  on_units go (bad k) = []
  on_units go (unit u rest) = u ∷ go rest

  abbrev pub units_by : ℕ → List ℕ → List U
  units_by zero s = []
  units_by (suc k) s = on_units (λ rest. units_by k rest) (first s)

  unfoldable pub units_of : List ℕ → List U
  units_of s = units_by (suc (length s)) s

  -- a unit that stands before a byte stands before anything: only one that the end of input ends asks for something of
  -- what follows it
  abbrev pub Firm : Type 0
  Firm = (u : U) (b : ℕ) (rest : List ℕ) → Stands u (b ∷ rest) → (t : List ℕ) → Stands u t

  -- `first` finds the unit that stands first, and only such a unit
  pub record Reads : Type 0 where
    pub at_end : first [] ≡ none
    pub finds : (u : U) (rest : List ℕ) → Stands u rest → first (bytes u ++ rest) ≡ unit u rest
    pub sound : (s : List ℕ) (u : U) (rest : List ℕ) → first s ≡ unit u rest
        → (s ≡ bytes u ++ rest) × Stands u rest × (0 < length (bytes u))
    pub empty : (s : List ℕ) → first s ≡ none → s ≡ []
