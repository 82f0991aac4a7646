-- Normalised text of a language of units (01, "format.rs"): what each unit becomes, and what has to hold of one unit.
use Rattle.std.specs.Prelude.{◌≡◌, List, [], ◌∷◌, ◌++◌, ℕ, ◌+◌, ◌/◌, ◌≤◌, length}
use Rattle.walk_theory.specs.Language.{Language}
use Rattle.walk_theory.specs.Division.{Division}
use Rattle.walk_theory.specs.Labels.{run, labels_of}

-- what each unit gives, one after the other; the text of units is `each bytes us`
abbrev pub each : {A B : Type 0} → (A → List B) → List A → List B
each f [] = []
each f (u ∷ us) = f u ++ each f us

-- units that stand before anything
pub data Solid (L : Language) : List L.U → Type 0 where
  none_left : Solid L []
  and_solid : {u : L.U} {us : List L.U} → ((rest : List ℕ) → L.Stands u rest) → Solid L us → Solid L (u ∷ us)

-- m bytes that became n: no more; or one more, for a unit of at least six bytes, or for the last one
pub data Grows (m n : ℕ) (rest : List ℕ) : Type 0 where
  no_longer : n ≤ m → Grows m n rest
  by_block : n ≤ m + 1 → 6 ≤ m → Grows m n rest
  by_last : n ≤ m + 1 → rest ≡ [] → Grows m n rest

module _ (L : Language) (F : Type 0) (frame : List ℕ → L.E → F) where
  open L use {U, R, bytes, Stands}

  module _ (normalised : List ℕ → List ℕ) (blocks : U → List (List ℕ)) where
    -- how normalising changes one unit, `normal u` being what u becomes
    pub record Normalises (normal : U → List U) : Type 0 where
      pub at_end : normalised [] ≡ []
      pub at_unit : (u : U) (rest : List ℕ) → Stands u rest
          → normalised (bytes u ++ rest) ≡ each bytes (normal u) ++ normalised rest
      pub solid : (u : U) (rest : List ℕ) → Stands u rest → Solid L (normal u)
      pub same_run : (u : U) (us : List U) (r : R) (p : List F)
          → run L F frame r p (normal u ++ us) ≡ run L F frame r p (u ∷ us)
      pub same_blocks : (u : U) → each blocks (normal u) ≡ blocks u
      pub settled : (u : U) → each normal (normal u) ≡ normal u
      pub grows : (u : U) (rest : List ℕ) → Stands u rest
          → Grows (length (bytes u)) (length (each bytes (normal u))) rest

    -- what then holds of a string that divides into us, r being the fresh reference
    pub record Normal (r : R) (s : List ℕ) (us : List U) : Type 0 where
      -- its normalised text divides, with the same labels, as many elements pending at the end and the same blocks
      pub vs : List U
      pub division : Division L (normalised s) vs
      pub same_labels : labels_of L F frame r [] vs ≡ labels_of L F frame r [] us
      pub same_blocks : each blocks vs ≡ each blocks us
      -- normalising it again changes nothing
      pub again : normalised (normalised s) ≡ normalised s
      pub size : length (normalised s) ≤ length s + length s / 6 + 1
