-- The labels of a division (01, "For demand 3"): a run over its units, and the count of what is pending at the end.
-- Elements are compared by their frames.
use Rattle.std.specs.Prelude.{◌≡◌, List, [], ◌∷◌, ◌++◌, ℕ, ◌+◌, length}
use Rattle.walk_theory.specs.Language.{Act, keep, clear, yield, print, outside, Language, bad}
use Rattle.walk_theory.specs.Division.{Division}

-- a label: its count and what its print says, and its frames
pub record Label (F P : Type 0) : Type 0 where
  pub count : ℕ
  pub says : P
  pub frames : List F

-- "prints it, if there is any, as a label with its count"
unfoldable pub flush : {F P : Type 0} → P → List F → List (Label F P)
flush q [] = []
flush q (f ∷ fs) = record { count = length (f ∷ fs); says = q; frames = f ∷ fs } ∷ []

-- where a run of units leads: labels, then a reference and what is pending; or a number outside its range
pub data Run (R F P : Type 0) : Type 0 where
  goes : List (Label F P) → R → List F → Run R F P
  leaves : ℕ → Run R F P

abbrev pub before : {R F P : Type 0} → List (Label F P) → Run R F P → Run R F P
before ls (goes ms r p) = goes (ls ++ ms) r p
before ls (leaves n) = leaves n

abbrev pub and_then : {R F P : Type 0} → Run R F P → (R → List F → Run R F P) → Run R F P
and_then (goes ls r p) go = before ls (go r p)
and_then (leaves n) go = leaves n

-- the labels and how many elements are pending at the end, or none for a run that leaves the range
pub data Labels (F P : Type 0) : Type 0 where
  labels : List (Label F P) → ℕ → Labels F P
  out : Labels F P

-- "The end prints nothing"; "elements pending there are no label, and their count is the division's"
abbrev pub closed : {R F P : Type 0} → Run R F P → Labels F P
closed (goes ls r p) = labels ls (length p)
closed (leaves n) = out

-- F are frames, `frame s e` that of the element e in the string s
module _ (L : Language) (F : Type 0) (frame : List ℕ → L.E → F) where
  open L use {U, R, E, P, bytes, act}

  -- "`R` and `N` set the reference; an element that the unit yields becomes pending; `N` drops what is pending; a print
  -- line .. prints it"
  abbrev pub effect : R → List F → U → Act R E P → Run R F P
  effect r p u (keep r') = goes [] r' p
  effect r p u (clear r') = goes [] r' []
  effect r p u (yield e) = goes [] r (p ++ (frame (bytes u) e ∷ []))
  effect r p u (print q) = goes (flush q p) r []
  effect r p u (outside n) = leaves n

  -- "go unit by unit"
  abbrev pub run : R → List F → List U → Run R F P
  run r p [] = goes [] r p
  run r p (u ∷ us) = and_then (effect r p u (act r u)) (λ r' p'. run r' p' us)

  abbrev pub labels_of : R → List F → List U → Labels F P
  labels_of r p us = closed (run r p us)

  -- s divides with every position and size in range, r being the fresh reference, and has these labels and n elements
  -- pending at the end
  pub record Divides (s : List ℕ) (r : R) (ls : List (Label F P)) (n : ℕ) : Type 0 where
    pub units : List U
    pub division : Division L s units
    pub range : labels_of r [] units ≡ labels ls n

  -- the earliest refused unit from a place on: at fault as it stands, or out of range, every unit before it being
  -- neither
  pub data Fails : List ℕ → ℕ → R → List F → ℕ → ℕ → Type 0 where
    faulty : {s : List ℕ} {at : ℕ} {r : R} {p : List F} {n : ℕ} → L.first s ≡ bad n → Fails s at r p n at
    beyond : {u : U} {s rest : List ℕ} {at : ℕ} {r : R} {p : List F} {n : ℕ} → s ≡ bytes u ++ rest → L.Stands u rest
        → act r u ≡ outside n → Fails s at r p n at
    later : {u : U} {s rest : List ℕ} {at : ℕ} {r r' : R} {p p' : List F} {ls : List (Label F P)} {n q : ℕ}
        → s ≡ bytes u ++ rest → L.Stands u rest → effect r p u (act r u) ≡ goes ls r' p'
        → Fails rest (at + length (bytes u)) r' p' n q → Fails s at r p n q
