-- One unit changed (01, "One line changed"): two strings that are alike but for one unit, which yields an element or
-- nothing, and what becomes of the label at hand.
use Rattle.std.specs.Prelude.{◌≡◌, List, [], ◌∷◌, ◌++◌, ℕ, ◌<◌, length}
use Rattle.walk_theory.specs.Language.{unit, Act, keep, clear, yield, print, outside, Language}
use Rattle.walk_theory.specs.Division.{Division}
use Rattle.walk_theory.specs.Labels.{Label, flush, Run, goes, leaves, before, run}
use Rattle.walk_theory.specs.Normal.{each}

-- "neither is an `N`, reference or print line": what such a unit does at the reference r. (One that has a number
-- outside its range is in no accepted string.)
abbrev pub Plain : {R E P : Type 0} → R → Act R E P → Type 0
Plain r (keep r') = r' ≡ r
Plain r (clear r') = ⊥
Plain r (yield e) = Unit
Plain r (print q) = ⊥
Plain r (outside n) = Unit

-- "Replace one command line by another with the same ending": u of s, which divides into us, u and vs, has become u' in
-- s', where no unit but u' can stand
pub record Replaced (L : Language) (s s' : List ℕ) (us : List L.U) (u u' : L.U) (vs : List L.U) : Type 0 where
  pub rest : List ℕ
  pub old : s ≡ each L.bytes us ++ (L.bytes u ++ rest)
  pub new : s' ≡ each L.bytes us ++ (L.bytes u' ++ rest)
  pub division : Division L s (us ++ u ∷ vs)
  pub not_empty : 0 < length (L.bytes u')
  pub spelled : (w : L.U) (t : List ℕ) → L.first (L.bytes u' ++ rest) ≡ unit w t → (w ≡ u') × (t ≡ rest)
  pub plain : (r : L.R) → Plain r (L.act r u)
  pub plain' : (r : L.R) → Plain r (L.act r u')

-- what units make of the label at hand: a clear drops it ("an `N` stands between the line and the next print line or
-- the end"), or a print line prints it with these elements added, and the run goes on from there; or it is pending at
-- the end with these elements added; or the run leaves the range before
pub data Fate (R F P : Type 0) : Type 0 where
  dropped : Run R F P → Fate R F P
  printed : List F → P → Run R F P → Fate R F P
  pending : List F → R → Fate R F P
  lost : ℕ → Fate R F P

-- the run that this is, p being pending before
abbrev pub resolved : {R F P : Type 0} → List F → Fate R F P → Run R F P
resolved p (dropped x) = x
resolved p (printed g q x) = before (flush q (p ++ g)) x
resolved p (pending g r) = goes [] r (p ++ g)
resolved p (lost n) = leaves n

module _ {F P : Type 0} (earlier : List (Label F P)) (front mine mine' : List F) (ls ls' : List (Label F P))
    (n n' : ℕ) where
  -- "every frame stays"
  pub record AllStay : Type 0 where
    pub labels_stay : ls ≡ ls'
    pub count_stays : n ≡ n'

  -- "all other labels keep their frames, and in the label at hand all other elements keep theirs in order"; by `flush`
  -- its count is that of its elements, and "a label with no element left is not listed, and one that gains its first
  -- element is"
  pub record InLabel (q : P) (back : List F) : Type 0 where
    pub later : List (Label F P)
    pub old : ls ≡ earlier ++ (flush q (front ++ (mine ++ back)) ++ later)
    pub new : ls' ≡ earlier ++ (flush q (front ++ (mine' ++ back)) ++ later)
    pub count_stays : n ≡ n'

  -- "Pending elements at the end are counted in the same way"
  pub record AtEnd (back : List F) : Type 0 where
    pub old : ls ≡ earlier
    pub new : ls' ≡ earlier
    pub old_count : n ≡ length (front ++ (mine ++ back))
    pub new_count : n' ≡ length (front ++ (mine' ++ back))

  abbrev pub Told : {R : Type 0} → Fate R F P → Type 0
  Told (dropped x) = AllStay
  Told (printed back q x) = InLabel q back
  Told (pending back r) = AtEnd back
  Told (lost k) = ⊥

module _ (L : Language) (F : Type 0) (frame : List ℕ → L.E → F) where
  open L use {U, R, E, P, bytes, act}

  abbrev pub fate_by : (R → List F → Fate R F P) → List U → R → List F → U → Act R E P → Fate R F P
  fate_by go us r g u (keep r') = go r' g
  fate_by go us r g u (clear r') = dropped (run L F frame r' [] us)
  fate_by go us r g u (yield e) = go r (g ++ (frame (bytes u) e ∷ []))
  fate_by go us r g u (print q) = printed g q (run L F frame r [] us)
  fate_by go us r g u (outside n) = lost n

  -- what units make of the label at hand from the reference r on, g having been added so far
  abbrev pub fate : R → List F → List U → Fate R F P
  fate r g [] = pending g r
  fate r g (u ∷ us) = fate_by (λ r' g'. fate r' g' us) us r g u (act r u)

  abbrev pub yielded_by : U → Act R E P → List F
  yielded_by u (keep r) = []
  yielded_by u (clear r) = []
  yielded_by u (yield e) = frame (bytes u) e ∷ []
  yielded_by u (print q) = []
  yielded_by u (outside n) = []

  -- the frame of the element that a unit yields, or none
  abbrev pub yielded : R → U → List F
  yielded r u = yielded_by u (act r u)

  -- of two accepted strings with the labels ls and ls' and so many pending at the end, r being the fresh reference
  pub record Changed (r : R) (us : List U) (u u' : U) (vs : List U) (ls ls' : List (Label F P)) (n n' : ℕ)
      : Type 0 where
    -- the labels before the line, the reference there, and what is pending there
    pub earlier : List (Label F P)
    pub ref : R
    pub front : List F
    pub up_to_it : run L F frame r [] us ≡ goes earlier ref front
    -- the label at hand has these elements, what the line yields, and others; all else is the same
    pub told : Told earlier front (yielded ref u) (yielded ref u') ls ls' n n' (fate ref [] vs)
