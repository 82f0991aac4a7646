-- A division has labels exactly where every unit's numbers fit at the reference that stands there (`InRange`); they are
-- those that the roles of its units say (`labels_by`), and so is the count pending at its end (`pending_by`):
-- `in_range_labels`, `labels_in_range`. Refusals are in DividedEarliestLaws. Assumes nothing.
use mathlib.Core.Path.{◌≡◌, refl, sym, ap, ◌∙◌}
use mathlib.Core.List.{List, [], ◌∷◌, ◌++◌}
use mathlib.Core.Logic.{◌⊎◌, inl, inr}
use Prim.Native.Nat.{ℕ}
use native.Mathlib.Omega.{arith}
use lib.ListN.{length, length-append}
use Rattle.elements.specs.declared.LabelElement.{LabelElement}
use Rattle.elements.specs.declared.LabelPosition.{LabelPosition}
use Rattle.walk_theory.specs.Division.{Division, done, more}
use Rattle.walk_theory.specs.Labels.{Label, Labels, labels, out, Run, goes, leaves, before, and_then, closed, effect, run, labels_of}
use Rattle.grammar.specs.Units.{EplUnit, bytes}
use Rattle.grammar.specs.Epl.{EplPrint, EplAct, acts, epl}
use Rattle.grammar.specs.Ranges.{ref_after, InRange, Role, passes, clears, yields, prints, role_of, Does}
use Rattle.grammar.specs.Divided.{yielded_by, pending_after, printed_by, labels_by, count_after, pending_by}
use Rattle.grammar.proofs.RangesLaws.{beyond_unfit, ActsAs, acts_unit}

module _ (F : Type 0) (frame : List ℕ → LabelElement → F) where
  abbrev EplRun : Type 0
  EplRun = Run LabelPosition F EplPrint

  -- ---- one unit
  pub role_goes : (k : Role) (r q : LabelPosition) (p : List F) (u : EplUnit) (a : EplAct) → Does k r q a
      → effect epl F frame r p u a ≡ goes (printed_by frame k p) q (pending_after frame k p (yielded_by frame u a))
  role_goes passes r q p u a d = rw d
  role_goes clears r q p u a d = rw d
  role_goes yields r q p u a d = rw (d.1, d.2)
  role_goes (prints c) r q p u a d = rw (d.0, d.1)

  role_counts : (k : Role) (r q : LabelPosition) (p : List F) (u : EplUnit) (a : EplAct) → Does k r q a
      → length (pending_after frame k p (yielded_by frame u a)) ≡ count_after k (length p)
  role_counts passes r q p u a d = refl
  role_counts clears r q p u a d = refl
  role_counts yields r q p u a d = rw d.1 (omega (arith, length-append p (frame (bytes u) d.0 ∷ [])))
  role_counts (prints c) r q p u a d = refl

  -- ---- a division
  out≢labels : {x : List (Label F EplPrint)} {n : ℕ} → ◌≡◌ {A = Labels F EplPrint} out (labels x n) → ⊥
  out≢labels e = let z : ◌≡◌ {A = ℕ} 0 1 = cc in omega arith

  same_labels : {x y : List (Label F EplPrint)} {m n : ℕ} → ◌≡◌ {A = Labels F EplPrint} (labels x m) (labels y n) → (x ≡ y) × (m ≡ n)
  same_labels e = (cc, cc)

  closed_before : (ls : List (Label F EplPrint)) (x : EplRun) (ms : List (Label F EplPrint)) (n : ℕ) → closed x ≡ labels ms n → closed (before ls x) ≡ labels (ls ++ ms) n
  closed_before ls (goes ks r p) ms n e = let k = same_labels e in λ i. labels (ls ++ k.0 i) (k.1 i)
  closed_before ls (leaves k) ms n e = absurd (out≢labels e)

  -- the labels and the count by the units' roles, or a run that leaves the range
  abbrev Decided : LabelPosition → List F → List EplUnit → Type 0
  Decided r p us = (InRange r us × (labels_of epl F frame r p us ≡ labels (labels_by frame r p us) (pending_by (length p) us))) ⊎ ((InRange r us → ⊥) × (n : ℕ) × (run epl F frame r p us ≡ leaves n))

  decided : {s : List ℕ} {us : List EplUnit} → Division epl s us → (r : LabelPosition) (p : List F) → Decided r p us
  decided done r p = inl (tt, refl)
  decided (more {u} {us} {s} {rest} e st d) r p = by (acts_unit r u rest st) (decided d (ref_after r u))
    where
      by : ActsAs r u → ((p' : List F) → Decided (ref_after r u) p' us) → Decided r p (u ∷ us)
      by (inr h) again = inr ((λ i. beyond_unfit r u h.1 i.0), h.0, ap (λ (a : EplAct). and_then (effect epl F frame r p u a) (λ r' p'. run epl F frame r' p' us)) h.2)
      by (inl h) again = on (again after)
        where
          after : List F
          after = pending_after frame (role_of u) p (yielded_by frame u (acts r u))

          ls : List (Label F EplPrint)
          ls = printed_by frame (role_of u) p

          step : run epl F frame r p (u ∷ us) ≡ before ls (run epl F frame (ref_after r u) after us)
          step = ap (λ (x : EplRun). and_then x (λ r' p'. run epl F frame r' p' us)) (role_goes (role_of u) r (ref_after r u) p u (acts r u) h.1)

          counts : length after ≡ count_after (role_of u) (length p)
          counts = role_counts (role_of u) r (ref_after r u) p u (acts r u) h.1

          on : Decided (ref_after r u) after us → Decided r p (u ∷ us)
          on (inl i) =
              inl ((h.0, i.0), ap closed step ∙ closed_before ls (run epl F frame (ref_after r u) after us) (labels_by frame (ref_after r u) after us) (pending_by (length after) us) i.1 ∙ ap (λ (n : ℕ). labels (labels_by frame r p (u ∷ us)) (pending_by n us)) counts)
          on (inr i) = inr ((λ k. i.0 k.1), i.1, step ∙ ap (before ls) i.2)

  module _ {s : List ℕ} {us : List EplUnit} (d : Division epl s us) (r : LabelPosition) (p : List F) where
    -- a division in range has the labels and the count that its units' roles say
    pub in_range_labels : InRange r us → labels_of epl F frame r p us ≡ labels (labels_by frame r p us) (pending_by (length p) us)
    in_range_labels i = by (decided d r p)
      where
        by : Decided r p us → labels_of epl F frame r p us ≡ labels (labels_by frame r p us) (pending_by (length p) us)
        by (inl h) = h.1
        by (inr h) = absurd (h.0 i)

    -- a division that is not in range has no labels
    pub labels_in_range : (ls : List (Label F EplPrint)) (n : ℕ) → labels_of epl F frame r p us ≡ labels ls n → InRange r us × (labels_by frame r p us ≡ ls) × (pending_by (length p) us ≡ n)
    labels_in_range ls n e = by (decided d r p)
      where
        by : Decided r p us → InRange r us × (labels_by frame r p us ≡ ls) × (pending_by (length p) us ≡ n)
        by (inl h) = let k = same_labels (sym h.1 ∙ e) in (h.0, k.0, k.1)
        by (inr h) = absurd (out≢labels (sym (ap closed h.2) ∙ e))
