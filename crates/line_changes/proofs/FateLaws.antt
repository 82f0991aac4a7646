-- Units in range by their roles (`Doing`): the run over them (`run_by`), and what they make of the label at hand
-- (`fate_between`, `fate_clear`, `fate_print`). Assumes nothing.
use mathlib.Core.Path.{◌≡◌, refl, ap, subst, ◌∙◌}
use mathlib.Core.List.{List, [], ◌∷◌, ◌++◌}
use Prim.Native.Nat.{ℕ}
use Rattle.elements.specs.declared.LabelElement.{LabelElement}
use Rattle.elements.specs.declared.LabelPosition.{LabelPosition}
use Rattle.walk_theory.specs.Language.{keep, clear, yield, print, outside}
use Rattle.walk_theory.specs.Division.{Division, done, more}
use Rattle.walk_theory.specs.Labels.{Run, goes, before, and_then, run}
use Rattle.walk_theory.specs.Change as change
use Rattle.walk_theory.specs.Change.{Fate, dropped, printed, fate_by, fate}
use Rattle.grammar.specs.Units.{EplUnit}
use Rattle.grammar.specs.Epl.{EplPrint, EplAct, acts, epl}
use Rattle.grammar.specs.Ranges.{ref_after, InRange, Role, passes, clears, yields, prints, role_of, Does}
use Rattle.grammar.specs.Divided.{yielded_by, pending_after, printed_by, labels_by}
use Rattle.grammar.proofs.RangesLaws.{in_range}
use Rattle.grammar.proofs.DividedLabelsLaws.{role_goes}
use Rattle.line_changes.specs.OneLine.{Quiet, Is, Between, says_of, ref_by, pending_in}
use Rattle.command_letters.specs.declared.command.Command.TheVariants.{Clear, Print}
use Rattle.line_changes.proofs.LineLaws.{not_clears, not_prints, between_role, clear_role, print_role}

-- each unit does what its role says, from the reference r on
abbrev pub Doing : LabelPosition → List EplUnit → Type 0
Doing r [] = Unit
Doing r (u ∷ us) = Does (role_of u) r (ref_after r u) (acts r u) × Doing (ref_after r u) us

pub doing : {s : List ℕ} {us : List EplUnit} → Division epl s us → (r : LabelPosition) → InRange r us → Doing r us
doing done r i = tt
doing (more {u} {us} {s} {rest} e st d) r i = (in_range r u rest st i.0, doing d (ref_after r u) i.1)

pub doing_append : (us vs : List EplUnit) (r : LabelPosition) → Doing r (us ++ vs) → Doing r us × Doing (ref_by r us) vs
doing_append [] vs r d = (tt, d)
doing_append (u ∷ us) vs r d = let k = doing_append us vs (ref_after r u) d.1 in ((d.0, k.0), k.1)

module _ (F : Type 0) (frame : List ℕ → LabelElement → F) where
  abbrev EplRun : Type 0
  EplRun = Run LabelPosition F EplPrint

  abbrev EplFate : Type 0
  EplFate = Fate LabelPosition F EplPrint

  -- the run over units, by their roles
  pub run_by : (us : List EplUnit) (r : LabelPosition) (p : List F) → Doing r us → run epl F frame r p us ≡ goes (labels_by frame r p us) (ref_by r us) (pending_in frame r p us)
  run_by [] r p d = refl
  run_by (u ∷ us) r p d =
      ap (λ (x : EplRun). and_then x (λ r' p'. run epl F frame r' p' us)) (role_goes F frame (role_of u) r (ref_after r u) p u (acts r u) d.0)
      ∙ ap (before (printed_by frame (role_of u) p)) (run_by us (ref_after r u) (pending_after frame (role_of u) p (yielded_by frame u (acts r u))) d.1)

  -- one unit, by its role; `go` says what those behind it make of the label
  module _ (go : LabelPosition → List F → EplFate) (us : List EplUnit) (r q : LabelPosition) (g : List F) (u : EplUnit) (a : EplAct) where
    quiet_fate : (k : Role) → Quiet k → Does k r q a → fate_by epl F frame go us r g u a ≡ go q (pending_after frame k g (yielded_by frame u a))
    quiet_fate passes h d = rw d
    quiet_fate yields h d = rw (d.1, d.2)
    quiet_fate clears h d = absurd (not_clears h)
    quiet_fate (prints s) h d = absurd (not_prints h)

  -- units between the line and the next `N` or print line, before others
  pub fate_between : (us vs : List EplUnit) (r : LabelPosition) (g : List F) → Between us → Doing r us → fate epl F frame r g (us ++ vs) ≡ fate epl F frame (ref_by r us) (pending_in frame r g us) vs
  fate_between [] vs r g b d = refl
  fate_between (u ∷ us) vs r g b d =
      quiet_fate (λ r' g'. fate epl F frame r' g' (us ++ vs)) (us ++ vs) r (ref_after r u) g u (acts r u) (role_of u) (between_role u b.0 b.1) d.0
      ∙ fate_between us vs (ref_after r u) (pending_after frame (role_of u) g (yielded_by frame u (acts r u))) b.2 d.1

  -- an `N`, a print line
  module _ (us : List EplUnit) (r : LabelPosition) (g : List F) (c : EplUnit) (d : Does (role_of c) r (ref_after r c) (acts r c)) where
    pub fate_clear : Is Clear c → fate epl F frame r g (c ∷ us) ≡ dropped (run epl F frame (ref_after r c) [] us)
    fate_clear i = ap (fate_by epl F frame (λ r' g'. fate epl F frame r' g' us) us r g c) (subst (λ (k : Role). Does k r (ref_after r c) (acts r c)) (clear_role c i) d)

    pub fate_print : Is Print c → fate epl F frame r g (c ∷ us) ≡ printed g (says_of c) (run epl F frame r [] us)
    fate_print i = ap (fate_by epl F frame (λ r' g'. fate epl F frame r' g' us) us r g c) (subst (λ (k : Role). Does k r (ref_after r c) (acts r c)) (print_role c i) d).0

  -- what a unit yields, in the theory's words and in the grammar's
  pub yielded_is : (u : EplUnit) (a : EplAct) → change.yielded_by epl F frame u a ≡ yielded_by frame u a
  yielded_is u (keep r) = refl
  yielded_is u (clear r) = refl
  yielded_is u (yield e) = refl
  yielded_is u (print q) = refl
  yielded_is u (outside n) = refl
