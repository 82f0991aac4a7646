-- Two accepted strings joined: the joined text divides, with the labels and the blocks of both
-- (01, "Joining two files"). Assumes nothing.
use mathlib.Core.Path.{◌≡◌, refl, sym, ap, subst, ◌∙◌}
use mathlib.Core.List.{List, [], ◌∷◌, ◌++◌}
use Prim.Native.Nat.{ℕ}
use Rattle.walk_theory.specs.Language.{Language, clear}
use Rattle.walk_theory.specs.Division.{Division, more, Reads}
use Rattle.walk_theory.specs.Labels.{Label, labels, closed, run, before, labels_of, Divides}
use Rattle.walk_theory.specs.Normal.{each, Normalises}
use Rattle.walk_theory.specs.Claims.{Local}
use Rattle.walk_theory.specs.Join.{Clearing, joined, Joins}
use Rattle.walk_theory.proofs.DivisionLaws.{unique}
use Rattle.walk_theory.proofs.RunLaws.{closed_goes, run_goes, run_act, before_nil}
use Rattle.walk_theory.proofs.SolidLaws.{each_append, in_front}
use Rattle.walk_theory.proofs.OutcomeLaws.{divides→listed}
use Rattle.walk_theory.proofs.Again.{by_units, solid_all, normal_divides, run_same, blocks_same}

module _ (L : Language) (reads : Reads L) (F : Type 0) (frame : List ℕ → L.E → F) (local : Local L F frame)
    (normalised : List ℕ → List ℕ) (blocks : L.U → List (List ℕ)) (normal : L.U → List L.U) (law : Normalises L F frame normalised blocks normal)
    (r : L.R) (n : L.U) (line : Clearing L blocks r n) where
  open L use {U, R, P, bytes}

  abbrev both : List U → List U → List U
  both us vs = each normal us ++ n ∷ each normal vs

  both_divides : {s t : List ℕ} {us vs : List U} → Division L s us → Division L t vs → Division L (joined L normalised n s t) (both us vs)
  both_divides {s} {t} {us} {vs} d e =
      subst (λ (x : List ℕ). Division L (x ++ (bytes n ++ normalised t)) (both us vs)) (sym (by_units L F frame normalised blocks normal law d))
      (in_front L (solid_all L F frame normalised blocks normal law d) (more refl (line.stands (normalised t)) (normal_divides L F frame normalised blocks normal law e)))

  -- the run over both: that of the first, then that of the second from the fresh reference with nothing pending
  both_run : (us vs : List U) (ls ms : List (Label F P)) (m k : ℕ) → labels_of L F frame r [] us ≡ labels ls m → labels_of L F frame r [] vs ≡ labels ms k → labels_of L F frame r [] (both us vs) ≡ labels (ls ++ ms) k
  both_run us vs ls ms m k p q =
      let same = run_same L F frame normalised blocks normal law in
      let g = closed_goes (run L F frame r [] us) ls m p in
      let h = closed_goes (run L F frame r [] vs) ms k q in
      ap closed (
      run_goes L F frame (each normal us) (n ∷ each normal vs) r [] (same us r [] ∙ g.2)
      ∙ ap (before ls) (run_act L F frame n (each normal vs) g.0 g.1 (clear r) (line.clears g.0) ∙ before_nil (run L F frame r [] (each normal vs)) ∙ same vs r [] ∙ h.2)
      ) ∙ ap (labels (ls ++ ms)) h.3

  both_blocks : (us vs : List U) → each blocks (both us vs) ≡ each blocks us ++ each blocks vs
  both_blocks us vs =
      let same = blocks_same L F frame normalised blocks normal law in
      each_append blocks (each normal us) (n ∷ each normal vs)
      ∙ ap (λ (x : List (List ℕ)). x ++ (blocks n ++ each blocks (each normal vs))) (same us)
      ∙ ap (λ (x : List (List ℕ)). each blocks us ++ (x ++ each blocks (each normal vs))) line.no_block
      ∙ ap (λ (x : List (List ℕ)). each blocks us ++ x) (same vs)

  pub joins : (s t : List ℕ) (ls ms : List (Label F P)) (m k : ℕ) → Divides L F frame s r ls m → Divides L F frame t r ms k → Joins L F frame normalised n r blocks s t ls ms k
  joins s t ls ms m k d e =
      let a = both_divides d.division e.division in
      let w : Divides L F frame (joined L normalised n s t) r (ls ++ ms) k = record { units = both d.units e.units; division = a; range = both_run d.units e.units ls ms m k d.range e.range } in
      record {
        divides = w;
        lists = λ short. divides→listed L reads F frame local (joined L normalised n s t) short r (ls ++ ms) k w;
        blocks_of_both = λ us vs ws x y z. ap (each blocks) (unique L reads refl z (both_divides x y)) ∙ both_blocks us vs;
      }
