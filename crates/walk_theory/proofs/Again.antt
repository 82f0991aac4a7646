-- Normalised text: it divides, with the same labels and blocks, and normalising it again changes nothing. Assumes
-- nothing.
use mathlib.Core.Path.{◌≡◌, refl, sym, ap, subst, ◌∙◌}
use mathlib.Core.List.{List, [], ◌∷◌, ◌++◌}
use Prim.Native.Nat.{ℕ, ◌+◌, ◌/◌, ◌≤◌}
use native.Mathlib.Omega.{arith}
use lib.ListN.{length, length-append}
use Rattle.walk_theory.specs.Normal.{each, Solid, none_left, Grows, no_longer, by_block, by_last, Normalises, Normal}
use Rattle.walk_theory.specs.Language.{Language}
use Rattle.walk_theory.specs.Division.{Division, done, more}
use Rattle.walk_theory.specs.Labels.{closed, run}
use Rattle.walk_theory.proofs.RunLaws.{follow}
use Rattle.walk_theory.proofs.SolidLaws.{each_append, solid_append, solid_divides}

module _ (L : Language) (F : Type 0) (frame : List ℕ → L.E → F) (normalised : List ℕ → List ℕ) (blocks : L.U → List (List ℕ)) (normal : L.U → List L.U) (law : Normalises L F frame normalised blocks normal) where
  open L use {U, R, bytes}

  -- the normaliser writes the units' normal forms, one after the other
  pub by_units : {s : List ℕ} {us : List U} → Division L s us → normalised s ≡ each bytes (each normal us)
  by_units done = law.at_end
  by_units (more {u} {us} {s} {rest} e st d) =
      ap normalised e ∙ law.at_unit u rest st ∙ ap (λ (x : List ℕ). each bytes (normal u) ++ x) (by_units d) ∙ sym (each_append bytes (normal u) (each normal us))

  pub solid_all : {s : List ℕ} {us : List U} → Division L s us → Solid L (each normal us)
  solid_all done = none_left
  solid_all (more {u} {us} {s} {rest} e st d) = solid_append L (law.solid u rest st) (solid_all d)

  pub normal_divides : {s : List ℕ} {us : List U} → Division L s us → Division L (normalised s) (each normal us)
  normal_divides {s} {us} d = subst (λ (x : List ℕ). Division L x (each normal us)) (sym (by_units d)) (solid_divides L (solid_all d))

  pub run_same : (us : List U) (r : R) (p : List F) → run L F frame r p (each normal us) ≡ run L F frame r p us
  run_same [] r p = refl
  run_same (u ∷ us) r p = law.same_run u (each normal us) r p ∙ follow L F frame u (each normal us) us r p (λ r' p'. run_same us r' p')

  pub blocks_same : (us : List U) → each blocks (each normal us) ≡ each blocks us
  blocks_same [] = refl
  blocks_same (u ∷ us) = each_append blocks (normal u) (each normal us) ∙ ap (λ (x : List (List ℕ)). x ++ each blocks (each normal us)) (law.same_blocks u) ∙ ap (λ (x : List (List ℕ)). blocks u ++ x) (blocks_same us)

  settled_all : (us : List U) → each normal (each normal us) ≡ each normal us
  settled_all [] = refl
  settled_all (u ∷ us) = each_append normal (normal u) (each normal us) ∙ ap (λ (x : List U). x ++ each normal (each normal us)) (law.settled u) ∙ ap (λ (x : List U). normal u ++ x) (settled_all us)

  again : {s : List ℕ} {us : List U} → Division L s us → normalised (normalised s) ≡ normalised s
  again {s} {us} d = by_units (normal_divides d) ∙ ap (each bytes) (settled_all us) ∙ sym (by_units d)

  -- the normalised text of a divided string of n bytes has at most n + n / 6 + 1 bytes
  size : {s : List ℕ} {us : List U} → Division L s us → length (normalised s) ≤ length s + length s / 6 + 1
  size done = omega (arith, ap length law.at_end)
  size (more {u} {us} {s} {rest} e st d) = go (size d) (law.grows u rest st)
    where
      n : length (normalised s) ≡ length (each bytes (normal u)) + length (normalised rest)
      n = ap length (ap normalised e ∙ law.at_unit u rest st) ∙ length-append (each bytes (normal u)) (normalised rest)

      m : length s ≡ length (bytes u) + length rest
      m = ap length e ∙ length-append (bytes u) rest

      go : length (normalised rest) ≤ length rest + length rest / 6 + 1 → Grows (length (bytes u)) (length (each bytes (normal u))) rest → length (normalised s) ≤ length s + length s / 6 + 1
      go i (no_longer h) = omega (arith, n, m)
      go i (by_block h six) = omega (arith, n, m)
      go i (by_last h end) = omega (arith, n, m, ap length (ap normalised end ∙ law.at_end))

  pub normal_text : (r : R) {s : List ℕ} {us : List U} → Division L s us → Normal L F frame normalised blocks r s us
  normal_text r {s} {us} d = record {
    vs = each normal us;
    division = normal_divides d;
    same_labels = ap closed (run_same us r []);
    same_blocks = blocks_same us;
    again = again d;
    size = size d;
  }
