-- A run over units: what follows changes it only through its own run, and the run of units one after the other is that
-- of the first, then that of the others. Assumes nothing.
use mathlib.Core.Path.{◌≡◌, refl, sym, ap, ◌∙◌}
use mathlib.Core.List.{List, [], ◌∷◌, ◌++◌, append_assoc}
use Prim.Native.Nat.{ℕ}
use native.Mathlib.Omega.{arith}
use lib.ListN.{length}
use Rattle.walk_theory.specs.Language.{Act, Language}
use Rattle.walk_theory.specs.Labels.{Label, labels, Run, goes, leaves, before, and_then, closed, effect, run}

-- ---- Run
module _ {R F P : Type 0} where
  pub leaves≢goes : {n : ℕ} {x : List (Label F P)} {r : R} {p : List F} → ◌≡◌ {A = Run R F P} (leaves n) (goes x r p) → ⊥
  leaves≢goes e = let z : ◌≡◌ {A = ℕ} 0 1 = cc in omega arith

  pub goes_inj : {x y : List (Label F P)} {r r' : R} {p p' : List F} → ◌≡◌ {A = Run R F P} (goes x r p) (goes y r' p') → (x ≡ y) × (r ≡ r') × (p ≡ p')
  goes_inj e = (cc, cc, cc)

  pub before_goes : (ls : List (Label F P)) (x : Run R F P) (ms : List (Label F P)) (r : R) (p : List F) → before ls x ≡ goes ms r p → (ks : List (Label F P)) × (x ≡ goes ks r p) × (ls ++ ks ≡ ms)
  before_goes ls (goes ks r' p') ms r p e = (ks, (let k : r' ≡ r = cc in let j : p' ≡ p = cc in cc), (goes_inj e).0)
  before_goes ls (leaves n) ms r p e = absurd (leaves≢goes e)

  -- labels that a run closes with are those that it goes with
  pub closed_goes : (x : Run R F P) (ls : List (Label F P)) (n : ℕ) → closed x ≡ labels ls n → (r : R) × (p : List F) × (x ≡ goes ls r p) × (length p ≡ n)
  closed_goes (goes ms r p) ls n e = (r, p, (let k : ms ≡ ls = cc in cc), cc)
  closed_goes (leaves k) ls n e = let z : ◌≡◌ {A = ℕ} 0 1 = cc in absurd (omega arith)

  pub before_nil : (x : Run R F P) → before [] x ≡ x
  before_nil (goes ms r p) = refl
  before_nil (leaves n) = refl

  pub before_before : (ls ms : List (Label F P)) (x : Run R F P) → before ls (before ms x) ≡ before (ls ++ ms) x
  before_before ls ms (goes ks r p) = ap (λ (x : List (Label F P)). goes x r p) (sym (append_assoc ls ms ks))
  before_before ls ms (leaves n) = refl

  pub and_then_before : (ls : List (Label F P)) (x : Run R F P) (go : R → List F → Run R F P) → and_then (before ls x) go ≡ before ls (and_then x go)
  and_then_before ls (goes ms r p) go = sym (before_before ls ms (go r p))
  and_then_before ls (leaves n) go = refl

module _ (L : Language) (F : Type 0) (frame : List ℕ → L.E → F) where
  open L use {U, R, E, P, act}

  -- what follows a unit changes its run only through its own
  pub follow : (u : U) (us vs : List U) (r : R) (p : List F) → ((r' : R) (p' : List F) → run L F frame r' p' us ≡ run L F frame r' p' vs) → run L F frame r p (u ∷ us) ≡ run L F frame r p (u ∷ vs)
  follow u us vs r p h = λ i. and_then (effect L F frame r p u (act r u)) (λ r' p'. h r' p' i)

  -- a unit by what it does
  pub run_act : (u : U) (us : List U) (r : R) (p : List F) (a : Act R E P) → act r u ≡ a → run L F frame r p (u ∷ us) ≡ and_then (effect L F frame r p u a) (λ r' p'. run L F frame r' p' us)
  run_act u us r p a h = ap (λ (x : Act R E P). and_then (effect L F frame r p u x) (λ r' p'. run L F frame r' p' us)) h

  -- units one after the other
  pub run_append : (us vs : List U) (r : R) (p : List F) → run L F frame r p (us ++ vs) ≡ and_then (run L F frame r p us) (λ r' p'. run L F frame r' p' vs)
  run_append [] vs r p = sym (before_nil (run L F frame r p vs))
  run_append (u ∷ us) vs r p = by (effect L F frame r p u (act r u)) (λ r' p'. run_append us vs r' p')
    where
      by : (ef : Run R F P) → ((r' : R) (p' : List F) → run L F frame r' p' (us ++ vs) ≡ and_then (run L F frame r' p' us) (λ r'' p''. run L F frame r'' p'' vs))
          → and_then ef (λ r' p'. run L F frame r' p' (us ++ vs)) ≡ and_then (and_then ef (λ r' p'. run L F frame r' p' us)) (λ r'' p''. run L F frame r'' p'' vs)
      by (goes ls r' p') again = ap (before ls) (again r' p') ∙ sym (and_then_before ls (run L F frame r' p' us) (λ r'' p''. run L F frame r'' p'' vs))
      by (leaves n) again = refl

  -- a run that goes, and then another
  pub run_goes : (us vs : List U) (r : R) (p : List F) {r' : R} {p' : List F} {ls : List (Label F P)} → run L F frame r p us ≡ goes ls r' p' → run L F frame r p (us ++ vs) ≡ before ls (run L F frame r' p' vs)
  run_goes us vs r p e = run_append us vs r p ∙ ap (λ (x : Run R F P). and_then x (λ r'' p''. run L F frame r'' p'' vs)) e
