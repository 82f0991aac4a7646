-- A string is its front and what follows it (`front_drop`, `front_all`), and where a front ends (`drop_stops`,
-- `drop_passes`). Assumes nothing.
use mathlib.Core.Path.{◌≡◌, refl, sym, ap, ◌∙◌}
use mathlib.Core.Bool.{Bool, false}
use mathlib.Core.List.{List, [], ◌∷◌, ◌++◌, append-nil}
use Prim.Native.Nat.{ℕ}
use native.Mathlib.Omega.{arith}
use lib.ListN.{length}
use Rattle.text.specs.Blank.{drop_while, front}
use Rattle.text.proofs.BoolLaws.{test}
use Rattle.grammar.specs.Units.{All, all_nil, all_cons}

module _ (p : ℕ → Bool) where
  pub front_drop : (s : List ℕ) → front p s ++ drop_while p s ≡ s
  front_drop [] = refl
  front_drop (b ∷ s) = test (p b) (λ e. simp (e, front_drop s)) (λ e. simp e)

  pub front_all : (s : List ℕ) → All p (front p s)
  front_all [] = all_nil
  front_all (b ∷ s) = test (p b) (λ e. simp e (all_cons e (front_all s))) (λ e. simp e all_nil)

  -- what follows the front begins with a byte that p doesn't take
  pub drop_stops : (s : List ℕ) (b : ℕ) (t : List ℕ) → drop_while p s ≡ b ∷ t → p b ≡ false
  drop_stops [] b t h = absurd (let z = ap length h in omega arith)
  drop_stops (a ∷ s) b t h =
      test (p a)
      (λ e. drop_stops s b t (simp e at h))
      (λ e. let j : a ∷ s ≡ b ∷ t = simp e at h in let k : b ≡ a = cc in rw k e)

  front_passes : {s : List ℕ} (t : List ℕ) → All p s → front p (s ++ t) ≡ s ++ front p t
  front_passes t all_nil = refl
  front_passes t (all_cons h a) = simp (h, front_passes t a)

  pub drop_passes : {s : List ℕ} (t : List ℕ) → All p s → drop_while p (s ++ t) ≡ drop_while p t
  drop_passes t all_nil = refl
  drop_passes t (all_cons h a) = simp (h, drop_passes t a)

  -- a front that goes to the end, or to a byte that p doesn't take
  module _ (s : List ℕ) (a : All p s) where
    pub front_whole : front p s ≡ s
    front_whole = ap (front p) (sym (append-nil s)) ∙ front_passes [] a ∙ append-nil s

    pub drop_whole : drop_while p s ≡ []
    drop_whole = ap (drop_while p) (sym (append-nil s)) ∙ drop_passes [] a

    module _ (b : ℕ) (t : List ℕ) (h : p b ≡ false) where
      pub front_stop : front p (s ++ b ∷ t) ≡ s
      front_stop = front_passes (b ∷ t) a ∙ simp (h, append-nil)

      pub drop_stop : drop_while p (s ++ b ∷ t) ≡ b ∷ t
      drop_stop = drop_passes (b ∷ t) a ∙ simp h
