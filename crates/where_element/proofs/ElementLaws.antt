-- The first of the least numbers in a list.
-- Assumes nothing.
use mathlib.Core.Path.{◌≡◌, refl, sym, ap, ◌∙◌}
use mathlib.Core.List.{List, [], ◌∷◌, ◌++◌, append_assoc, append-nil}
use Prim.Native.Nat.{ℕ, suc, ◌<◌, ◌≤◌}
use native.Mathlib.Omega.{arith}
use lib.Dec.{ltb}
use lib.ListN.{length, get_or, length-append, get_or-append}
use lib.Seq.{get_or-append_seam}
use borrow.Author.Tests.{ltb-true, ltb-false}
use Rattle.text.proofs.BoolLaws.{test}
use Rattle.elements.specs.declared.LabelElement.{LabelElement}
use Rattle.elements.specs.declared.LabelPosition.{LabelPosition}
use Rattle.where_element.specs.Place.{distance}
use Rattle.where_element.specs.Element.{position_of, least_from, least_at, distances, nearest_of, FirstLeast}

-- ---- the first of the least numbers

last_or : {P : Type 0} (j n : ℕ) → j < suc n → (j < n → P) → (j ≡ n → P) → P
last_or j n h f g = test (ltb j n) (λ e. f (ltb-true j n e)) (λ e. g (omega (arith, ltb-false j n e)))

-- one number more behind those that were looked at
module _ (ys : List ℕ) (x : ℕ) where
  old : (j : ℕ) → j < length ys → get_or (ys ++ x ∷ []) j 0 ≡ get_or ys j 0
  old j h = get_or-append ys (x ∷ []) 0 j h

  new : get_or (ys ++ x ∷ []) (length ys) 0 ≡ x
  new = get_or-append_seam ys x [] 0

  long : length (ys ++ x ∷ []) ≡ suc (length ys)
  long = length-append ys (x ∷ []) ∙ omega arith

  at_last : (j : ℕ) → j ≡ length ys → get_or (ys ++ x ∷ []) j 0 ≡ x
  at_last j e = ap (λ (i : ℕ). get_or (ys ++ x ∷ []) i 0) e ∙ new

  least_new : (k : ℕ) → FirstLeast ys k → x < get_or ys k 0 → FirstLeast (ys ++ x ∷ []) (length ys)
  least_new k f l =
      record {
        within = omega (arith, long);
        least = λ j h. last_or j (length ys) (omega (arith, long)) (λ p. omega (arith, new, old j p, f.least j p)) (λ p. omega (arith, new, at_last j p));
        first = λ j h. omega (arith, new, old j h, f.least j h);
      }

  least_old : (k : ℕ) → FirstLeast ys k → get_or ys k 0 ≤ x → FirstLeast (ys ++ x ∷ []) k
  least_old k f l =
      record {
        within = omega (arith, long, f.within);
        least = λ j h. last_or j (length ys) (omega (arith, long)) (λ p. omega (arith, old k f.within, old j p, f.least j p)) (λ p. omega (arith, old k f.within, at_last j p));
        first = λ j h. omega (arith, old k f.within, old j (omega (arith, f.within)), f.first j h);
      }

pub least_from_lem : (xs ys : List ℕ) (n k d : ℕ) → n ≡ length ys → d ≡ get_or ys k 0 → FirstLeast ys k → FirstLeast (ys ++ xs) (least_from n k d xs)
least_from_lem [] ys n k d p q f = rw append-nil f
least_from_lem (x ∷ xs) ys n k d p q f =
    rw (← append_assoc ys (x ∷ []) xs)
    (test (ltb x d)
    (λ e.
    let l = ltb-true x d e in
    let g : FirstLeast (ys ++ x ∷ []) n = rw p (least_new ys x k f (omega arith)) in
    simp e (least_from_lem xs (ys ++ x ∷ []) (suc n) n x (ap suc p ∙ sym (long ys x)) (sym (at_last ys x n p)) g))
    (λ e.
    let l = ltb-false x d e in
    let g : FirstLeast (ys ++ x ∷ []) k = least_old ys x k f (omega arith) in
    simp e (least_from_lem xs (ys ++ x ∷ []) (suc n) k d (ap suc p ∙ sym (long ys x)) (q ∙ sym (old ys x k f.within)) g)))

pub least_at_lem : (x : ℕ) (xs : List ℕ) → FirstLeast (x ∷ xs) (least_at (x ∷ xs))
least_at_lem x xs =
    least_from_lem xs (x ∷ []) 1 0 x refl refl
    (record { within = omega arith; least = λ j h. omega (arith, ap (λ (i : ℕ). get_or (x ∷ []) i 0) (only j h)); first = λ j h. absurd (omega arith) })
  where
    only : (j : ℕ) → j < 1 → j ≡ 0
    only j h = omega arith

-- THE NEAREST: the first of the elements with the least distance, and no other
pub nearest_is : (q : LabelPosition) (e : LabelElement) (es : List LabelElement) → FirstLeast (distances q (e ∷ es)) (nearest_of q (e ∷ es))
nearest_is q e es = least_at_lem (distance (position_of e) q) (distances q es)

pub first_least_one : (ds : List ℕ) (k l : ℕ) → FirstLeast ds k → FirstLeast ds l → k ≡ l
first_least_one ds k l f g =
    test (ltb k l)
    (λ e. let h = ltb-true k l e in absurd (omega (arith, g.first k h, f.least l g.within)))
    (λ e. test (ltb l k)
    (λ i. let h = ltb-true l k i in absurd (omega (arith, f.first l h, g.least k f.within)))
    (λ i. omega (arith, ltb-false k l e, ltb-false l k i)))
