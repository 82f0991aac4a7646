-- A list that is filled in a loop, one element a turn, by a walk over the input:
--     let mut c = start;
--     let mut i: usize = 0;
--     while i < n { c = step(c); xs[i] = of(c); i = i + 1; }
-- Where a turn begins, n - i elements are still to come, and once they are stored at i the list is what it is to be. So
-- an invariant is `sets xs i (made step of (n - i) c) ≡ made step of n start ++ drop n (the list as it came)`.
--     length_made      a walk of n steps makes n elements
--     from_front       elements that are stored from the front
--     none_stored      the invariant before the first turn
--     one_stored       after a turn, which stores the first of the elements that are to come
--     all_stored       after the last turn: nothing is to come
-- Assumes nothing.
use Rattle.std.proofs.Common.{◌≡◌, refl, ◌∙◌, ap, ℕ, zero, suc, ◌+◌, ◌-◌, ◌<◌, ◌≤◌, List, ◌++◌, length, drop, arith}
use Rattle.std.proofs.Math.ListN.{set}
use Rattle.std.proofs.lemmas.List.Edits.{sets, sets-eq}
use Rattle.lent_lists.specs.Filled.{made}

pub length_made : {C E : Type 0} (step : C → C) (of : C → E) (n : ℕ) (c : C) → length (made step of n c) ≡ n
length_made step of zero c = refl
length_made step of (suc n) c = ap suc (length_made step of n (step c))

pub from_front : {E : Type 0} (vs l : List E) (n : ℕ) → length vs ≡ n → n ≤ length l → sets l 0 vs ≡ vs ++ drop n l
from_front vs l n e h =
    let k : 0 + length vs ≡ n = omega (arith, e) in
    sets-eq vs l 0 (omega (arith, e, h)) ∙ ap (λ (m : ℕ). vs ++ drop m l) k

module _ {C E : Type 0} (step : C → C) (of : C → E) where
  pub none_stored : (l : List E) (n : ℕ) (c : C) → n ≤ length l → sets l 0 (made step of (n - 0) c) ≡ made step of n c ++ drop n l
  none_stored l n c h =
      let k : n - 0 ≡ n = omega arith in
      ap (λ (m : ℕ). sets l 0 (made step of m c)) k ∙ from_front (made step of n c) l n (length_made step of n c) h

  pub one_stored : (l w : List E) (i n : ℕ) (c d : C) (v : E) → sets l i (made step of (n - i) c) ≡ w → i < n → d ≡ step c → v ≡ of d → sets (set l i v) (i + 1) (made step of (n - (i + 1)) d) ≡ w
  one_stored l w i n c d v e h stepped shown =
      let k : suc (n - (i + 1)) ≡ n - i = omega (arith, h) in
      let s : i + 1 ≡ suc i = omega arith in
      (λ ι. sets (set l i ((shown ∙ ap of stepped) ι)) (s ι) (made step of (n - (i + 1)) (stepped ι))) ∙ ap (λ (m : ℕ). sets l i (made step of m c)) k ∙ e

  pub all_stored : (l w : List E) (i n : ℕ) (c : C) → sets l i (made step of (n - i) c) ≡ w → n ≤ i → l ≡ w
  all_stored l w i n c e h =
      let k : 0 ≡ n - i = omega (arith, h) in
      ap (λ (m : ℕ). sets l i (made step of m c)) k ∙ e
