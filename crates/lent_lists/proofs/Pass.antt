-- A list that is passed in a loop from the front, with what is carried along:
--     let mut y = start;
--     let mut i: usize = 0;
--     while i < xs.len() { y = turn(xs[i], y); i = i + 1; }
-- Where a turn begins, passing the elements that are still to come from here is passing all of them from the start: an
-- invariant of it is `(z : Y) → Passes Turn (drop i xs) y z → Passes Turn xs start z`.
--     pass_one         the element at i has its turn
--     pass_none        nothing is to come
--     passed_one, passed_all       the same along the invariant: after a turn, and after the last one
-- Assumes nothing.
use Rattle.std.proofs.Common.{refl, sym, subst, ℕ, suc, ◌+◌, ◌<◌, ◌≤◌, List, length, get_or, drop, add-one}
use Rattle.std.proofs.Math.Seq.{drop-cons}
use lib.ListN.{drop_of_length-le}
use Rattle.lent_lists.specs.Passed.{Passes}

module _ {X Y : Type 0} (Turn : X → Y → Y → Type 0) (l : List X) (i : ℕ) where
  -- the element at i has its turn
  pub pass_one : (d : X) (y w : Y) → i < length l → Turn (get_or l i d) y w → (z : Y) → Passes Turn (drop (suc i) l) w z → Passes Turn (drop i l) y z
  pass_one d y w h e z p = subst (λ (m : List X). Passes Turn m y z) (sym (drop-cons l i d h)) (w, (e, p))

  pub pass_none : (y : Y) → length l ≤ i → Passes Turn (drop i l) y y
  pass_none y h = subst (λ (m : List X). Passes Turn m y y) (sym (drop_of_length-le l h)) refl

  -- from a state from which the rest is passed as the whole is from the start
  abbrev pub Rest : Y → Y → Type 0
  Rest s y = (z : Y) → Passes Turn (drop i l) y z → Passes Turn l s z

  pub passed_one : (d : X) (s y w : Y) → Rest s y → i < length l → Turn (get_or l i d) y w → (z : Y) → Passes Turn (drop (i + 1) l) w z → Passes Turn l s z
  passed_one d s y w r h e z p = r z (pass_one d y w h e z (subst (λ (k : ℕ). Passes Turn (drop k l) w z) (add-one i) p))

  pub passed_all : (s y : Y) → Rest s y → length l ≤ i → Passes Turn l s y
  passed_all s y r h = r y (pass_none y h)
