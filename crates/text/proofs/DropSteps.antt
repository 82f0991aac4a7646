-- One turn of a loop that drops the bytes of a class q at the front, place i (`front_skip`, `front_stop`, `front_end`),
-- or at the end, place n (`back_skip`, `back_stop`, `back_end`). The laws are in DropLaws. Assumes nothing.
use mathlib.Core.Path.{◌≡◌, refl, sym, ap, ◌∙◌}
use mathlib.Core.Bool.{Bool, true, false}
use mathlib.Core.List.{List, [], ◌∷◌, reverse, reverse-append, reverse-reverse}
use Prim.Native.Nat.{ℕ, zero, suc, ◌+◌, ◌-◌, ◌<◌, ◌≤◌}
use native.Mathlib.Nat.{not-suc-le-zero}
use native.Mathlib.Numerals.{add-one, sub-one}
use native.Mathlib.Omega.{arith}
use lib.ListN.{length, get_or, take, drop, length-drop, drop_of_length-le}
use lib.Seq.{drop-cons, take-suc, take_all, take-length}
use Rattle.text.specs.Blank.{drop_while, drop_end}

-- what is left of s at i, as `&s[i..]` gives it
pub rest : (s : List ℕ) (i : ℕ) → take (length s - i) (drop i s) ≡ drop i s
rest s i = take_all (length s - i) (drop i s) (rw length-drop (omega arith))

pub rev_take : (s : List ℕ) (n : ℕ) → 0 < n → n ≤ length s → reverse (take n s) ≡ get_or s (n - 1) 0 ∷ reverse (take (n - 1) s)
rev_take s zero p h = absurd (not-suc-le-zero p)
rev_take s (suc j) p h = rw (sub-one, take-suc s j 0, reverse-append)

pub rev_last : (s : List ℕ) → 0 < length s → reverse s ≡ get_or s (length s - 1) 0 ∷ reverse (take (length s - 1) s)
rev_last s h = ap reverse (sym (take-length s)) ∙ rev_take s (length s) h (omega arith)

pub take_none : (s : List ℕ) (n : ℕ) → n ≤ 0 → take n s ≡ []
take_none s zero h = refl
take_none s (suc n) h = absurd (not-suc-le-zero h)

module _ (q : ℕ → Bool) (s : List ℕ) where
  pub front_skip : (i : ℕ) → i < length s → q (get_or s i 0) ≡ true → drop_while q (drop i s) ≡ drop_while q (drop (i + 1) s)
  front_skip i h e = rw (add-one, drop-cons s i 0) (simp e)

  -- s is done at i: another byte stands there, or it ends
  pub front_stop : (i : ℕ) → drop_while q s ≡ drop_while q (drop i s) → i < length s → q (get_or s i 0) ≡ false → take (length s - i) (drop i s) ≡ drop_while q s
  front_stop i k h e = rest s i ∙ sym (k ∙ rw (drop-cons s i 0) (simp e))

  pub front_end : (i : ℕ) → drop_while q s ≡ drop_while q (drop i s) → length s ≤ i → take (length s - i) (drop i s) ≡ drop_while q s
  front_end i k h = rest s i ∙ sym (k ∙ rw (drop_of_length-le s))

  pub back_skip : (n : ℕ) → 0 < n → n ≤ length s → q (get_or s (n - 1) 0) ≡ true → drop_while q (reverse (take n s)) ≡ drop_while q (reverse (take (n - 1) s))
  back_skip n p h e = rw (rev_take s n) (simp e)

  pub back_stop : (n : ℕ) → drop_while q (reverse s) ≡ drop_while q (reverse (take n s)) → 0 < n → n ≤ length s → q (get_or s (n - 1) 0) ≡ false → take n s ≡ drop_end q s
  back_stop n k p h e = sym (ap reverse (k ∙ stays) ∙ reverse-reverse (take n s))
    where
      stays : drop_while q (reverse (take n s)) ≡ reverse (take n s)
      stays = rw (rev_take s n) (simp e)

  pub back_end : (n : ℕ) → drop_while q (reverse s) ≡ drop_while q (reverse (take n s)) → n ≤ 0 → take n s ≡ drop_end q s
  back_end n k h = let z = take_none s n h in z ∙ sym (ap reverse (k ∙ ap (λ (t : List ℕ). drop_while q (reverse t)) z))
