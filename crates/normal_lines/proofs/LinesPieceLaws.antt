-- A line without the blanks that it ends with, piece by piece: what is kept of a piece stays, whatever follows it
-- (`piece_some`, `piece_none`, `front_part`). A line's end is in LinesLaws. Assumes nothing.
use mathlib.Core.Path.{◌≡◌, refl, sym, ap, ◌∙◌}
use mathlib.Core.Bool.{Bool}
use mathlib.Core.List.{List, [], ◌∷◌, ◌++◌, reverse, reverse-append, reverse-reverse, append_assoc, append-nil}
use Prim.Native.Nat.{ℕ, zero, suc, ◌+◌, ◌-◌, ◌<◌, ◌≤◌}
use native.Mathlib.Omega.{arith}
use lib.ListN.{length, length-append, length-take, length-drop, length-reverse, take, drop, take-append-drop}
use lib.Seq.{take-length, take-take, take-add, take_at, drop_at, drop-drop, take-append-le, drop-append-le}
use Rattle.text.specs.Blank.{drop_while, front, drop_end}
use Rattle.text.proofs.BoolLaws.{test}
use Rattle.grammar.proofs.FrontLaws.{front_drop}

module _ (p : ℕ → Bool) where
  past : (x y : List ℕ) → length (drop_while p x) ≡ 0 → drop_while p (x ++ y) ≡ drop_while p y
  past [] y h = refl
  past (b ∷ x) y h = test (p b) (λ e. simp e (past x y (simp e at h))) (λ e. let z : suc (length x) ≡ 0 = simp e at h in absurd (omega (arith, z)))

  stays : (x y : List ℕ) → 0 < length (drop_while p x) → drop_while p (x ++ y) ≡ drop_while p x ++ y
  stays [] y h = absurd (omega arith)
  stays (b ∷ x) y h = test (p b) (λ e. simp e (stays x y (simp e at h))) (λ e. simp e)

  again : (x : List ℕ) → drop_while p (drop_while p x) ≡ drop_while p x
  again [] = refl
  again (b ∷ x) = test (p b) (λ e. simp (e, again x)) (λ e. simp e)

  fronts : (x : List ℕ) → length (drop_while p (front p x)) ≡ 0
  fronts [] = refl
  fronts (b ∷ x) = test (p b) (λ e. simp (e, fronts x)) (λ e. simp e)

  -- ---- at the end
  end_past : (x y : List ℕ) → length (drop_end p y) ≡ 0 → drop_end p (x ++ y) ≡ drop_end p x
  end_past x y h = ap (λ (l : List ℕ). reverse (drop_while p l)) (reverse-append x y) ∙ ap reverse (past (reverse y) (reverse x) (sym (length-reverse (drop_while p (reverse y))) ∙ h))

  end_stays : (x y : List ℕ) → 0 < length (drop_end p y) → drop_end p (x ++ y) ≡ x ++ drop_end p y
  end_stays x y h =
      ap (λ (l : List ℕ). reverse (drop_while p l)) (reverse-append x y)
      ∙ ap reverse (stays (reverse y) (reverse x) (omega (arith, length-reverse (drop_while p (reverse y)))))
      ∙ reverse-append (drop_while p (reverse y)) (reverse x)
      ∙ ap (λ (l : List ℕ). l ++ drop_end p y) (reverse-reverse x)

  end_again : (y : List ℕ) → drop_end p (drop_end p y) ≡ drop_end p y
  end_again y = ap (λ (l : List ℕ). reverse (drop_while p l)) (reverse-reverse (drop_while p (reverse y))) ∙ ap reverse (again (reverse y))

  -- what is taken off
  abbrev off : List ℕ → List ℕ
  off y = reverse (front p (reverse y))

  end_off : (y : List ℕ) → drop_end p y ++ off y ≡ y
  end_off y = sym (reverse-append (front p (reverse y)) (drop_while p (reverse y))) ∙ ap reverse (front_drop p (reverse y)) ∙ reverse-reverse y

  off_none : (y : List ℕ) → length (drop_end p (off y)) ≡ 0
  off_none y = ap (λ (l : List ℕ). length (reverse (drop_while p l))) (reverse-reverse (front p (reverse y))) ∙ length-reverse (drop_while p (front p (reverse y))) ∙ fronts (reverse y)

  end_split : (g y z : List ℕ) → 0 < length (drop_end p y) → drop_end p ((g ++ drop_end p y) ++ z) ≡ (g ++ drop_end p y) ++ drop_end p z
  end_split g y z h = by (drop_end p z) refl
    where
      by : (d : List ℕ) → drop_end p z ≡ d → drop_end p ((g ++ drop_end p y) ++ z) ≡ (g ++ drop_end p y) ++ drop_end p z
      by [] e =
          end_past (g ++ drop_end p y) z (ap length e)
          ∙ end_stays g (drop_end p y) (omega (arith, ap length (end_again y)))
          ∙ ap (λ (l : List ℕ). g ++ l) (end_again y)
          ∙ sym (append-nil (g ++ drop_end p y))
          ∙ ap (λ (l : List ℕ). (g ++ drop_end p y) ++ l) (sym e)
      by (b ∷ d) e = end_stays (g ++ drop_end p y) z (omega (arith, ap length e))

  -- ---- a piece of m, k bytes at most, behind its first a
  module _ (m : List ℕ) (a k : ℕ) where
    abbrev piece : List ℕ
    piece = take k (drop a m)

    cut : length (drop_end p piece) + length (off piece) ≡ length piece
    cut = sym (length-append (drop_end p piece) (off piece)) ∙ ap length (end_off piece)

    pub kept_le : length (drop_end p piece) ≤ length piece
    kept_le = omega (arith, cut)

    piece_le : length piece ≤ k
    piece_le = omega (arith, length-take k (drop a m))

    kept_is : drop_end p piece ≡ take (length (drop_end p piece)) (drop a m)
    kept_is =
        sym (take_at (drop_end p piece) (off piece) (length (drop_end p piece)) refl)
        ∙ ap (take (length (drop_end p piece))) (end_off piece)
        ∙ take-take (length (drop_end p piece)) k (drop a m) (omega (arith, cut, piece_le))

    head_is : take (a + length (drop_end p piece)) m ≡ take a m ++ drop_end p piece
    head_is = take-add a (length (drop_end p piece)) m ∙ ap (λ (l : List ℕ). take a m ++ l) (sym kept_is)

    -- where something is kept of a piece, so is all before that, and what follows is as if it stood alone
    pub piece_some : 0 < length (drop_end p piece) → drop_end p m ≡ take (a + length (drop_end p piece)) m ++ drop_end p (drop (a + length (drop_end p piece)) m)
    piece_some h =
        let z = drop (a + length (drop_end p piece)) m in
        ap (drop_end p) (sym (take-append-drop (a + length (drop_end p piece)) m))
        ∙ ap (λ (l : List ℕ). drop_end p (l ++ z)) head_is
        ∙ end_split (take a m) piece z h
        ∙ ap (λ (l : List ℕ). l ++ drop_end p z) (sym head_is)

    -- the rest of a piece is taken off
    pub piece_rest : length (drop_end p (take (length piece - length (drop_end p piece)) (drop (a + length (drop_end p piece)) m))) ≡ 0
    piece_rest =
        let q = length (drop_end p piece) in
        let u = drop a m in
        let whole : u ≡ drop_end p piece ++ (off piece ++ drop k u) = sym (take-append-drop k u) ∙ ap (λ (l : List ℕ). l ++ drop k u) (sym (end_off piece)) ∙ append_assoc (drop_end p piece) (off piece) (drop k u) in
        let is : take (length piece - q) (drop (a + q) m) ≡ off piece =
        ap (take (length piece - q)) (sym (drop-drop q a m) ∙ ap (drop q) whole ∙ drop_at (drop_end p piece) (off piece ++ drop k u) q refl) ∙ take_at (off piece) (drop k u) (length piece - q) (omega (arith, cut)) in
        ap (λ (l : List ℕ). length (drop_end p l)) is ∙ off_none piece

    -- nothing is kept of it, nor of what stands before it
    pub piece_none : length (drop_end p (take a m)) ≡ 0 → length (drop_end p piece) ≡ 0 → length (drop_end p (take (a + length piece) m)) ≡ 0
    piece_none h n =
        let is : take (length piece) (drop a m) ≡ piece = sym (take-take (length piece) k (drop a m) piece_le) ∙ take-length piece in
        ap (λ (l : List ℕ). length (drop_end p l)) (take-add a (length piece) m ∙ ap (λ (l : List ℕ). take a m ++ l) is)
        ∙ ap length (end_past (take a m) piece n)
        ∙ h

  -- ---- fronts
  pub front_le : (s : List ℕ) → length (front p s) ≤ length s
  front_le s = omega (arith, ap length (front_drop p s), length-append (front p s) (drop_while p s))

  pub front_take : (s : List ℕ) (k : ℕ) → front p (take k s) ≡ take k (front p s)
  front_take s zero = refl
  front_take [] (suc k) = refl
  front_take (b ∷ s) (suc k) = test (p b) (λ e. simp (e, front_take s k)) (λ e. simp e)

  pub front_behind : (s : List ℕ) (k : ℕ) → k ≤ length (front p s) → front p (drop k s) ≡ drop k (front p s)
  front_behind s zero h = refl
  front_behind [] (suc k) h = refl
  front_behind (b ∷ s) (suc k) h = test (p b) (λ e. simp e (front_behind s k (let z : suc k ≤ suc (length (front p s)) = simp e at h in omega (arith, z)))) (λ e. let z : suc k ≤ 0 = simp e at h in absurd (omega (arith, z)))

  -- a part of a front is one of the whole
  pub front_part : (s : List ℕ) (w k : ℕ) → w + k ≤ length (front p s) → take k (drop w s) ≡ take k (drop w (front p s))
  front_part s w k h =
      ap (λ (l : List ℕ). take k (drop w l)) (sym (front_drop p s))
      ∙ ap (take k) (drop-append-le w (front p s) (drop_while p s) (omega arith))
      ∙ take-append-le k (drop w (front p s)) (drop_while p s) (rw length-drop (omega arith))
