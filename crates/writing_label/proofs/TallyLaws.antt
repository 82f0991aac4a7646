-- A pass over elements of which each has a text or none (`txt`):
--     over         once it is over, it changes nothing
--     kept         where nothing is stored, the buffer stays
--     counted      it stops at the first that has none, and tells its number
--     summed       where all have one, it ends behind them
--     wrote        and they stand one after the other
--     as_passed, bounded       what the code's pass says of the buffer and of the texts' lengths
-- Assumes nothing.
use mathlib.Core.Path.{◌≡◌, refl, sym, ap, ◌∙◌, subst}
use mathlib.Core.Bool.{Bool, true, false}
use mathlib.Core.List.{List, [], ◌∷◌, ◌++◌, foldl}
use Prim.Native.Nat.{ℕ, suc, ◌+◌, ◌-◌, ◌*◌, ◌≤◌, ◌<◌}
use native.Mathlib.Omega.{arith}
use lib.Dec.{eqb}
use lib.ListN.{length, length-append}
use lib.Seq.{sets, length-sets}
use borrow.Author.Tests.{le-leb}
use Rattle.text.proofs.BoolLaws.{test}
use Rattle.text.proofs.WroteLaws.{sets_append}
use Rattle.lent_lists.specs.Passed.{Passes}
use Rattle.writing_element.specs.Place.{placed_at}
use Rattle.writing_label.specs.declared.tally.Tally.{Tally}
use Rattle.writing_label.specs.Tally.{onto, stopped_of, tally, turned, Turns, first_none, texts}

abbrev Held : Type 0
Held = Tally × List ℕ

-- what y is after each element has had its turn
abbrev pub passed : {X Y : Type 0} → (X → Y → Y) → List X → Y → Y
passed f xs y = foldl (λ z x. f x z) y xs

pub onto_is : (a n : ℕ) → a + n ≤ 18446744073709551615 → onto a n ≡ a + n
onto_is a n h = simp (le-leb n (18446744073709551615 - a) (omega arith))

-- ---- one element
turned_over : (t : List ℕ) (c : Tally) (l : List ℕ) → c.refused ≡ true → turned t (c, l) ≡ (c, l)
turned_over t c l h = simp h

turned_none : (t : List ℕ) (k a : ℕ) (w : Bool) (l : List ℕ) → eqb (length t) 0 ≡ true
    → turned t (tally k a w, l) ≡ (stopped_of (tally k a w), placed_at w a t l)
turned_none t k a w l h = simp h

turned_on : (t : List ℕ) (k a : ℕ) (w : Bool) (l : List ℕ) → eqb (length t) 0 ≡ false
    → turned t (tally k a w, l) ≡ (tally (onto k 1) (onto a (length t)) w, placed_at w a t l)
turned_on t k a w l h = simp h

module _ {X : Type 0} (txt : X → List ℕ) where
  abbrev step : X → Held → Held
  step x p = turned (txt x) p

  pub over : (xs : List X) (c : Tally) (l : List ℕ) → c.refused ≡ true → passed step xs (c, l) ≡ (c, l)
  over [] c l h = refl
  over (x ∷ xs) c l h = ap (passed step xs) (turned_over (txt x) c l h) ∙ over xs c l h

  -- ---- where it stops
  pub none_within : (xs : List X) → first_none txt xs ≤ length xs
  none_within [] = omega arith
  none_within (x ∷ xs) = test (eqb (length (txt x)) 0) (λ e. simp e (omega arith)) (λ e. simp e (let h = none_within xs in omega arith))

  pub record Counted (xs : List X) (k : ℕ) (r : Tally) : Type 0 where
    pub stopped : first_none txt xs < length xs → r.refused ≡ true
    pub whole : first_none txt xs ≡ length xs → r.refused ≡ false
    pub number : r.number ≡ k + first_none txt xs

  stops : (x : X) (xs : List X) (k : ℕ) (a : ℕ) (w : Bool) → eqb (length (txt x)) 0 ≡ true → Counted (x ∷ xs) k (stopped_of (tally k a w))
  stops x xs k a w e = record { stopped = λ h. refl; whole = simp e (λ h. absurd (omega (arith, h))); number = simp e (omega arith) }

  goes : (x : X) (xs : List X) (k : ℕ) {r : Tally} → eqb (length (txt x)) 0 ≡ false → Counted xs (k + 1) r → Counted (x ∷ xs) k r
  goes x xs k {r} e c = record { stopped = simp e (λ h. c.stopped (omega (arith, h))); whole = simp e (λ h. c.whole (omega (arith, h))); number = simp e (omega (arith, c.number)) }

  pub counted : (xs : List X) (k a : ℕ) (w : Bool) (l : List ℕ) → k + length xs ≤ 18446744073709551615
      → Counted xs k (passed step xs (tally k a w, l)).0
  counted [] k a w l h = record { stopped = λ z. absurd (omega (arith, z)); whole = λ _. refl; number = omega arith }
  counted (x ∷ xs) k a w l h =
      test (eqb (length (txt x)) 0)
      (λ e. subst (λ (r : Held). Counted (x ∷ xs) k r.0)
      (sym (ap (passed step xs) (turned_none (txt x) k a w l e) ∙ over xs (stopped_of (tally k a w)) (placed_at w a (txt x) l) refl))
      (stops x xs k a w e))
      (λ e. goes x xs k e
      (subst (λ (r : Held). Counted xs (k + 1) (passed step xs r).0)
      (sym (turned_on (txt x) k a w l e ∙ ap (λ (j : ℕ). (tally j (onto a (length (txt x))) w, placed_at w a (txt x) l)) (onto_is k 1 (omega arith))))
      (counted xs (k + 1) (onto a (length (txt x))) w (placed_at w a (txt x) l) (omega arith))))

  -- ---- where all have a text
  some : (x : X) (xs : List X) → first_none txt (x ∷ xs) ≡ length (x ∷ xs) → (eqb (length (txt x)) 0 ≡ false) × (first_none txt xs ≡ length xs)
  some x xs h =
      test (eqb (length (txt x)) 0)
      (λ e. absurd (let z : 0 ≡ suc (length xs) = rw e at h in omega (arith, z)))
      (λ e. (e, let z : suc (first_none txt xs) ≡ suc (length xs) = rw e at h in omega (arith, z)))

  pub summed : (xs : List X) (k a : ℕ) (w : Bool) (l : List ℕ) → first_none txt xs ≡ length xs
      → a + length (texts txt xs) ≤ 18446744073709551615 → (passed step xs (tally k a w, l)).0.at ≡ a + length (texts txt xs)
  summed [] k a w l h b = omega arith
  summed (x ∷ xs) k a w l h b =
      let s = some x xs h in
      let n : length (txt x ++ texts txt xs) ≡ length (txt x) + length (texts txt xs) = length-append (txt x) (texts txt xs) in
      ap (λ (r : Held). (passed step xs r).0.at)
      (turned_on (txt x) k a w l s.0 ∙ ap (λ (j : ℕ). (tally (onto k 1) j w, placed_at w a (txt x) l)) (onto_is a (length (txt x)) (omega (arith, n))))
      ∙ summed xs (onto k 1) (a + length (txt x)) w (placed_at w a (txt x) l) s.1 (omega (arith, n)) ∙ omega (arith, n)

  pub wrote : (xs : List X) (k a : ℕ) (l : List ℕ) → first_none txt xs ≡ length xs → a + length (texts txt xs) ≤ length l
      → length l ≤ 18446744073709551615 → (passed step xs (tally k a true, l)).1 ≡ sets l a (texts txt xs)
  wrote [] k a l h b m = refl
  wrote (x ∷ xs) k a l h b m =
      let s = some x xs h in
      let t : List ℕ = txt x in
      let n : length (t ++ texts txt xs) ≡ length t + length (texts txt xs) = length-append t (texts txt xs) in
      let p : placed_at true a t l ≡ sets l a t = simp (le-leb (a + length t) (length l) (omega (arith, n))) in
      let z : length (sets l a t) ≡ length l = length-sets l a t in
      ap (λ (r : Held). (passed step xs r).1)
      (turned_on t k a true l s.0 ∙ (λ i. (tally (onto k 1) (onto_is a (length t) (omega (arith, n)) i) true, p i)))
      ∙ wrote xs (onto k 1) (a + length t) (sets l a t) s.1 (omega (arith, n, z)) (omega (arith, z))
      ∙ sets_append l a t (texts txt xs)

  -- ---- where nothing is stored
  turned_kept : (t : List ℕ) (c : Tally) (l : List ℕ) → c.writing ≡ false → ((turned t (c, l)).0.writing ≡ false) × ((turned t (c, l)).1 ≡ l)
  turned_kept t c l h =
      test c.refused
      (λ e. (simp e h, simp e))
      (λ e. test (eqb (length t) 0)
      (λ z. (simp (e, z) h, simp (e, h)))
      (λ z. (simp (e, z) h, simp (e, h))))

  pub kept : (xs : List X) (c : Tally) (l : List ℕ) → c.writing ≡ false → (passed step xs (c, l)).1 ≡ l
  kept [] c l h = refl
  kept (x ∷ xs) c l h =
      let q = turned_kept (txt x) c l h in
      kept xs (turned (txt x) (c, l)).0 (turned (txt x) (c, l)).1 q.0 ∙ q.1

  -- ---- the code's pass
  abbrev Step : X → Held → Held → Type 0
  Step x p q = Turns (txt x) p q

  pub as_passed : (xs : List X) (y z : Held) → Passes Step xs y z → z ≡ passed step xs y
  as_passed [] y z p = p
  as_passed (x ∷ xs) y z p = as_passed xs p.0 z p.1.1 ∙ ap (passed step xs) p.1.0.is

  -- how long the texts are, where all have one
  pub bounded : (xs : List X) (k a : ℕ) (w : Bool) (l : List ℕ) (z : Held) → first_none txt xs ≡ length xs
      → Passes Step xs (tally k a w, l) z → length (texts txt xs) ≤ length xs * 1073742528
  bounded [] k a w l z h p = omega arith
  bounded (x ∷ xs) k a w l z h p =
      let s = some x xs h in
      let n : length (txt x ++ texts txt xs) ≡ length (txt x) + length (texts txt xs) = length-append (txt x) (texts txt xs) in
      let q = subst (λ (y : Held). Passes Step xs y z) (p.1.0.is ∙ turned_on (txt x) k a w l s.0) p.1.1 in
      omega (arith, n, p.1.0.small refl, bounded xs (onto k 1) (onto a (length (txt x))) w (placed_at w a (txt x) l) z s.1 q)
