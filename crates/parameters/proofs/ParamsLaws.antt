-- Fields and parts of the parameter part: a type and what follows it (`type_upto`, `after_upto`), a byte alone
-- (`alone_exactly`), and whether there are enough fields (`reached`, `too_few`, `enough`). Numbers are in PlaceLaws.
-- Assumes nothing.
use mathlib.Core.Path.{◌≡◌, refl, sym, ◌∙◌}
use mathlib.Core.Bool.{Bool, true, false, not, cond, ◌&&◌}
use mathlib.Core.List.{List, [], ◌∷◌}
use Prim.Native.Nat.{ℕ, zero, suc, ◌+◌, ◌-◌, ◌<◌, ◌≤◌}
use native.Mathlib.Numerals.{add-one}
use native.Mathlib.Omega.{arith}
use lib.Dec.{eqb, leb, ltb}
use lib.ListN.{length, get_or, take, drop, length-drop}
use borrow.Author.Tests.{eqb-true, ne_eqb, leb-true, leb-false, le-leb, lt-leb, ltb-true, ltb-false, lt-ltb, le-ltb, not-true, not-false}
use Rattle.text.specs.Blank.{trim}
use Rattle.text.specs.Fields.{index_of, before, after, fields, same}
use Rattle.text.specs.Utf8.{within}
use Rattle.text.proofs.BoolLaws.{test, and_both, within_true, within_low, within_high}
use Rattle.text.proofs.BlankSteps.{trim_plain}
use Rattle.text.proofs.FieldsLaws.{after_none, fields_cons, count_none}
use Rattle.parameters.specs.FieldValues.{exactly, fields_from}
use Rattle.parameters.specs.Params.{type_at, exactly_at, alone}

-- a text of one byte is compared with a byte
pub same_one : (t : List ℕ) (b : ℕ) → length t ≡ 1 → eqb (get_or t 0 0) b ≡ same t (b ∷ [])
same_one [] b h = absurd (omega arith)
same_one (a ∷ []) b h = and_true (eqb a b)
  where
    and_true : (x : Bool) → x ≡ (x && true)
    and_true true = refl
    and_true false = refl
same_one (a ∷ c ∷ t) b h = absurd (omega arith)

pub same_other : (t : List ℕ) (b : ℕ) → (length t ≡ 1 → ⊥) → false ≡ same t (b ∷ [])
same_other [] b h = refl
same_other (a ∷ []) b h = absurd (h refl)
same_other (a ∷ c ∷ t) b h = and_false (eqb a b)
  where
    and_false : (x : Bool) → false ≡ (x && false)
    and_false true = refl
    and_false false = refl

-- a byte with nothing behind it, or a comma
no_comma : (a : ℕ) → within 45 127 a ≡ true → eqb a 44 ≡ false
no_comma a y = ne_eqb a 44 (λ e. omega (arith, within_low 45 127 a y))

pub alone_one : (s : List ℕ) → length s ≡ 1 → within 45 127 (get_or s 0 0) ≡ alone s
alone_one [] h = absurd (omega arith)
alone_one (a ∷ []) h = test (within 45 127 a) (λ y. simp (y, no_comma a y)) (λ n. simp n)
alone_one (a ∷ c ∷ t) h = absurd (omega arith)

pub alone_more : (s : List ℕ) → 1 < length s → (within 45 127 (get_or s 0 0) && eqb (get_or s 1 0) 44) ≡ alone s
alone_more [] h = absurd (omega arith)
alone_more (a ∷ []) h = absurd (omega arith)
alone_more (a ∷ c ∷ t) h =
    test (within 45 127 a)
    (λ y. simp (y, no_comma a y) (test (eqb c 44) (λ e. simp e) (λ e. simp (e, ne_eqb (suc (suc (index_of 44 t))) 1 (λ x. omega arith)))))
    (λ n. simp n)

pub alone_some : (s : List ℕ) → alone s ≡ true → 0 < length s
alone_some [] h = absurd (omega (arith, within_low 45 127 0 h))
alone_some (a ∷ s) h = omega arith

pub alone_exactly : (s : List ℕ) (b : ℕ) → alone s ≡ true → eqb (get_or s 0 0) b ≡ exactly_at b s
unfolding exactly_at exactly before
alone_exactly [] b h = absurd (omega (arith, alone_some [] h))
alone_exactly (a ∷ t) b h =
    let k = and_both (within 45 127 a) (eqb (index_of 44 (a ∷ t)) 1) h in
    let p = within_true 33 127 a (omega (arith, within_low 45 127 a k.0)) (within_high 45 127 a k.0) in
    let e : trim (take (index_of 44 (a ∷ t)) (a ∷ t)) ≡ a ∷ [] = rw (eqb-true (index_of 44 (a ∷ t)) 1 k.1) (sym (trim_plain (a ∷ []) (omega arith) p p)) in
    rw e (same_one (a ∷ []) b refl)

-- an empty text has no first byte
pub drop_none : (t : List ℕ) → length t ≡ 0 → t ≡ drop 1 t
drop_none [] h = refl
drop_none (a ∷ t) h = absurd (omega arith)

-- a type, which ends n bytes off, and what follows it
module _ (s : List ℕ) {n : ℕ} (e : n ≡ index_of 44 s) where
  pub type_upto : trim (take n s) ≡ type_at s
  unfolding type_at before
  type_upto = rw e

  pub after_upto : drop (n + 1) s ≡ after 44 s
  unfolding after
  after_upto = rw (add-one, e)

-- at least n fields, of which some are still wanted at place i; and what a reader makes of the answer

module _ (s : List ℕ) (n wanted i : ℕ) (inv : n + length (fields (drop i s)) ≡ wanted + length (fields s)) where
  pub has_found : wanted ≤ 1 → leb wanted 1 ≡ leb n (length (fields s))
  has_found h =
      let some : 0 < length (fields (drop i s)) = rw (fields_cons (drop i s)) (omega arith) in
      le-leb wanted 1 h ∙ sym (le-leb n (length (fields s)) (omega arith))

  pub has_not : length s ≤ i → leb wanted 1 ≡ leb n (length (fields s))
  has_not h =
      let one = count_none s i h in
      test (leb wanted 1)
      (λ t. has_found (leb-true wanted 1 t))
      (λ t. t ∙ sym (lt-leb n (length (fields s)) (omega (arith, leb-false wanted 1 t))))

-- something stands behind k commas, so there are more than k fields
beyond : (k : ℕ) (s : List ℕ) → 0 < length (fields_from k s) → k < length (fields s)
unfolding after
beyond zero s h = rw (fields_cons s) (omega arith)
beyond (suc k) s h =
    let more = beyond k (after 44 s) h in
    test (ltb (index_of 44 s) (length s))
    (λ e. let c : fields s ≡ before 44 s ∷ fields (after 44 s) = rw e at (fields_cons s) in rw c (omega arith))
    (λ e. absurd (empty k (rw (after_none 44 s (ltb-false (index_of 44 s) (length s) e)) at h)))
  where
    empty : (k : ℕ) → 0 < length (fields_from k []) → ⊥
    empty zero h = omega arith
    empty (suc k) h = empty k h

-- something stands at a place
pub seen_is : (s t : List ℕ) (at : ℕ) → drop at s ≡ t → ltb at (length s) ≡ ltb 0 (length t)
seen_is s t at here =
    let n : length t ≡ length s - at = rw (← here, length-drop) in
    test (ltb at (length s))
    (λ e. e ∙ sym (lt-ltb 0 (length t) (omega (arith, ltb-true at (length s) e))))
    (λ e. e ∙ sym (le-ltb 0 (length t) (omega (arith, ltb-false at (length s) e))))

-- a reader that has seen what stands behind k commas need not count
pub reached : (k : ℕ) (s t : List ℕ) (at : ℕ) {seen has : Bool} → drop at t ≡ fields_from k s → seen ≡ ltb at (length t) → has ≡ cond seen true (leb (suc k) (length (fields s))) → has ≡ leb (suc k) (length (fields s))
reached k s t at {seen} here e is =
    test seen
    (λ y. (rw y at is) ∙ sym (le-leb (suc k) (length (fields s)) (beyond k s (rw (← here, length-drop) (omega (arith, ltb-true at (length t) (sym e ∙ y)))))))
    (λ n. rw n at is)

module _ {A : Type 0} (s : List ℕ) (n : ℕ) (refused read : A) {has : Bool} (counted : has ≡ leb n (length (fields s))) where
  pub too_few : not has ≡ true → refused ≡ cond (ltb (length (fields s)) n) refused read
  too_few h = rw (lt-ltb (length (fields s)) n (leb-false n (length (fields s)) (sym counted ∙ not-true has h)))

  pub enough : not has ≡ false → read ≡ cond (ltb (length (fields s)) n) refused read
  enough h = rw (le-ltb (length (fields s)) n (leb-true n (length (fields s)) (sym counted ∙ not-false has h)))
