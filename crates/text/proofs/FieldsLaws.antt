-- The parts that a byte cuts a text into: lengths and places (`index_le`, `after_le`, `before_last_le`), fields one
-- after the other (`fields_cons`, `field_is`), equal texts (`same_true`), and the steps of the loops that find parts.
-- Assumes nothing.
use mathlib.Core.Path.{◌≡◌, refl, sym, ap, ◌∙◌}
use mathlib.Core.Bool.{Bool, true, false, cond, true≢false}
use mathlib.Core.List.{List, [], ◌∷◌, reverse, reverse-reverse}
use Prim.Native.Nat.{ℕ, zero, suc, ◌+◌, ◌-◌, ◌<◌, ◌≤◌}
use native.Mathlib.Nat.{not-suc-le-zero}
use native.Mathlib.Numerals.{add-one}
use native.Mathlib.Omega.{arith}
use lib.ListN.{length, get_or, take, drop, length-drop, length-reverse, drop_of_length-le}
use lib.Seq.{drop-cons}
use lib.Dec.{eqb, ltb, leb-suc-suc}
use borrow.Author.Tests.{eqb-true, eq-eqb, ne_eqb, lt-ltb, ltb-false}
use Rattle.text.specs.Fields.{index_of, before, after, before_last, ahead, fields, field, same}
use Rattle.text.proofs.BoolLaws.{and_both, test}
use Rattle.std.proofs.lemmas.List.{get_or-reverse}
use Rattle.text.proofs.DropLaws.{drop_reverse}
use Rattle.text.proofs.DropSteps.{rest}
use Rattle.text.proofs.ScanLaws.{index_is}

-- index_of

cond_index_le : (x : Bool) (k n : ℕ) → k ≤ n → cond x zero (suc k) ≤ suc n
cond_index_le true k n h = omega arith
cond_index_le false k n h = omega arith

pub index_le : (b : ℕ) (s : List ℕ) → index_of b s ≤ length s
index_le b [] = omega arith
index_le b (x ∷ s) = cond_index_le (eqb x b) (index_of b s) (length s) (index_le b s)

-- before, after, beforeLast

pub after_le : (b : ℕ) (s : List ℕ) → length (after b s) ≤ length s
unfolding after
after_le b s = simp length-drop (omega arith)

pub before_last_le : (b : ℕ) (s : List ℕ) → length (before_last b s) ≤ length s
unfolding before_last
before_last_le b s = rw length-reverse (omega (arith, after_le b (reverse s), length-reverse s))

-- where there is no b
pub after_none : (b : ℕ) (s : List ℕ) → length s ≤ index_of b s → after b s ≡ []
unfolding after
after_none b s h = drop_of_length-le s {i = suc (index_of b s)} (omega arith)

-- what `&s[r + 1..]` and `&s[r..]` give at the place r that `find` gave
pub after_here : (b : ℕ) (s : List ℕ) (r : ℕ) → r ≡ index_of b s → take (length s - (r + 1)) (drop (r + 1) s) ≡ after b s
unfolding after
after_here b s r e = rest s (r + 1) ∙ rw (add-one, e)

pub after_end : (b : ℕ) (s : List ℕ) (r : ℕ) → r ≡ index_of b s → length s ≤ r → take (length s - r) (drop r s) ≡ after b s
after_end b s r e h = rest s r ∙ drop_of_length-le s h ∙ sym (after_none b s (omega arith))

-- b stands at i, and at no place behind it
pub last_at : (b : ℕ) (s : List ℕ) (i : ℕ) → i < length s → get_or s i 0 ≡ b → ((k : ℕ) → i + 1 ≤ k → k < length s → get_or s k 0 ≡ b → ⊥) → take i s ≡ before_last b s
unfolding before_last after
last_at b s i h e n =
    let l = length-reverse s in
    let at : length s - (i + 1) ≡ index_of b (reverse s) =
    index_is b (reverse s) (length s - (i + 1)) (omega arith)
    (λ k q f. n (length s - 1 - k) (omega arith) (omega arith) (sym (get_or-reverse s k 0 (omega arith)) ∙ f))
    (λ q. get_or-reverse s (length s - (i + 1)) 0 (omega arith) ∙ ap (λ (m : ℕ). get_or s m 0) (omega arith) ∙ e) in
    let d : suc (index_of b (reverse s)) ≡ length s - i = omega arith in
    let m : length s - (length s - i) ≡ i = omega arith in
    sym
    (ap (λ (k : ℕ). reverse (drop k (reverse s))) d
    ∙ ap reverse (drop_reverse (length s - i) s (omega arith))
    ∙ reverse-reverse (take (length s - (length s - i)) s)
    ∙ ap (λ (k : ℕ). take k s) m)

-- no b stands in s
pub last_none : (b : ℕ) (s : List ℕ) → ((k : ℕ) → k < length s → get_or s k 0 ≡ b → ⊥) → [] ≡ before_last b s
unfolding before_last
last_none b s n =
    let l = length-reverse s in
    let at : length s ≡ index_of b (reverse s) =
    index_is b (reverse s) (length s) (omega arith)
    (λ k q f. n (length s - 1 - k) (omega arith) (sym (get_or-reverse s k 0 (omega arith)) ∙ f))
    (λ q. absurd (omega arith)) in
    sym (ap reverse (after_none b (reverse s) (omega arith)))

-- fields

cons_by : (y : Bool) (x : ℕ) (s : List ℕ) → eqb x 44 ≡ y → fields s ≡ before 44 s ∷ cond (ltb (index_of 44 s) (length s)) (fields (after 44 s)) []
    → fields (x ∷ s) ≡ before 44 (x ∷ s) ∷ cond (ltb (index_of 44 (x ∷ s)) (length (x ∷ s))) (fields (after 44 (x ∷ s))) []
unfolding fields before after
cons_by true x s e h = simp (e, lt-ltb 0 (suc (length s)) (omega arith))
cons_by false x s e h = simp (e, h, leb-suc-suc)

-- the fields are what stands before the first comma, and the fields after it
pub fields_cons : (s : List ℕ) → fields s ≡ before 44 s ∷ cond (ltb (index_of 44 s) (length s)) (fields (after 44 s)) []
unfolding fields before after
fields_cons [] = refl
fields_cons (x ∷ s) = cons_by (eqb x 44) x s refl (fields_cons s)

field_nil : (k : ℕ) → field [] k ≡ []
unfolding before after
field_nil zero = refl
field_nil (suc k) = field_nil k

pub field_is : (s : List ℕ) (k : ℕ) → get_or (fields s) k [] ≡ field s k
field_is s zero = rw (fields_cons s)
field_is s (suc k) =
    rw (fields_cons s)
    (test (ltb (index_of 44 s) (length s))
    (λ e. simp e (field_is (after 44 s) k))
    (λ e. simp (e, after_none 44 s (ltb-false (index_of 44 s) (length s) e)) (sym (field_nil k))))

-- counting fields

ahead_length : (x : ℕ) (fs : List (List ℕ)) → 0 < length fs → length (ahead x fs) ≡ length fs
ahead_length x [] h = absurd (not-suc-le-zero h)
ahead_length x (f ∷ fs) h = refl

some_fields : (s : List ℕ) → 0 < length (fields s)
some_fields s = rw (fields_cons s) (omega arith)

module _ (s : List ℕ) (i : ℕ) (h : i < length s) where
  pub count_comma : get_or s i 0 ≡ 44 → length (fields (drop i s)) ≡ suc (length (fields (drop (i + 1) s)))
  unfolding fields
  count_comma e = rw (add-one, drop-cons s i 0) (simp (eq-eqb (get_or s i 0) 44 e))

  pub count_other : (get_or s i 0 ≡ 44 → ⊥) → length (fields (drop i s)) ≡ length (fields (drop (i + 1) s))
  unfolding fields
  count_other e = rw (add-one, drop-cons s i 0) (simp (ne_eqb (get_or s i 0) 44 e) (ahead_length (get_or s i 0) (fields (drop (suc i) s)) (some_fields (drop (suc i) s))))

pub count_none : (s : List ℕ) (i : ℕ) → length s ≤ i → length (fields (drop i s)) ≡ 1
unfolding fields
count_none s i h = rw (drop_of_length-le s)

-- each field but the first has a comma before it
ahead_le : (x : ℕ) (fs : List (List ℕ)) → length (ahead x fs) ≤ suc (length fs)
ahead_le x [] = omega arith
ahead_le x (f ∷ fs) = omega arith

pub fields_le : (s : List ℕ) → length (fields s) ≤ suc (length s)
unfolding fields
fields_le [] = omega arith
fields_le (x ∷ s) =
    let h = fields_le s in
    test (eqb x 44) (λ e. simp e (omega arith)) (λ e. simp e (omega (arith, ahead_le x (fields s))))

-- same

pub same_refl : (a : List ℕ) → same a a ≡ true
same_refl [] = refl
same_refl (x ∷ a) = simp (eq-eqb x x refl, same_refl a)

pub same_true : (a b : List ℕ) → same a b ≡ true → a ≡ b
same_true [] [] h = refl
same_true [] (y ∷ b) h = absurd (true≢false (sym h))
same_true (x ∷ a) [] h = absurd (true≢false (sym h))
same_true (x ∷ a) (y ∷ b) h =
    let k = and_both (eqb x y) (same a b) h in
    let e = eqb-true x y k.0 in
    let f = same_true a b k.1 in
    cc

pub same_length : (a b : List ℕ) → (length a ≡ length b → ⊥) → same a b ≡ false
same_length a b h = test (same a b) (λ e. absurd (h (ap length (same_true a b e)))) (λ e. e)
