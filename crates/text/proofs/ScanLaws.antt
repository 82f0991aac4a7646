-- A search by places: stretches without b are joined (`none_join`), a search behind a place (`first_at`, `first_none`),
-- and the first b by places is the one that `index_of` gives (`first_found`). Assumes nothing.
use mathlib.Core.Path.{◌≡◌, sym, ap, subst, ◌∙◌}
use mathlib.Core.List.{List, [], ◌∷◌}
use mathlib.Core.Logic.{◌⊎◌, ⊎_elim}
use Prim.Native.Nat.{ℕ, zero, suc, ◌+◌, ◌-◌, ◌≤◌, ◌<◌}
use native.Mathlib.Nat.{eq-zero-or-pos}
use native.Mathlib.Omega.{arith}
use lib.ListN.{length, get_or, take, drop, length-drop}
use lib.Seq.{get_or-take, get_or-drop, length-take-le}
use borrow.Author.Tests.{eq-eqb, ne_eqb, lt-ltb, le-ltb}
use Rattle.text.specs.Fields.{index_of, Found}
use Rattle.text.specs.Scan.{None, First, near_in, Near, size_by}

pub none_empty : {a : List ℕ} {b lo hi : ℕ} → hi ≤ lo → None a b lo hi
none_empty h = record { none = λ k p q e. omega arith }

pub none_join : {a : List ℕ} {b lo i j : ℕ} → None a b lo i → None a b i j → None a b lo j
none_join {i = i} m n = record { none = λ k p q e. ⊎_elim (λ z. n.none k (omega arith) q e) (λ z. m.none k p (omega arith) e) (eq-zero-or-pos (i - k)) }

-- one more place, i, that holds no b
pub none_step : {a : List ℕ} {b lo j : ℕ} (i : ℕ) → None a b lo i → (get_or a i 0 ≡ b → ⊥) → j ≡ i + 1 → None a b lo j
none_step {a} {b} i n h l = none_join n (record { none = λ k p q e. h (subst (λ (x : ℕ). get_or a x 0 ≡ b) (let s : k ≡ i = omega arith in s) e) })

pub first_join : {a : List ℕ} {b lo i hi r : ℕ} → lo ≤ i → None a b lo i → First a b i hi r → First a b lo hi r
first_join h n f = let l = f.low in record { low = omega arith; high = f.high; before = none_join n f.before; found = f.found }

-- a search in t, what a has from `from` on

module _ (a t : List ℕ) (from : ℕ) (h : from ≤ length a) (g : t ≡ drop from a) where
  behind : length t + from ≡ length a
  behind = omega (arith, ap length g, length-drop from a)

  at_behind : (k : ℕ) → from ≤ k → get_or a k 0 ≡ get_or t (k - from) 0
  at_behind k p =
      ap (λ (m : ℕ). get_or a m 0) (let z : k ≡ from + (k - from) = omega arith in z)
      ∙ sym (get_or-drop from a (k - from) 0)
      ∙ ap (λ (l : List ℕ). get_or l (k - from) 0) (sym g)

module _ {a : List ℕ} (t : List ℕ) {b from : ℕ} (h : from ≤ length a) (g : t ≡ drop from a) where
  pub first_at : {k : ℕ} → k < length t → get_or t k 0 ≡ b → ((j : ℕ) → j < k → get_or t j 0 ≡ b → ⊥) → First a b from (length a) (from + k)
  first_at {k} i e n =
      let l = behind a t from h g in
      record {
        low = omega arith;
        high = omega arith;
        before = record { none = λ j p q f. n (j - from) (omega arith) (sym (at_behind a t from h g j p) ∙ f) };
        found = λ _. at_behind a t from h g (from + k) (omega arith) ∙ ap (λ (m : ℕ). get_or t m 0) (let z : from + k - from ≡ k = omega arith in z) ∙ e;
      }

  pub first_none : ((j : ℕ) → j < length t → get_or t j 0 ≡ b → ⊥) → First a b from (length a) (length a)
  first_none n =
      let l = behind a t from h g in
      record {
        low = h;
        high = omega arith;
        before = record { none = λ j p q f. n (j - from) (omega arith) (sym (at_behind a t from h g j p) ∙ f) };
        found = λ q. absurd (omega arith);
      }

-- k is the first b of the i bytes from `from` on, counted from there, or 64
abbrev pub Least : (a : List ℕ) (b from i k : ℕ) → Type 0
Least a b from i k = ((k ≡ 64) × None a b from (from + i)) ⊎ ((k < i) × First a b from (from + 64) (from + k))

pub index_is : (b : ℕ) (a : List ℕ) (r : ℕ) → r ≤ length a → ((k : ℕ) → k < r → get_or a k 0 ≡ b → ⊥) → (r < length a → get_or a r 0 ≡ b) → r ≡ index_of b a
index_is b [] r h n f = omega arith
index_is b (x ∷ a) zero h n f = simp (eq-eqb x b (f (omega arith)))
index_is b (x ∷ a) (suc r) h n f = simp (ne_eqb x b (n 0 (omega arith))) (ap suc (index_is b a r (omega arith) (λ k l. n (suc k) (omega arith)) (λ l. f (omega arith))))

pub first_found : {a : List ℕ} {b r : ℕ} → First a b 0 (length a) r → Found b a r
first_found {a} {b} {r} f = record { is = index_is b a r f.high (λ k l. f.before.none k (omega arith) l) f.found; fits = f.high }

-- ---- what `near` answers
pub near_short : (a : List ℕ) (b : ℕ) → length a < 96 → Near a b 96
unfolding near_in
near_short a b h = record { is = simp (lt-ltb (length a) 96 h); inside = λ l. absurd (omega arith); found = λ l. absurd (omega arith) }

pub near_first : {a : List ℕ} {b r : ℕ} → 96 ≤ length a → First a b 0 96 r → Near a b r
unfolding near_in
near_first {a} {b} {r} h f =
    let n : length (take 96 a) ≡ 96 = length-take-le 96 a h in
    let u = f.high in
    record {
      is =
          simp (le-ltb (length a) 96 h)
          (index_is b (take 96 a) r (omega arith)
          (λ k l e. f.before.none k (omega arith) l (sym (get_or-take 96 a k 0 (omega arith)) ∙ e))
          (λ l. get_or-take 96 a r 0 (omega arith) ∙ f.found (omega arith)));
      inside = λ l. omega arith;
      found = λ l. record { low = f.low; high = omega arith; before = f.before; found = λ _. f.found l };
    }

-- ---- a line's bytes, with its LF and without one
pub size_with : (n m : ℕ) → n < m → suc n ≡ size_by n m
size_with n m h = simp (lt-ltb n m h)

pub size_without : (n m : ℕ) → m ≤ n → n ≡ size_by n m
size_without n m h = simp (le-ltb n m h)
