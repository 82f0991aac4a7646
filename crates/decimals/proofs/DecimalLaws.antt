-- Numbers as they are written: digits one after the other, their bytes, their value.
-- Assumes nothing.
use mathlib.Core.Path.{◌≡◌, sym, ap, ◌∙◌}
use mathlib.Core.Bool.{Bool, true, false}
use mathlib.Core.List.{List, [], ◌∷◌, ◌++◌}
use mathlib.Core.Option.{some}
use Prim.Native.Nat.{ℕ, zero, suc, ◌+◌, ◌-◌, ◌*◌, ◌/◌, ◌%◌, ◌^◌, ◌<◌, ◌≤◌}
use native.Mathlib.Nat.{not-suc-le-zero, pow-suc}
use native.Mathlib.Omega.{arith}
use lib.ListN.{length, length-append}
use lib.Dec.{ltb}
use borrow.Author.Tests.{lt-ltb, le-ltb, ltb-false, ltb-true}
use Rattle.text.specs.Class.{is_digit, all_digits}
use Rattle.text.proofs.BoolLaws.{test, and_both, within_true}
use Rattle.numbers.specs.Number.{value_from}
use Rattle.decimals.specs.Decimal.{digits_by, digits}

-- one digit, or those of the tenth and then the last

module _ (k n : ℕ) where
  by_ten : {x : Bool} → ltb n 10 ≡ x → digits_by (suc k) n ≡ elim x as (λ y. List ℕ) [ true ↦ (48 + n) ∷ [] | false ↦ digits_by k (n / 10) ++ ((48 + n % 10) ∷ []) ]
  by_ten {x} e = ap (λ (x : Bool). elim x as (λ y. List ℕ) [ true ↦ (48 + n) ∷ [] | false ↦ digits_by k (n / 10) ++ ((48 + n % 10) ∷ []) ]) e

-- enough is enough
digits_fuel : (k j n : ℕ) → n < k → n < j → digits_by k n ≡ digits_by j n
digits_fuel zero j n h g = absurd (not-suc-le-zero h)
digits_fuel (suc k) zero n h g = absurd (not-suc-le-zero g)
digits_fuel (suc k) (suc j) n h g =
    test (ltb n 10)
    (λ e. by_ten k n e ∙ sym (by_ten j n e))
    (λ e.
    let l = ltb-false n 10 e in
    by_ten k n e ∙ ap (λ (xs : List ℕ). xs ++ ((48 + n % 10) ∷ [])) (digits_fuel k j (n / 10) (omega arith) (omega arith)) ∙ sym (by_ten j n e))

pub digits_one : (n : ℕ) → n < 10 → digits n ≡ (48 + n) ∷ []
unfolding digits
digits_one n h = by_ten n n (lt-ltb n 10 h)

pub digits_more : (n : ℕ) → 10 ≤ n → digits n ≡ digits (n / 10) ++ ((48 + n % 10) ∷ [])
unfolding digits
digits_more n h =
    by_ten n n (le-ltb n 10 h) ∙ ap (λ (xs : List ℕ). xs ++ ((48 + n % 10) ∷ [])) (digits_fuel n (suc (n / 10)) (n / 10) (omega arith) (omega arith))

-- by digits
by_fuel : (P : ℕ → Type 0) → ((n : ℕ) → n < 10 → P n) → ((n : ℕ) → 10 ≤ n → P (n / 10) → P n) → (k n : ℕ) → n < k → P n
by_fuel P f g zero n h = absurd (not-suc-le-zero h)
by_fuel P f g (suc k) n h = test (ltb n 10) (λ e. f n (ltb-true n 10 e)) (λ e. let l = ltb-false n 10 e in g n l (by_fuel P f g k (n / 10) (omega arith)))

pub by_digits : (P : ℕ → Type 0) → ((n : ℕ) → n < 10 → P n) → ((n : ℕ) → 10 ≤ n → P (n / 10) → P n) → (n : ℕ) → P n
by_digits P f g n = by_fuel P f g (suc n) n (omega arith)

-- how many there are

pub length_one : (n : ℕ) → n < 10 → length (digits n) ≡ 1
length_one n h = ap length (digits_one n h)

pub length_more : (n : ℕ) → 10 ≤ n → length (digits n) ≡ length (digits (n / 10)) + 1
length_more n h = ap length (digits_more n h) ∙ length-append (digits (n / 10)) ((48 + n % 10) ∷ [])

pub digits_some : (n : ℕ) → 0 < length (digits n)
digits_some n = by_digits (λ (n : ℕ). 0 < length (digits n)) (λ n h. omega (arith, length_one n h)) (λ n h i. omega (arith, length_more n h)) n

-- their value

value_snoc : (xs : List ℕ) (acc v d : ℕ) → value_from acc xs ≡ some v → is_digit d ≡ true → value_from acc (xs ++ (d ∷ [])) ≡ some (v * 10 + (d - 48))
value_snoc [] acc v d h e = let k : acc ≡ v = cc in simp (e, k)
value_snoc (x ∷ xs) acc v d h e =
    test (is_digit x)
    (λ t. simp t (value_snoc xs (acc * 10 + (x - 48)) v d (simp t at h) e))
    (λ t. let k : ◌≡◌ {A = ℕ} 0 1 = cc (simp t at h) in absurd (omega arith))

digit_of : (n : ℕ) → n < 10 → is_digit (48 + n) ≡ true
digit_of n h = within_true 48 57 (48 + n) (omega arith) (omega arith)

pub digits_value : (n : ℕ) → value_from 0 (digits n) ≡ some n
digits_value n =
    by_digits (λ (n : ℕ). value_from 0 (digits n) ≡ some n)
    (λ n h. let k : 0 * 10 + (48 + n - 48) ≡ n = omega arith in rw (digits_one n h) (simp (digit_of n h) (ap some k)))
    (λ n h i.
    let m : n % 10 < 10 = omega arith in
    let k : n / 10 * 10 + (48 + n % 10 - 48) ≡ n = omega arith in
    rw (digits_more n h) (value_snoc (digits (n / 10)) 0 (n / 10) (48 + n % 10) i (digit_of (n % 10) m) ∙ ap some k))
    n

-- at most k where n has k
pub digits_le : (k n : ℕ) → n < 10 ^ suc k → length (digits n) ≤ suc k
digits_le zero n h = omega (arith, length_one n (omega arith))
digits_le (suc k) n h =
    test (ltb n 10)
    (λ e. omega (arith, length_one n (ltb-true n 10 e)))
    (λ e.
    let l = ltb-false n 10 e in
    let p : 10 ^ suc (suc k) ≡ 10 ^ suc k * 10 = pow-suc 10 (suc k) in
    let m : n / 10 < 10 ^ suc k = omega arith in
    let i = digits_le k (n / 10) m in omega (arith, length_more n l))

pub digits_small : (n : ℕ) → length (digits n) ≤ suc n
digits_small n =
    by_digits (λ (n : ℕ). length (digits n) ≤ suc n) (λ n h. omega (arith, length_one n h)) (λ n h i. omega (arith, length_more n h)) n

-- they are digits

all_snoc : (xs : List ℕ) (d : ℕ) → all_digits xs ≡ true → is_digit d ≡ true → all_digits (xs ++ (d ∷ [])) ≡ true
all_snoc [] d h e = simp e
all_snoc (x ∷ xs) d h e = let k = and_both (is_digit x) (all_digits xs) h in simp k.0 (all_snoc xs d k.1 e)

pub digits_all : (n : ℕ) → all_digits (digits n) ≡ true
digits_all n =
    by_digits (λ (n : ℕ). all_digits (digits n) ≡ true)
    (λ n h. rw (digits_one n h) (simp (digit_of n h)))
    (λ n h i. let m : n % 10 < 10 = omega arith in rw (digits_more n h) (all_snoc (digits (n / 10)) (48 + n % 10) i (digit_of (n % 10) m)))
    n
