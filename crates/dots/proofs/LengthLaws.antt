-- One length: `to300` by the sign, its error, that it alone is the nearest, that it keeps the order, and where it has
-- 32 bits. Assumes nothing.
use mathlib.Core.Path.{◌≡◌, refl, sym, ap, ◌∙◌}
use mathlib.Core.Bool.{Bool, true, false, cond, ◌&&◌}
use Prim.Native.Nat.{ℕ, zero, suc, ◌+◌, ◌-◌, ◌*◌, ◌/◌, ◌<◌, ◌≤◌}
use native.Mathlib.Nat.{div-mul-le_self, lt-div-mul-add}
use native.Mathlib.Omega.{arith}
use lib.Dec.{ltb, leb}
use lib.IntN.{ℤ, pos, negsuc, neg_ℤ, nat_abs, sub_ℕ, ◌+ℤ◌, ◌-ℤ◌}
use lib.Signed.{mag, le_z, shr_z}
use borrow.Author.Tests.{ltb-true, ltb-false, lt-ltb, le-ltb, leb-true, leb-false, le-leb}
use Rattle.text.proofs.BoolLaws.{test}
use Rattle.numbers.specs.Int.{in32, twos}
use Rattle.dots.specs.Length.{error, Near, Nearest, to300, converted}
use Rattle.dots.specs.declared.length.Converted.TheVariants.{Dots, Outside}

-- ---- by the sign

neg_suc : (m n : ℕ) → m ≡ suc n → neg_ℤ (pos m) ≡ negsuc n
neg_suc m n h = ap (λ (x : ℕ). neg_ℤ (pos x)) h

neg_add : (a b : ℕ) → b ≤ a → negsuc a +ℤ pos b ≡ negsuc (a - b)
neg_add a b h = simp (lt-ltb b (suc a) (omega arith)) (ap negsuc (omega arith))

pub to300_pos : (k : ℕ) → to300 (pos k) ≡ pos ((k * 600 + 203) / 406)
unfolding to300
to300_pos k = ap (λ (m : ℕ). pos (m / 406)) (omega arith)

pub to300_neg : (k : ℕ) → to300 (negsuc k) ≡ negsuc ((k * 600 + 396) / 406)
unfolding to300
to300_neg k =
    let e : 600 * suc k ≡ suc (k * 600 + 599) = omega arith in
    ap (λ (z : ℤ). shr_z (z +ℤ pos 203) 406) (neg_suc (600 * suc k) (k * 600 + 599) e)
    ∙ ap (λ (z : ℤ). shr_z z 406) (neg_add (k * 600 + 599) 203 (omega arith))
    ∙ ap (λ (m : ℕ). negsuc (m / 406)) (omega arith)

-- what a quotient by 406 says
div_low : (n : ℕ) → n / 406 * 406 ≤ n
div_low n = div-mul-le_self n 406

div_high : (n : ℕ) → n < n / 406 * 406 + 406
div_high n = lt-div-mul-add {a = n} {b = 406} (omega arith)

-- ---- the error, by the signs

abs_by : (t : Bool) (a b : ℕ) → ltb a b ≡ t → nat_abs (cond t (negsuc (b - suc a)) (pos (a - b))) ≡ (a - b) + (b - a)
abs_by true a b e = omega (arith, ltb-true a b e)
abs_by false a b e = omega (arith, ltb-false a b e)

abs_sub : (a b : ℕ) → nat_abs (sub_ℕ a b) ≡ (a - b) + (b - a)
abs_sub a b = abs_by (ltb a b) a b refl

pub apart_both : (a b : ℕ) → nat_abs (pos a -ℤ pos b) ≡ (a - b) + (b - a)
apart_both a zero = omega arith
apart_both a (suc b) = abs_sub a (suc b)

apart_left : (a b : ℕ) → nat_abs (neg_ℤ (pos a) -ℤ pos b) ≡ a + b
apart_left zero zero = refl
apart_left zero (suc b) = abs_sub zero (suc b) ∙ omega arith
apart_left (suc a) zero = abs_sub zero (suc a) ∙ omega arith
apart_left (suc a) (suc b) = omega arith

apart_right : (a b : ℕ) → nat_abs (pos a -ℤ neg_ℤ (pos b)) ≡ a + b
apart_right a zero = refl
apart_right a (suc b) = refl

apart_none : (a b : ℕ) → nat_abs (neg_ℤ (pos a) -ℤ neg_ℤ (pos b)) ≡ (a - b) + (b - a)
apart_none zero zero = refl
apart_none zero (suc b) = omega arith
apart_none (suc a) zero = abs_sub zero (suc a) ∙ omega arith
apart_none (suc a) (suc b) = abs_sub (suc b) (suc a) ∙ omega arith

pub error_pp : (k z : ℕ) → error (pos k) (pos z) ≡ (203 * z - 300 * k) + (300 * k - 203 * z)
error_pp k z = apart_both (203 * z) (300 * k)

pub error_pn : (k z : ℕ) → error (pos k) (negsuc z) ≡ 203 * suc z + 300 * k
error_pn k z = apart_left (203 * suc z) (300 * k)

pub error_np : (k z : ℕ) → error (negsuc k) (pos z) ≡ 203 * z + 300 * suc k
error_np k z = apart_right (203 * z) (300 * suc k)

pub error_nn : (k z : ℕ) → error (negsuc k) (negsuc z) ≡ (203 * suc z - 300 * suc k) + (300 * suc k - 203 * suc z)
error_nn k z = apart_none (203 * suc z) (300 * suc k)

-- ---- "at most 101, also below zero"

within_pos : (k z : ℕ) → z * 406 ≤ k * 600 + 203 → k * 600 + 203 < z * 406 + 406 → error (pos k) (pos z) ≤ 101
within_pos k z l h = rw (error_pp k z) (omega arith)

within_neg : (k z : ℕ) → z * 406 ≤ k * 600 + 396 → k * 600 + 396 < z * 406 + 406 → error (negsuc k) (negsuc z) ≤ 101
within_neg k z l h = rw (error_nn k z) (omega arith)

pub to300_near : (n : ℤ) → Near n (to300 n)
to300_near (pos k) =
    rw (to300_pos k) (within_pos k ((k * 600 + 203) / 406) (div_low (k * 600 + 203)) (div_high (k * 600 + 203)))
to300_near (negsuc k) =
    rw (to300_neg k) (within_neg k ((k * 600 + 396) / 406) (div_low (k * 600 + 396)) (div_high (k * 600 + 396)))

-- ---- one number alone is so near

pub near_one : (n z w : ℤ) → Near n z → Near n w → z ≡ w
near_one (pos k) (pos a) (pos b) p q = let p' = rw (error_pp k a) at p in let q' = rw (error_pp k b) at q in ap pos (omega arith)
near_one (pos k) (negsuc a) w p q = let p' = rw (error_pn k a) at p in absurd (omega arith)
near_one (pos k) (pos a) (negsuc b) p q = let q' = rw (error_pn k b) at q in absurd (omega arith)
near_one (negsuc k) (pos a) w p q = let p' = rw (error_np k a) at p in absurd (omega arith)
near_one (negsuc k) (negsuc a) (pos b) p q = let q' = rw (error_np k b) at q in absurd (omega arith)
near_one (negsuc k) (negsuc a) (negsuc b) p q = let p' = rw (error_nn k a) at p in let q' = rw (error_nn k b) at q in ap negsuc (omega arith)

-- ---- it is the nearest, and no other is

pub near_nearest : (n z : ℤ) → Near n z → Nearest n z
near_nearest n z h w =
    test (leb (error n w) 101)
    (λ e. let l = leb-true (error n w) 101 e in omega (arith, ap (error n) (near_one n z w h l)))
    (λ e. let l = leb-false (error n w) 101 e in omega arith)

pub to300_nearest : (n : ℤ) → Nearest n (to300 n)
to300_nearest n = near_nearest n (to300 n) (to300_near n)

pub nearest_to300 : (n z : ℤ) → Nearest n z → z ≡ to300 n
nearest_to300 n z h = near_one n z (to300 n) (omega (arith, h (to300 n), to300_near n)) (to300_near n)

-- ---- it keeps the order

order_by : (c a b x y : ℕ) → a ≤ b → x * 406 ≤ a * 600 + c → b * 600 + c < y * 406 + 406 → x ≤ y
order_by c a b x y h l u = omega arith

pub to300_order : (a b : ℤ) → le_z a b ≡ true → le_z (to300 a) (to300 b) ≡ true
to300_order (pos a) (pos b) h =
    rw (to300_pos a, to300_pos b)
    (le-leb ((a * 600 + 203) / 406) ((b * 600 + 203) / 406) (order_by 203 a b ((a * 600 + 203) / 406) ((b * 600 + 203) / 406) (leb-true a b h) (div_low (a * 600 + 203)) (div_high (b * 600 + 203))))
to300_order (pos a) (negsuc b) h = cc
to300_order (negsuc a) (pos b) h = rw (to300_neg a, to300_pos b) refl
to300_order (negsuc a) (negsuc b) h =
    rw (to300_neg a, to300_neg b)
    (le-leb ((b * 600 + 396) / 406) ((a * 600 + 396) / 406) (order_by 396 b a ((b * 600 + 396) / 406) ((a * 600 + 396) / 406) (leb-true b a h) (div_low (b * 600 + 396)) (div_high (a * 600 + 396))))

-- ---- where it has 32 bits

same_by : (t : Bool) (x m k l : ℕ) → leb k l ≡ t → (k ≤ l → x < m) → (l < k → m ≤ x) → ltb x m ≡ t
same_by true x m k l e f g = lt-ltb x m (f (leb-true k l e))
same_by false x m k l e f g = le-ltb x m (g (leb-false k l e))

range_by : (c k z : ℕ) → c ≤ 396 → 203 ≤ c → z * 406 ≤ k * 600 + c → k * 600 + c < z * 406 + 406 → ltb z 2147483648 ≡ leb k 1453130601
range_by c k z a b l h = same_by (leb k 1453130601) z 2147483648 k 1453130601 refl (λ p. omega arith) (λ p. omega arith)

and_true : (t : Bool) → (t && true) ≡ t
and_true true = refl
and_true false = refl

-- "Results beyond 32 bits": just those of lengths beyond -1453130602 to 1453130601
pub to300_range : (n : ℤ) → in32 (to300 n) ≡ (le_z (negsuc 1453130601) n && le_z n (pos 1453130601))
to300_range (pos k) = rw (to300_pos k) (range_by 203 k ((k * 600 + 203) / 406) (omega arith) (omega arith) (div_low (k * 600 + 203)) (div_high (k * 600 + 203)))
to300_range (negsuc k) =
    rw (to300_neg k, and_true (leb k 1453130601)) (range_by 396 k ((k * 600 + 396) / 406) (omega arith) (omega arith) (div_low (k * 600 + 396)) (div_high (k * 600 + 396)))

-- ---- what the code computes

pub minus_one : (z : ℕ) → negsuc 0 -ℤ pos z ≡ negsuc z
minus_one zero = refl
minus_one (suc z) = ap negsuc (omega arith)

module _ (n z : ℤ) (e : to300 n ≡ z) where
  pub converted_at : mag z < 2147483648 → Dots (record { 0 = z }) ≡ converted (to300 n)
  converted_at h = rw e (simp (lt-ltb (mag z) 2147483648 h))

  pub converted_past : 2147483648 ≤ mag z → Outside ≡ converted (to300 n)
  converted_past h = rw e (simp (le-ltb (mag z) 2147483648 h))

-- a number by its bits
pub twos_low : (v : ℤ) (b : ℕ) → mag v < 2147483648 → b ≡ twos v → b < 2147483648 → v ≡ pos b
twos_low (pos n) b f e h = ap pos (sym e)
twos_low (negsuc n) b f e h = absurd (omega arith)

pub twos_high : (v : ℤ) (b : ℕ) → mag v < 2147483648 → b ≡ twos v → 2147483648 ≤ b → v ≡ negsuc (4294967295 - b)
twos_high (pos n) b f e h = absurd (omega arith)
twos_high (negsuc n) b f e h = ap negsuc (omega arith)
