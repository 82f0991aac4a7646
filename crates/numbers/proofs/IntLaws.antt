-- Signed numbers at 32 bits: sums, differences and products fit 64 (`add_fits`, `sub_fits`, `mul_fits`), the range
-- test (`in32_low`, `in32_high`, `in32_mid`), the magnitude, and a number read back from its bits (`back32`,
-- `bits_is`). Assumes nothing.
use mathlib.Core.Path.{◌≡◌, refl, sym, ap, ◌∙◌}
use mathlib.Core.Bool.{Bool, true, false, cond}
use Prim.Native.Nat.{ℕ, zero, suc, ◌+◌, ◌-◌, ◌*◌, ◌<◌, ◌≤◌}
use native.Mathlib.Nat.{mul-le-mul}
use native.Mathlib.Omega.{arith}
use lib.Dec.{eqb, ltb}
use lib.IntN.{ℤ, pos, negsuc, neg_ℤ, ◌+ℤ◌, ◌-ℤ◌, ◌*ℤ◌, nat_abs}
use lib.Signed.{mag, lt_z, nat_abs-le}
use mir.Syntax.{w32, w64}
use mir.Val.{SFits, of_z, to_z}
use mir.Facts.{to_z-of_z}
use borrow.Author.Tests.{ltb-true, ltb-false, lt-ltb, le-ltb, eq-eqb, ne_eqb, eqb-true, eqb-false}
use Rattle.numbers.specs.Int.{in32, checked, eq_z}
use Rattle.numbers.specs.declared.int.Checked.TheVariants.{Fits}

-- a number read back from its bits, by what a call says of its range
pub back32 : (z : ℤ) → mag z < 2147483648 → to_z w32 (of_z w32 z) ≡ z
back32 z h = to_z-of_z {w = w32} (record { sfits = h })

pub back64 : (z : ℤ) → mag z < 9223372036854775808 → to_z w64 (of_z w64 z) ≡ z
back64 z h = to_z-of_z {w = w64} (record { sfits = h })

-- sums, differences and products of 32 bits fit 64

mag_cond : (t : Bool) (a b : ℕ) → mag (cond t (negsuc (b - suc a)) (pos (a - b))) ≤ a + b
mag_cond true a b = omega arith
mag_cond false a b = omega arith

mag_add : (a b : ℤ) → mag (a +ℤ b) ≤ suc (mag a + mag b)
mag_add (pos a) (pos b) = omega arith
mag_add (pos a) (negsuc b) = omega (arith, mag_cond (ltb a (suc b)) a (suc b))
mag_add (negsuc a) (pos b) = omega (arith, mag_cond (ltb b (suc a)) b (suc a))
mag_add (negsuc a) (negsuc b) = omega arith

pub mag_neg_pos : (n : ℕ) → mag (neg_ℤ (pos n)) ≡ n - 1
mag_neg_pos zero = refl
mag_neg_pos (suc n) = omega arith

mag_neg : (a : ℤ) → mag (neg_ℤ a) ≤ suc (mag a)
mag_neg (pos n) = omega (arith, mag_neg_pos n)
mag_neg (negsuc n) = omega arith

mag_mul : (a b : ℤ) → mag (a *ℤ b) ≤ nat_abs a * nat_abs b
mag_mul (pos a) (pos b) = omega arith
mag_mul (pos a) (negsuc b) = omega (arith, mag_neg_pos (a * suc b))
mag_mul (negsuc a) (pos b) = omega (arith, mag_neg_pos (suc a * b))
mag_mul (negsuc a) (negsuc b) = omega arith

module _ (a b : ℤ) (p : SFits w32 a) (q : SFits w32 b) where
  pub add_fits : SFits w64 (a +ℤ b)
  add_fits = record { sfits = omega (arith, mag_add a b) }

  pub sub_fits : SFits w64 (a -ℤ b)
  sub_fits = record { sfits = omega (arith, mag_add a (neg_ℤ b), mag_neg b) }

  pub mul_fits : SFits w64 (a *ℤ b)
  mul_fits =
      let h : nat_abs a * nat_abs b ≤ 2147483648 * 2147483648 = mul-le-mul (nat_abs-le a p.sfits) (nat_abs-le b q.sfits) in
      record { sfits = omega (arith, mag_mul a b) }

-- the range test

pub in32_low : (t : ℤ) → lt_z t (negsuc 2147483647) ≡ true → in32 t ≡ false
in32_low (pos n) e = cc
in32_low (negsuc n) e = le-ltb n 2147483648 (omega (arith, ltb-true 2147483647 n e))

pub in32_high : (t : ℤ) → lt_z (pos 2147483647) t ≡ true → in32 t ≡ false
in32_high (pos n) e = le-ltb n 2147483648 (omega (arith, ltb-true 2147483647 n e))
in32_high (negsuc n) e = cc

pub in32_mid : (t : ℤ) → lt_z t (negsuc 2147483647) ≡ false → lt_z (pos 2147483647) t ≡ false → in32 t ≡ true
in32_mid (pos n) e f = lt-ltb n 2147483648 (omega (arith, ltb-false 2147483647 n f))
in32_mid (negsuc n) e f = lt-ltb n 2147483648 (omega (arith, ltb-false 2147483647 n e))

-- what a checked result says of the number

pub checked_in : (z : ℤ) → mag z < 2147483648 → checked z ≡ Fits z
checked_in z h = simp (lt-ltb (mag z) 2147483648 h)

-- the magnitude, by the sign

pub abs_neg : (d : ℤ) → lt_z d (pos 0) ≡ true → pos 0 -ℤ d ≡ pos (nat_abs d)
abs_neg (pos n) e = cc (simp (le-ltb n 0 (omega arith)) at e)
abs_neg (negsuc n) e = ap pos (omega arith)

pub abs_pos : (d : ℤ) → lt_z d (pos 0) ≡ false → pos (nat_abs d) ≡ d
abs_pos (pos n) e = refl
abs_pos (negsuc n) e = cc

-- two numbers have the same bits just where they are the same
eqb_by : (t : Bool) (a b x y : ℕ) → eqb a b ≡ t → (a ≡ b → x ≡ y) → (x ≡ y → a ≡ b) → eqb x y ≡ t
eqb_by true a b x y e f g = eq-eqb x y (f (eqb-true a b e))
eqb_by false a b x y e f g = ne_eqb x y (λ h. eqb-false a b e (g h))

pub eq_bits : (a b : ℤ) → mag a < 2147483648 → mag b < 2147483648 → eqb (of_z w32 a) (of_z w32 b) ≡ eq_z a b
eq_bits (pos a) (pos b) p q = refl
eq_bits (pos a) (negsuc b) p q = ne_eqb (of_z w32 (pos a)) (of_z w32 (negsuc b)) (λ h. omega arith)
eq_bits (negsuc a) (pos b) p q = ne_eqb (of_z w32 (negsuc a)) (of_z w32 (pos b)) (λ h. omega arith)
eq_bits (negsuc a) (negsuc b) p q = eqb_by (eqb a b) a b (of_z w32 (negsuc a)) (of_z w32 (negsuc b)) refl (λ h. omega arith) (λ h. omega arith)

-- a signed number that a `match` has told, or not told, to be n
pub bits_is : (z : ℤ) (n : ℕ) → mag z < 2147483648 → n < 2147483648 → of_z w32 z ≡ n → z ≡ pos n
bits_is (pos a) n p q e = ap pos e
bits_is (negsuc a) n p q e = absurd (omega arith)

pub bits_not : (z : ℤ) (n : ℕ) → mag z < 2147483648 → n < 2147483648 → (of_z w32 z ≡ n → ⊥) → eq_z z (pos n) ≡ false
bits_not z n p q h = sym (eq_bits z (pos n) p q) ∙ ne_eqb (of_z w32 z) n h
