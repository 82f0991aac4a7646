-- Floats from whole numbers (`int_val`), and quotients by any fractions that the two equal (`div_at`).
-- Assumes nothing.
use mathlib.Core.Path.{◌≡◌, refl, sym, ap, ◌∙◌}
use mathlib.Core.Bool.{Bool, true, false, cond}
use Prim.Native.Nat.{ℕ, ◌*◌, ◌^◌, ◌≤◌, ◌<◌}
use native.Mathlib.Nat.{mul_comm, mul_assoc, mul_left_comm, mul-pos}
use native.Mathlib.Omega.{arith}
use lib.Dec.{T, eqb, eqb→eq, ltb→lt}
use lib.IntN.{pos}
use lib.Ieee.{Float, nan, inf, fin, Format, binary64, round, div, of_int}
use lib.Ieee.Exact.{HasValue}
use lib.Ieee.Back.{round_whole}
use lib.Ieee.Scale.{round_same}
use lib.Ieee.Positive.{num, den, positive, den_pos, own_value, value→cross, value_pos}

-- division of two positive numbers, by any fractions that they equal

no_zero : {A : Type 0} (b : Bool) (n : ℕ) → (T b → n ≡ 0) → 0 < n → (x y : A) → cond b x y ≡ y
no_zero true n h p x y = let z = h tt in absurd (omega arith)
no_zero false n h p x y = refl

div_is : (f : Format) (x y : Float) → T (positive x) → T (positive y) → div f x y ≡ round f false (num x * den y) (num y * den x)
unfolding div
div_is f nan y p q = absurd p
div_is f (inf s) y p q = absurd p
div_is f (fin true m e) y p q = absurd p
div_is f (fin false m e) nan p q = absurd q
div_is f (fin false m e) (inf t) p q = absurd q
div_is f (fin false m e) (fin true n d) p q = absurd q
div_is f (fin false m e) (fin false n d) p q = no_zero (eqb n 0) n (eqb→eq n 0) (ltb→lt 0 n q) _ _

pub div_at : (f : Format) (x y : Float) (a c b d : ℕ) → T (positive x) → T (positive y) → 0 < c → 0 < b → HasValue x false a c → HasValue y false b d → div f x y ≡ round f false (a * d) (b * c)
div_at f x y a c b d p q C B h k =
    div_is f x y p q
    ∙ round_same f false (num x * den y) (num y * den x) (a * d) (b * c) (mul-pos (value_pos y (num y) (den y) q (den_pos y) (own_value y q)) (den_pos x)) (mul-pos B C) cross
  where
    cross : num x * den y * (b * c) ≡ a * d * (num y * den x)
    cross =
        let u : num x * c ≡ a * den x = value→cross x a c h in
        let v : num y * d ≡ b * den y = value→cross y b d k in
        let l : num x * den y * (b * c) ≡ num x * c * (b * den y) = simp (mul_assoc, mul_comm, mul_left_comm) in
        let r : a * den x * (num y * d) ≡ a * d * (num y * den x) = simp (mul_assoc, mul_comm, mul_left_comm) in
        l ∙ ap (λ (z : ℕ). z * (b * den y)) u ∙ ap (λ (z : ℕ). a * den x * z) (sym v) ∙ r

-- whole numbers up to 2 ^ 53 are exact

pub int_val : (n : ℕ) → n ≤ 2 ^ 53 → HasValue (of_int binary64 (pos n)) false n 1
unfolding of_int
int_val n h = round_whole binary64 false n h
