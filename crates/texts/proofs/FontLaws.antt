-- A text's width, height × across / height at binary64, is exact where the product is below 2 ^ 53 (`width_exact`).
-- Assumes nothing.
use mathlib.Core.Path.{◌≡◌, sym, ◌∙◌, subst}
use mathlib.Core.Bool.{false}
use Prim.Native.Nat.{ℕ, ◌*◌, ◌^◌, ◌≤◌, ◌<◌}
use native.Mathlib.Nat.{le_of_lt, le_trans, le_of_eq, zero-lt-suc, mul-one, one-mul, mul_comm, mul-pos, mul-le-mul_right, mul-le-mul_left}
use lib.Dec.{T}
use lib.IntN.{pos}
use lib.Ieee.{Float, binary64, round, mul, of_int}
use lib.Ieee.Exact.{HasValue}
use lib.Ieee.Back.{round_whole}
use lib.Ieee.Scale.{round_same}
use lib.Ieee.Positive.{positive, positive_of_value, mul_at}
use Rattle.texts.specs.Font.{width_of}
use Rattle.parameters.proofs.FloatLaws.{div_at, int_val}

-- 01, "Grammar": "A product below 2^53 gives the width exactly"
pub width_exact : (h a : ℕ) → 0 < h → 0 < a → h * a < 2 ^ 53 → width_of (pos h) (pos a) ≡ of_int binary64 (pos a)
unfolding width_of of_int
width_exact h a H A small =
    let hl : h ≤ 2 ^ 53 = le_trans (le_trans (le_of_eq (sym (mul-one h))) (mul-le-mul_left h A)) (le_of_lt small) in
    let al : a ≤ 2 ^ 53 = le_trans (le_trans (le_of_eq (sym (one-mul a))) (mul-le-mul_right a H)) (le_of_lt small) in
    let x = of_int binary64 (pos h) in
    let y = of_int binary64 (pos a) in
    let vx : HasValue x false h 1 = int_val h hl in
    let vy : HasValue y false a 1 = int_val a al in
    let px : T (positive x) = positive_of_value x h 1 vx H in
    let py : T (positive y) = positive_of_value y a 1 vy A in
    let m : mul binary64 x y ≡ round binary64 false (h * a) 1 = mul_at binary64 x y h 1 a 1 px py (zero-lt-suc 0) (zero-lt-suc 0) vx vy in
    let vm : HasValue (mul binary64 x y) false (h * a) 1 = subst (λ (z : Float). HasValue z false (h * a) 1) (sym m) (round_whole binary64 false (h * a) (le_of_lt small)) in
    let pm : T (positive (mul binary64 x y)) = positive_of_value (mul binary64 x y) (h * a) 1 vm (mul-pos H A) in
    div_at binary64 (mul binary64 x y) x (h * a) 1 h 1 pm px (zero-lt-suc 0) H vm vx
    ∙ round_same binary64 false (h * a * 1) (h * 1) a 1 (mul-pos H (zero-lt-suc 0)) (zero-lt-suc 0) (simp (mul-one, mul_comm))
