-- Along one axis: from a to a + n, and back. Assumes nothing.
use mathlib.Core.Path.{◌≡◌, refl, sym, ap, ◌∙◌}
use mathlib.Core.Bool.{false}
use Prim.Native.Nat.{ℕ, zero, suc, ◌+◌, ◌-◌, ◌<◌}
use native.Mathlib.Omega.{arith}
use lib.Dec.{ltb}
use lib.IntN.{ℤ, pos, negsuc, neg_ℤ, nat_abs, ◌+ℤ◌, ◌-ℤ◌, +ℤ_comm, +ℤ-neg_ℤ_cancel, +ℤ_assoc, +ℤ_invr, +ℤ_idl, neg_ℤ-+ℤ}
use lib.Signed.{lt_z}
use borrow.Author.Tests.{lt-ltb, le-ltb, ltb-true, ltb-false}
use Rattle.text.proofs.BoolLaws.{test}
use Rattle.numbers.specs.Int.{min_z}
use Rattle.numbers.proofs.IntLaws.{checked_in, mag_neg_pos}
use Rattle.draws.specs.declared.draw.Measured.TheVariants as measured
use Rattle.draws.specs.Axes.{extent_of}

-- forth and back

pub forth : (a w : ℤ) → (a +ℤ w) -ℤ a ≡ w
forth a w = ap (λ (z : ℤ). z -ℤ a) (+ℤ_comm a w) ∙ +ℤ-neg_ℤ_cancel w a

pub low_forth : (a : ℤ) (n : ℕ) → min_z a (a +ℤ pos n) ≡ a
low_forth (pos a) n =
    test (ltb a (a + n))
    (λ e. simp e)
    (λ e. let h = ltb-false a (a + n) e in simp e (ap pos (omega arith)))
low_forth (negsuc a) n =
    test (ltb n (suc a))
    (λ e.
    let h = ltb-true n (suc a) e in
    test (ltb (suc a - suc n) a)
    (λ f. simp (e, f))
    (λ f. let g = ltb-false (suc a - suc n) a f in simp (e, f) (ap negsuc (omega arith))))
    (λ e. simp e)

pub low_back : (a : ℤ) (n : ℕ) → min_z (a +ℤ pos n) a ≡ a
low_back (pos a) n = simp (le-ltb (a + n) a (omega arith))
low_back (negsuc a) n =
    test (ltb n (suc a))
    (λ e. simp (e, le-ltb a (suc a - suc n) (omega arith)))
    (λ e. simp e)

back : (a w : ℤ) → a -ℤ (a +ℤ w) ≡ neg_ℤ w
back a w = ap (λ (z : ℤ). a +ℤ z) (neg_ℤ-+ℤ a w) ∙ sym (+ℤ_assoc a (neg_ℤ a) (neg_ℤ w)) ∙ ap (λ (z : ℤ). z +ℤ neg_ℤ w) (+ℤ_invr a) ∙ +ℤ_idl (neg_ℤ w)

abs_neg : (n : ℕ) → nat_abs (neg_ℤ (pos n)) ≡ n
abs_neg zero = refl
abs_neg (suc n) = refl

rises_neg : (n : ℕ) → lt_z (pos 0) (neg_ℤ (pos n)) ≡ false
rises_neg zero = refl
rises_neg (suc n) = refl

falls_neg : (n : ℕ) → lt_z (neg_ℤ (pos n)) (pos 0) ≡ ltb 0 n
falls_neg zero = refl
falls_neg (suc n) = sym (lt-ltb 0 (suc n) (omega arith))

-- the extents

pub extent_forth : (a : ℤ) (n : ℕ) → n < 2147483648 → extent_of a (a +ℤ pos n) ≡ measured.Of (record { size = pos n; rises = ltb 0 n; falls = false })
unfolding extent_of
extent_forth a n h = rw (forth a (pos n), checked_in (pos n) h) (simp (lt-ltb n 2147483648 h, le-ltb n 0 (omega arith)))

pub extent_back : (a : ℤ) (n : ℕ) → n < 2147483648 → extent_of (a +ℤ pos n) a ≡ measured.Of (record { size = pos n; rises = false; falls = ltb 0 n })
unfolding extent_of
extent_back a n h =
    rw (back a (pos n), checked_in (neg_ℤ (pos n)) (omega (arith, mag_neg_pos n)))
    (simp (abs_neg n, lt-ltb n 2147483648 h, rises_neg n, falls_neg n))
