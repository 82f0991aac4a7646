-- Types (`symbology_one`), sizes (`size_tests`), modes (`mode_tests`) and module widths (`clamped_or_le`) of 2D bar
-- codes, as the code tests them. Assumes nothing.
use mathlib.Core.Path.{◌≡◌, refl, sym}
use mathlib.Core.Bool.{Bool, true, cond, not, ◌&&◌, ◌||◌}
use mathlib.Core.List.{List}
use Prim.Native.Nat.{ℕ, suc, ◌*◌, ◌<◌, ◌≤◌}
use native.Mathlib.Omega.{arith}
use lib.Dec.{eqb, leb, ltb, leb-suc-suc}
use lib.IntN.{ℤ, pos, negsuc, ◌*ℤ◌}
use lib.Signed.{mag, lt_z}
use lib.ListN.{length, get_or}
use borrow.Author.Tests.{ltb-true, ltb-false, lt-ltb, le-leb, lt-leb, eq-eqb, ne_eqb, eqb-false}
use Rattle.text.proofs.BoolLaws.{test}
use Rattle.parameters.proofs.ParamsLaws.{same_one, same_other}
use Rattle.numbers.proofs.IntLaws.{mag_neg_pos}
use Rattle.numbers.specs.Int.{eq_z, min_z}
use Rattle.numbers.specs.declared.number.Number.{Number}
use Rattle.numbers.specs.declared.number.Number.TheVariants as number
use Rattle.barcodes_2d.specs.Letters.{letter_of}
use Rattle.barcodes_2d.specs.Barcode2d.{symbology_of, between, aztec_size, is_mode}
use Rattle.barcodes_2d.specs.Options.{clamped, clamped_or}
use Rattle.barcodes_2d.specs.declared.barcode_2d.Symbology2d.TheVariants.{Unlisted}

-- a type is one letter

pub symbology_one : (t : List ℕ) → length t ≡ 1 → symbology_of t ≡ letter_of (get_or t 0 0)
unfolding symbology_of letter_of
symbology_one t h = simp (same_one t 65 h, same_one t 68 h, same_one t 77 h, same_one t 80 h, same_one t 81 h)

pub symbology_other : (t : List ℕ) → (length t ≡ 1 → ⊥) → Unlisted ≡ symbology_of t
unfolding symbology_of
symbology_other t h = rw (← same_other t 65 h, ← same_other t 68 h, ← same_other t 77 h, ← same_other t 80 h, ← same_other t 81 h)

-- the size of an Aztec code, by tests of order alone

le_not : (a n : ℕ) → leb a n ≡ not (ltb n a)
le_not a n = test (ltb n a) (λ e. simp (e, lt-leb a n (ltb-true n a e))) (λ e. simp (e, le-leb a n (ltb-false n a e)))

between_tests : (lo hi : ℕ) (n : ℤ) → between (pos lo) (pos hi) n ≡ (not (lt_z n (pos lo)) && lt_z n (pos (suc hi)))
between_tests lo hi (pos n) = rw (le_not lo n, leb-suc-suc n hi)
between_tests lo hi (negsuc n) = refl

pub size_tests : (n : ℤ) {a b c d e f g : Bool} → lt_z n (pos 1) ≡ a → lt_z n (pos 100) ≡ b → lt_z n (pos 101) ≡ c → lt_z n (pos 105) ≡ d → lt_z n (pos 201) ≡ e → lt_z n (pos 233) ≡ f → eq_z n (pos 300) ≡ g → aztec_size n ≡ cond (not a && b || not c && d || not e && f || g) n (pos 0)
unfolding aztec_size
size_tests n p q r s t u v = rw (between_tests 1 99 n, between_tests 101 104 n, between_tests 201 232 n, p, q, r, s, t, u, v)

pub lt_more : (a b : ℕ) (n : ℤ) → a ≤ b → lt_z n (pos a) ≡ true → lt_z n (pos b) ≡ true
lt_more a b (pos n) h e = lt-ltb n b (let k = ltb-true n a e in omega arith)
lt_more a b (negsuc n) h e = refl

-- MaxiCode's modes, likewise

two_to_four : (n : ℕ) → (eqb n 2 || eqb n 3 || eqb n 4) ≡ (not (ltb n 2) && ltb n 5)
two_to_four n =
    test (ltb n 2)
    (λ d. let h = ltb-true n 2 d in simp (d, ne_eqb n 2 (λ k. omega arith), ne_eqb n 3 (λ k. omega arith), ne_eqb n 4 (λ k. omega arith)))
    (λ d. let h = ltb-false n 2 d in test (ltb n 5)
    (λ e. let k = ltb-true n 5 e in test (eqb n 2)
    (λ f. simp (d, e, f))
    (λ f. test (eqb n 3)
    (λ g. simp (d, e, f, g))
    (λ g. simp (d, e, f, g, eq-eqb n 4 (omega (arith, eqb-false n 2 f, eqb-false n 3 g))))))
    (λ e. let k = ltb-false n 5 e in simp (d, e, ne_eqb n 2 (λ z. omega arith), ne_eqb n 3 (λ z. omega arith), ne_eqb n 4 (λ z. omega arith))))

pub mode_tests : (n : ℤ) {a b c : Bool} → lt_z n (pos 2) ≡ a → lt_z n (pos 5) ≡ b → eq_z n (pos 6) ≡ c → is_mode n ≡ (not a && b || c)
mode_tests (pos n) p q r = rw (two_to_four n, p, q, r)
mode_tests (negsuc n) p q r = rw (sym p, sym r)

-- a module width is 9 at most, so that 4 of it have 32 bits

min_le : (k hi : ℕ) → mag (min_z (pos k) (pos hi)) ≤ hi
min_le k hi = test (ltb k hi) (λ e. rw e (let h = ltb-true k hi e in omega arith)) (λ e. rw e (omega arith))

clamped_le : (lo hi : ℕ) (z : ℤ) → mag (clamped (pos lo) (pos hi) z) ≤ hi
clamped_le lo hi (pos z) = test (ltb z lo) (λ e. rw e (min_le lo hi)) (λ e. rw e (min_le z hi))
clamped_le lo hi (negsuc z) = min_le lo hi

pub clamped_or_le : (d lo hi : ℕ) (n : Number) → d ≤ hi → mag (clamped_or (pos d) (pos lo) (pos hi) n) ≤ hi
clamped_or_le d lo hi (number.Value z) h = clamped_le lo hi z
clamped_or_le d lo hi number.Empty h = h
clamped_or_le d lo hi number.NoNumber h = h
clamped_or_le d lo hi number.Beyond h = h

pub four_fits : (z : ℤ) → mag z ≤ 9 → mag (pos 4 *ℤ z) < 2147483648
four_fits (pos n) h = omega arith
four_fits (negsuc n) h = omega (arith, mag_neg_pos (4 * suc n))
