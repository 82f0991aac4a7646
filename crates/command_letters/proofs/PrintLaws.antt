-- What stands behind a `P`, by the run of digits that it begins with (`counts_all`, `counts_comma`, `counts_other`),
-- and a count by its own (`count_run`). Assumes nothing.
use mathlib.Core.Path.{◌≡◌, refl, sym, ap, ◌∙◌}
use mathlib.Core.Bool.{true, false, ◌&&◌, or-true, false≢true}
use mathlib.Core.List.{List, [], ◌∷◌, ◌++◌}
use Prim.Native.Nat.{ℕ, zero, suc, ◌+◌, ◌≤◌, ◌<◌}
use native.Mathlib.Numerals.{add-one}
use native.Mathlib.Omega.{arith}
use lib.Dec.{eqb, ltb}
use lib.ListN.{length, get_or, take, drop}
use lib.Seq.{length-take-le, take-append_seam}
use borrow.Author.Tests.{eq-eqb, ne_eqb, eqb-true, eqb-false}
use Rattle.text.specs.Class.{is_digit, all_digits, digit_run}
use Rattle.text.specs.Fields.{index_of, before, after}
use Rattle.text.proofs.BoolLaws.{test, or_cases, and_both, within_low}
use Rattle.command_letters.specs.Print.{is_count, is_counts}

-- digitRun

run_digit : (b : ℕ) (s : List ℕ) → is_digit b ≡ true → digit_run (b ∷ s) ≡ suc (digit_run s)
run_digit b s e = simp e

run_other : (b : ℕ) (s : List ℕ) → is_digit b ≡ false → digit_run (b ∷ s) ≡ zero
run_other b s e = simp e

pub run_le : (s : List ℕ) → digit_run s ≤ length s
run_le [] = omega arith
run_le (b ∷ s) =
    test (is_digit b) (λ e. omega (arith, run_digit b s e, run_le s)) (λ e. omega (arith, run_other b s e))

pub run_all : (s : List ℕ) → digit_run s ≡ length s → all_digits s ≡ true
run_all [] h = refl
run_all (b ∷ s) h =
    test (is_digit b)
    (λ e. simp (e, run_all s (omega (arith, run_digit b s e))))
    (λ e. absurd (omega (arith, run_other b s e)))

pub run_some : (s : List ℕ) → digit_run s < length s → all_digits s ≡ false
run_some [] h = absurd (omega arith)
run_some (b ∷ s) h =
    test (is_digit b) (λ e. simp (e, run_some s (omega (arith, run_digit b s e)))) (λ e. simp e)

take_run : (s : List ℕ) → all_digits (take (digit_run s) s) ≡ true
take_run [] = refl
take_run (b ∷ s) =
    test (is_digit b) (λ e. rw (run_digit b s e) (simp (e, take_run s))) (λ e. rw (run_other b s e) refl)

-- a digit is no comma
no_comma : (b : ℕ) → is_digit b ≡ true → eqb b 44 ≡ false
no_comma b e = ne_eqb b 44 (λ h. omega (arith, within_low 48 57 b e))

-- the comma behind the run is the first
run_comma : (s : List ℕ) → get_or s (digit_run s) 0 ≡ 44 → index_of 44 s ≡ digit_run s
run_comma [] h = absurd (omega arith)
run_comma (b ∷ s) h =
    test (is_digit b)
    (λ e. simp (e, no_comma b e, run_comma s (sym (ap (λ (i : ℕ). get_or (b ∷ s) i 0) (run_digit b s e)) ∙ h)))
    (λ e. simp (e, eq-eqb b 44 (sym (ap (λ (i : ℕ). get_or (b ∷ s) i 0) (run_other b s e)) ∙ h)))

-- another byte behind it stands in the first field
run_stops : (s : List ℕ) → digit_run s < length s → (get_or s (digit_run s) 0 ≡ 44 → ⊥) → all_digits (before 44 s) ≡ false
unfolding before
run_stops [] h n = absurd (omega arith)
run_stops (b ∷ s) h n =
    test (is_digit b)
    (λ e. simp (e, no_comma b e, run_stops s (omega (arith, run_digit b s e)) (λ k. n (ap (λ (i : ℕ). get_or (b ∷ s) i 0) (run_digit b s e) ∙ k))))
    (λ e. simp (e, ne_eqb b 44 (λ k. n (ap (λ (i : ℕ). get_or (b ∷ s) i 0) (run_other b s e) ∙ k))))

-- isCount, isCounts

pub count_run : (s : List ℕ) → (eqb (digit_run s) (length s) && ltb 0 (length s)) ≡ is_count s
count_run s =
    test (eqb (digit_run s) (length s))
    (λ e. simp (e, run_all s (eqb-true (digit_run s) (length s) e)))
    (λ e. simp (e, run_some s (omega (arith, run_le s, eqb-false (digit_run s) (length s) e))))

-- what stands behind `P`, by the run r of digits that it begins with
module _ (s : List ℕ) (r : ℕ) (is : r ≡ digit_run s) where
  pub counts_all : r ≡ length s → is_counts s ≡ true
  unfolding is_counts
  counts_all h = simp (run_all s (sym is ∙ h))

  pub run_inside : (r ≡ length s → ⊥) → r < length s
  run_inside n = omega (arith, is, run_le s, n)

  pub counts_other : (r ≡ length s → ⊥) → (get_or s r 0 ≡ 44 → ⊥) → is_counts s ≡ false
  unfolding is_counts
  counts_other h n =
      let k : digit_run s < length s = omega (arith, is, run_inside h) in
      simp (run_some s k, run_stops s k (λ e. n (ap (λ (i : ℕ). get_or s i 0) is ∙ e)))

  pub counts_comma : (r ≡ length s → ⊥) → get_or s r 0 ≡ 44 → is_counts s ≡ (ltb 0 r && is_count (drop (r + 1) s))
  unfolding is_counts before after
  counts_comma h e =
      let k : digit_run s < length s = omega (arith, is, run_inside h) in
      rw (add-one, is)
      (simp (run_some s k, run_comma s (ap (λ (i : ℕ). get_or s i 0) (sym is) ∙ e), take_run s, length-take-le (digit_run s) s (run_le s)))

-- one count or none, and two

pub counts_digits : (s : List ℕ) → all_digits s ≡ true → is_counts s ≡ true
unfolding is_counts
counts_digits s e = simp e

drop_behind : (s t : List ℕ) → drop (suc (length s)) (s ++ (44 ∷ t)) ≡ t
drop_behind [] t = refl
drop_behind (b ∷ s) t = drop_behind s t

index_seam : (s t : List ℕ) → all_digits s ≡ true → index_of 44 (s ++ (44 ∷ t)) ≡ length s
index_seam [] t h = refl
index_seam (b ∷ s) t h =
    let k = and_both (is_digit b) (all_digits s) h in
    simp (no_comma b k.0, index_seam s t k.1)

pub counts_two : (s t : List ℕ) → is_count s ≡ true → is_count t ≡ true → is_counts (s ++ (44 ∷ t)) ≡ true
unfolding is_counts before after
counts_two s t h k =
    let e = index_seam s t (and_both (all_digits s) (ltb 0 (length s)) h).0 in
    rw (e, take-append_seam s (44 ∷ t), drop_behind s t) (simp (h, k) (or-true (all_digits (s ++ (44 ∷ t)))))

-- a text that something follows the comma of, cut there
cut : (s : List ℕ) → 0 < length (after 44 s) → s ≡ before 44 s ++ (44 ∷ after 44 s)
unfolding before after
cut [] h = absurd (omega arith)
cut (b ∷ s) h = test (eqb b 44) (λ e. rw (eqb-true b 44 e) refl) (λ e. simp e (ap (λ (t : List ℕ). b ∷ t) (cut s (simp e at h))))

-- the digits of what stands behind `P`: all of it, or those of two counts
pub counts_cases : {A : Type 0} (s : List ℕ) → is_counts s ≡ true → (all_digits s ≡ true → A)
    → ((d : ℕ) (t : List ℕ) (e : ℕ) (u : List ℕ) → s ≡ (d ∷ t) ++ (44 ∷ e ∷ u) → all_digits (d ∷ t) ≡ true → all_digits (e ∷ u) ≡ true → A)
    → A
unfolding is_counts
counts_cases {A} s h one two =
    or_cases (all_digits s) (is_count (before 44 s) && is_count (after 44 s)) one
    (λ k. let b = and_both (is_count (before 44 s)) (is_count (after 44 s)) k in by (before 44 s) (after 44 s) b.0 b.1 (λ n. cut s n)) h
  where
    by : (x y : List ℕ) → is_count x ≡ true → is_count y ≡ true → (0 < length y → s ≡ x ++ (44 ∷ y)) → A
    by [] y p q c = absurd (false≢true p)
    by (d ∷ t) [] p q c = absurd (false≢true q)
    by (d ∷ t) (e ∷ u) p q c =
        two d t e u (c (omega arith))
        (and_both (all_digits (d ∷ t)) (ltb 0 (suc (length t))) p).0
        (and_both (all_digits (e ∷ u)) (ltb 0 (suc (length u))) q).0
