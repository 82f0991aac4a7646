-- The look at the units that the plain walk has read: one turn of its loop (`further`, `stopped`, `at_end`), and that
-- it gives the verdict of the strict walk (`look_checks`, `long_checks`). Assumes nothing.
use mathlib.Core.Path.{◌≡◌, refl, sym, ap, subst, ◌∙◌}
use mathlib.Core.Bool.{Bool, true, false, cond}
use mathlib.Core.List.{List}
use mathlib.Core.Logic.{◌⊎◌, inl, inr}
use Prim.Native.Nat.{ℕ, zero, suc, ◌+◌, ◌-◌, ◌<◌, ◌≤◌}
use native.Mathlib.Omega.{arith}
use native.Mathlib.Numerals.{add-one}
use lib.Dec.{ltb}
use lib.ListN.{length, drop, length-drop}
use lib.Seq.{drop-drop}
use borrow.Author.Tests.{lt-ltb, le-ltb, ne_eqb}
use Rattle.elements.specs.Given.{longest}
use Rattle.elements.specs.Walk.{fresh}
use Rattle.walk_theory.specs.Step as theory
use Rattle.walk_theory.specs.Reach.{Final, accepted, refusal}
use Rattle.walk_theory.specs.Trace.{final}
use Rattle.walk_theory.specs.Strict.{or_else, reached, objected_by, Ends}
use Rattle.walk_theory.proofs.TraceLaws.{trace_by}
use Rattle.walk_theory.proofs.TurnLaws.{step_long}
use Rattle.walk_theory.proofs.StrictEndLaws.{final_ends, strict_final}
use Rattle.grammar.specs.Size.{unit_size}
use Rattle.grammar.specs.Epl.{epl, origin}
use Rattle.grammar.proofs.FoundLaws.{reads}
use Rattle.grammar.proofs.RangesLaws.{outside_numbers}
use Rattle.grammar.proofs.FaultsLaws.{first_fault, fault_between}
use Rattle.grammar.proofs.SizeLaws.{Fits, size_unit, size_bad, size_fits}
use Rattle.walk.specs.Steps.{state_of}
use Rattle.profile.specs.declared.rule.Held.{Held}
use Rattle.profile.specs.declared.rule.Held.TheVariants as held
use Rattle.profile.specs.declared.rule.Objection.{Objection}
use Rattle.profile.specs.declared.rule.Objection.TheVariants.{Fine, To}
use Rattle.profile.specs.declared.unit.Looked.{Looked}
use Rattle.profile.specs.declared.unit.Looked.TheVariants.{Passed, Objected}
use Rattle.profile.specs.Profile.{number_of, objection, looked_as}
use Rattle.profile.specs.Strict.{numbered, profile, strict}
use Rattle.profile.proofs.StrictLaws.{quiet, strict_epl_reads}
use Rattle.strict.specs.declared.verdict.Checked.{Checked}
use Rattle.strict.specs.Verdict.{bare, told, is_own, verdict_of, checked_of}
use Rattle.strict.specs.Look.{end_of, plainly, or_told, looked_by}

-- ---- one turn
-- what a look told
passed≢objected : {m k : ℕ} {h : Held} → ◌≡◌ {A = Looked} (Passed m) (Objected k h) → ⊥
passed≢objected e = let z : ◌≡◌ {A = ℕ} 0 1 = cc in omega arith

pub look_passed : (o : Objection) (n m : ℕ) → looked_as o n ≡ Passed m → (o ≡ Fine) × (n ≡ m)
look_passed Fine n m e = (refl, cc)
look_passed (To k h) n m e = absurd (passed≢objected (sym e))

pub look_objected : (o : Objection) (n k : ℕ) (h : Held) → looked_as o n ≡ Objected k h → o ≡ To k h
look_objected Fine n k h e = absurd (passed≢objected e)
look_objected (To j g) n k h e = let a : j ≡ k = cc in let b : g ≡ h = cc in λ i. To (a i) (b i)

-- the whole look w, by what is left of it at the place `at`
pub record Left (s : List ℕ) (end : ℕ) (c w : Checked) (at : ℕ) : Type 0 where
  pub inside : at ≤ length s
  pub fuel : ℕ
  pub enough : length s - at < fuel
  pub is : w ≡ looked_by fuel (drop at s) at end c

module _ (s : List ℕ) (end : ℕ) (c : Checked) where
  pub begin : Left s end c (looked_by (suc (length s)) s 0 end c) 0
  begin = record { inside = omega arith; fuel = suc (length s); enough = omega arith; is = refl }

  module _ (w : Checked) (at : ℕ) (l : Left s end c w at) where
    abbrev next : ℕ
    next = at + unit_size (drop at s)

    turn : (k : ℕ) → length s - at < k → at < length s → at < end → w ≡ looked_by k (drop at s) at end c
        → (j : ℕ) × (length s - at ≤ j) × (w ≡ or_told (objection (drop at s)) at (looked_by j (drop next s) next end c))
    turn zero b h h' e = absurd (omega arith)
    turn (suc j) b h h' e =
        (j, omega arith, e ∙ (simp (lt-ltb at end h')) ∙ ap (λ (t : List ℕ). or_told (objection (drop at s)) at (looked_by j t next end c)) (drop-drop (unit_size (drop at s)) at s))

    pub fits : at < length s → Fits (drop at s) (unit_size (drop at s))
    fits h = size_fits (drop at s) (omega (arith, length-drop at s))

    pub further : at < length s → at < end → objection (drop at s) ≡ Fine → Left s end c w next
    further h h' e =
        let f = fits h in
        let t = turn l.fuel l.enough h h' l.is in
        record {
          inside = omega (arith, f.inside, length-drop at s);
          fuel = t.0;
          enough = omega (arith, f.some, t.1);
          is = t.2 ∙ ap (λ (q : Objection). or_told q at (looked_by t.0 (drop next s) next end c)) e;
        }

    pub stopped : (k : ℕ) (h : Held) → at < length s → at < end → objection (drop at s) ≡ To k h → w ≡ told k h at
    stopped k h b b' e =
        let t = turn l.fuel l.enough b b' l.is in
        t.2 ∙ ap (λ (q : Objection). or_told q at (looked_by t.0 (drop next s) next end c)) e

    pub at_end : end ≤ at → w ≡ c
    at_end h = l.is ∙ by l.fuel
      where
        by : (k : ℕ) → looked_by k (drop at s) at end c ≡ c
        by zero = refl
        by (suc k) = simp (le-ltb at end h)

-- ---- the verdict of the strict walk
-- a number of the plain reading's refusals
abbrev pub Plain : ℕ → Type 0
Plain n = (1 ≤ n) × (is_own n ≡ false)

plain_number : {n : ℕ} → 1 ≤ n → (n ≤ 13) ⊎ (n ≡ 19) → Plain n
plain_number {n} h (inl k) = (h, simp (ne_eqb n 17 (λ e. omega arith), ne_eqb n 18 (λ e. omega arith)))
plain_number {n} h (inr k) = (h, simp (ne_eqb n 17 (λ e. omega arith), ne_eqb n 18 (λ e. omega arith)))

outside_plain : {n : ℕ} → (n ≡ 13) ⊎ (n ≡ 19) → Plain n
outside_plain (inl e) = plain_number (omega arith) (inl (omega arith))
outside_plain (inr e) = plain_number (omega arith) (inr e)

module _ (s : List ℕ) where
  pub plain_ends : length s ≤ longest → Ends Plain (length s) (end_of s fresh)
  plain_ends short =
      final_ends epl reads Plain
      (λ t n e. let b = fault_between (first_fault t n e) in plain_number b.0 (inl (omega (arith, b.1))))
      (λ r u rest n x e. outside_plain (outside_numbers r u rest x n e))
      s short origin

  -- a plain end tells of no field
  plain_verdict : (f : Final) → Ends Plain (length s) f → verdict_of s f ≡ plainly f
  plain_verdict (accepted n) q = refl
  plain_verdict (refusal n p) q = simp q.0.1

  own_told : (k : ℕ) (h : Held) (at : ℕ) → objection (drop at s) ≡ To k h → told k h at ≡ verdict_of s (refusal (number_of h) at)
  own_told k held.Empty at e = simp e
  own_told k held.NoNumber at e = simp e
  own_told k held.Beyond at e = simp e
  own_told k held.Outside at e = simp e

  told_looked : (f : Final) → verdict_of s f ≡ plainly f → (k : ℕ) (rest : List ℕ) (at end : ℕ) → drop at s ≡ rest
      → looked_by k rest at end (plainly f) ≡ verdict_of s (objected_by profile unit_size k rest at end f)
  told_looked f v zero rest at end e = sym v
  told_looked f v (suc k) rest at end e =
      by (ltb at end) (objection rest) refl
      (told_looked f v k (drop (unit_size rest) rest) (at + unit_size rest) end (sym (drop-drop (unit_size rest) at s) ∙ ap (drop (unit_size rest)) e))
    where
      by : (b : Bool) (q : Objection) → objection rest ≡ q
          → looked_by k (drop (unit_size rest) rest) (at + unit_size rest) end (plainly f) ≡ verdict_of s (objected_by profile unit_size k (drop (unit_size rest) rest) (at + unit_size rest) end f)
          → cond b (or_told q at (looked_by k (drop (unit_size rest) rest) (at + unit_size rest) end (plainly f))) (plainly f)
          ≡ verdict_of s (cond b (or_else (numbered q) at (objected_by profile unit_size k (drop (unit_size rest) rest) (at + unit_size rest) end f)) f)
      by false q p again = sym v
      by true Fine p again = again
      by true (To j h) p again = own_told j h at (ap objection e ∙ p)

  -- a file that is too long is refused as such by both readings
  pub long_verdict : longest < length s → checked_of s ≡ bare 14 0
  long_verdict long = ap (verdict_of s) (ap final (trace_by strict strict_epl_reads s (state_of fresh) (theory.refused 14 0 (state_of fresh)) (sym (step_long strict s (state_of fresh) long))))

  module _ (c : Checked) (is : c ≡ plainly (end_of s fresh)) where
    pub long_checks : longest < length s → c ≡ checked_of s
    long_checks long =
        is ∙ ap plainly (ap final (trace_by epl reads s (state_of fresh) (theory.refused 14 0 (state_of fresh)) (sym (step_long epl s (state_of fresh) long)))) ∙ sym (long_verdict long)

    module _ (short : length s ≤ longest) where
      pub look_checks : (end : ℕ) (r : Checked) → end ≡ reached (length s) (end_of s fresh) → r ≡ looked_by (suc (length s)) s 0 end c → r ≡ checked_of s
      look_checks end r e l =
          let f = end_of s fresh in
          l ∙ (λ i. looked_by (suc (length s)) s 0 (e i) (is i)) ∙ told_looked f (plain_verdict f (plain_ends short)) (suc (length s)) s 0 (reached (length s) f) refl
          ∙ sym (ap (verdict_of s) (strict_final epl reads profile quiet unit_size size_unit size_bad s origin f short refl))

      -- how far the plain walk has read, by its number
      pub end_accepted : c.number ≡ 0 → length s ≡ reached (length s) (end_of s fresh)
      end_accepted z = by (end_of s fresh) (plain_ends short) (sym (ap (λ (x : Checked). x.number) is) ∙ z)
        where
          by : (f : Final) → Ends Plain (length s) f → (plainly f).number ≡ 0 → length s ≡ reached (length s) f
          by (accepted n) q z = refl
          by (refusal n p) q z = absurd (omega (arith, q.0.0))

      refused_by : (f : Final) → Ends Plain (length s) f → ((plainly f).number ≡ 0 → ⊥) → ((plainly f).place + 1 ≡ reached (length s) f) × ((plainly f).place < length s)
      refused_by (accepted n) q z = absurd (z refl)
      refused_by (refusal n p) q z = (add-one p, q.1)

      refused : (c.number ≡ 0 → ⊥) → (c.place + 1 ≡ reached (length s) (end_of s fresh)) × (c.place < length s)
      refused z = subst (λ (x : Checked). (x.place + 1 ≡ reached (length s) (end_of s fresh)) × (x.place < length s)) (sym is) (refused_by (end_of s fresh) (plain_ends short) (λ e. z (ap (λ (x : Checked). x.number) is ∙ e)))

      pub end_refused : (c.number ≡ 0 → ⊥) → c.place + 1 ≡ reached (length s) (end_of s fresh)
      end_refused z = (refused z).0

      pub place_lt : (c.number ≡ 0 → ⊥) → c.place < length s
      place_lt z = (refused z).1
