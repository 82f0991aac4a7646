-- The earliest refused line: what `Fails` finds by the reader's acts is `Earliest` (`fails_earliest`), there is one at
-- most (`one_earliest`), and none where a string divides in range (`divides_no_earliest`). With one number for
-- positions and sizes it is the same, 13 for 19 (`together_earliest`, `earliest_together`). Labels are in
-- DividedLabelsLaws. Assumes nothing.
use mathlib.Core.Path.{◌≡◌, refl, sym, ap, subst, ◌∙◌}
use mathlib.Core.List.{List, ◌++◌}
use mathlib.Core.Logic.{◌⊎◌, inl, inr}
use Prim.Native.Nat.{ℕ, ◌+◌}
use native.Mathlib.Omega.{arith}
use lib.ListN.{length}
use borrow.Author.Tests.{ne_eqb}
use Rattle.elements.specs.declared.LabelElement.{LabelElement}
use Rattle.elements.specs.declared.LabelPosition.{LabelPosition}
use Rattle.walk_theory.specs.Language.{First, bad, unit}
use Rattle.walk_theory.specs.Division.{Division, done, more}
use Rattle.walk_theory.specs.Labels as labels_of_lem
use Rattle.walk_theory.specs.Labels.{Label, goes, effect, Fails}
use Rattle.walk_theory.proofs.DivisionLaws.{bad≢unit, bad≢none, none≢unit, same_unit}
use Rattle.walk_theory.proofs.RunLaws.{leaves≢goes, goes_inj}
use Rattle.grammar.specs.Units.{EplUnit, bytes, Stands}
use Rattle.grammar.specs.Found.{first}
use Rattle.grammar.specs.Epl.{EplPrint, acts, epl}
use Rattle.grammar.specs.Ranges.{AllFit, numbers_of, Beyond, Beyond13, ref_after, InRange, role_of}
use Rattle.grammar.specs.Faults.{Fault}
use Rattle.grammar.specs.Divided.{Earliest, faulty, beyond, later, together}
use Rattle.grammar.proofs.FoundLaws.{reads}
use Rattle.grammar.proofs.RangesLaws.{ActsAs, acts_unit, outside_only, beyond_out, beyond_unfit, one_beyond, beyond_number, out_beyond}
use Rattle.grammar.proofs.DividedLabelsLaws.{role_goes}
use Rattle.grammar.proofs.FaultsLaws.{first_fault, fault_first, fault_between}

module _ (F : Type 0) (frame : List ℕ → LabelElement → F) where
  -- a unit over which the run goes on: its numbers fit, and the reference is the one after it
  pub went : (r r' : LabelPosition) (p p' : List F) (ls : List (Label F EplPrint)) (u : EplUnit) (rest : List ℕ) → Stands u rest → effect epl F frame r p u (acts r u) ≡ goes ls r' p' → AllFit (numbers_of r u) × (r' ≡ ref_after r u)
  went r r' p p' ls u rest st e = by (acts_unit r u rest st)
    where
      by : ActsAs r u → AllFit (numbers_of r u) × (r' ≡ ref_after r u)
      by (inl h) = (h.0, (goes_inj (sym e ∙ role_goes F frame (role_of u) r (ref_after r u) p u (acts r u) h.1)).1)
      by (inr h) = absurd (leaves≢goes (sym (ap (effect epl F frame r p u) h.2) ∙ e))

  pub fails_earliest : {s : List ℕ} {at : ℕ} {r : LabelPosition} {p : List F} {n q : ℕ} → Fails epl F frame s at r p n q → Earliest Beyond s at r n q
  fails_earliest (labels_of_lem.faulty {s} {at} {r} {p} {n} e) = faulty (first_fault s n e)
  fails_earliest (labels_of_lem.beyond {u} {s} {rest} {at} {r} {p} {n} e st a) =
      beyond u rest e st (outside_only r u rest st n a)
  fails_earliest (labels_of_lem.later {u} {s} {rest} {at} {r} {r'} {p} {p'} {ls} {n} {q} e st g f) =
      let k = went r r' p p' ls u rest st g in
      later u rest e st k.0 (subst (λ (x : LabelPosition). Earliest Beyond rest (at + length (bytes u)) x n q) k.1 (fails_earliest f))

-- ---- what stands first is one thing
same_bad : {m n : ℕ} → ◌≡◌ {A = First EplUnit} (bad m) (bad n) → m ≡ n
same_bad e = cc

first_unit : {s : List ℕ} (u : EplUnit) (rest : List ℕ) → s ≡ bytes u ++ rest → Stands u rest → first s ≡ unit u rest
first_unit u rest e st = ap first e ∙ reads.finds u rest st

no_fault : {s : List ℕ} {n : ℕ} (u : EplUnit) (rest : List ℕ) → s ≡ bytes u ++ rest → Stands u rest → Fault s n → ⊥
no_fault u rest e st f = bad≢unit (sym (fault_first f) ∙ first_unit u rest e st)

-- two units that stand first are the same
one_unit : {s t : List ℕ} (u v : EplUnit) (rest last : List ℕ) → s ≡ t → s ≡ bytes u ++ rest → Stands u rest → t ≡ bytes v ++ last → Stands v last → (u ≡ v) × (rest ≡ last)
one_unit u v rest last i e st e' st' = same_unit (sym (first_unit u rest e st) ∙ ap first i ∙ first_unit v last e' st')

beyond_same : (r r' : LabelPosition) (u v : EplUnit) {n : ℕ} → r ≡ r' → u ≡ v → Beyond r u n → Beyond r' v n
beyond_same r r' u v {n} i j o = subst (λ (w : EplUnit). Beyond r' w n) j (subst (λ (x : LabelPosition). Beyond x u n) i o)

out_fit : (r r' : LabelPosition) (u v : EplUnit) {n : ℕ} → r ≡ r' → u ≡ v → Beyond r u n → AllFit (numbers_of r' v) → ⊥
out_fit r r' u v i j o a = beyond_unfit r' v (beyond_same r r' u v i j o) a

after_same : (r r' : LabelPosition) (u v : EplUnit) → r ≡ r' → u ≡ v → ref_after r u ≡ ref_after r' v
after_same r r' u v i j = λ k. ref_after (i k) (j k)

-- ---- one at most
one : {s t : List ℕ} {at at' : ℕ} {r r' : LabelPosition} {m n p q : ℕ} → s ≡ t → at ≡ at' → r ≡ r' → Earliest Beyond s at r m p → Earliest Beyond t at' r' n q → (m ≡ n) × (p ≡ q)
one i j k (faulty f) (faulty g) = (same_bad (sym (fault_first f) ∙ ap first i ∙ fault_first g), j)
one i j k (faulty f) (beyond v last e st o) = absurd (no_fault v last (i ∙ e) st f)
one i j k (faulty f) (later v last e st a d) = absurd (no_fault v last (i ∙ e) st f)
one i j k (beyond u rest e st o) (faulty g) = absurd (no_fault u rest (sym i ∙ e) st g)
one {r = r} {r' = r'} i j k (beyond u rest e st o) (beyond v last e' st' o') = (one_beyond r' v (beyond_same r r' u v k (one_unit u v rest last i e st e' st').0 o) o', j)
one {r = r} {r' = r'} i j k (beyond u rest e st o) (later v last e' st' a d) = absurd (out_fit r r' u v k (one_unit u v rest last i e st e' st').0 o a)
one i j k (later u rest e st a c) (faulty g) = absurd (no_fault u rest (sym i ∙ e) st g)
one {r = r} {r' = r'} i j k (later u rest e st a c) (beyond v last e' st' o) = absurd (out_fit r' r v u (sym k) (sym (one_unit u v rest last i e st e' st').0) o a)
one {r = r} {r' = r'} i j k (later u rest e st a c) (later v last e' st' a' d) =
    let w = one_unit u v rest last i e st e' st' in
    one w.1 (λ x. j x + length (bytes (w.0 x))) (after_same r r' u v k w.0) c d

pub one_earliest : {s : List ℕ} {at : ℕ} {r : LabelPosition} {m n p q : ℕ} → Earliest Beyond s at r m p → Earliest Beyond s at r n q → (m ≡ n) × (p ≡ q)
one_earliest c d = one refl refl refl c d

-- ---- none where a string divides in range
none_in_range : {s t : List ℕ} {us : List EplUnit} {at : ℕ} {r r' : LabelPosition} {n p : ℕ} → s ≡ t → r ≡ r' → Division epl s us → InRange r us → Earliest Beyond t at r' n p → ⊥
none_in_range i k done h (faulty f) = bad≢none (sym (fault_first f) ∙ ap first (sym i) ∙ reads.at_end)
none_in_range i k done h (beyond v last e st o) = none≢unit (sym reads.at_end ∙ ap first i ∙ first_unit v last e st)
none_in_range i k done h (later v last e st a d) = none≢unit (sym reads.at_end ∙ ap first i ∙ first_unit v last e st)
none_in_range i k (more {u} {us} {s} {rest} e st c) h (faulty f) = no_fault u rest (sym i ∙ e) st f
none_in_range {r = r} {r' = r'} i k (more {u} {us} {s} {rest} e st c) h (beyond v last e' st' o) = out_fit r' r v u (sym k) (sym (one_unit u v rest last i e st e' st').0) o h.0
none_in_range {r = r} {r' = r'} i k (more {u} {us} {s} {rest} e st c) h (later v last e' st' a d) =
    let w = one_unit u v rest last i e st e' st' in
    none_in_range w.1 (after_same r r' u v k w.0) c h.1 d

pub divides_no_earliest : {s : List ℕ} {us : List EplUnit} {at : ℕ} {r : LabelPosition} {n p : ℕ} → Division epl s us → InRange r us → Earliest Beyond s at r n p → ⊥
divides_no_earliest d i e = none_in_range refl refl d i e

-- ---- with one number for positions and sizes
together_fault : {s : List ℕ} {n : ℕ} → Fault s n → together n ≡ n
together_fault {n = n} f = simp (ne_eqb n 19 (λ e. omega (arith, (fault_between f).1)))

together_beyond : (r : LabelPosition) (u : EplUnit) {n : ℕ} → Beyond r u n → together n ≡ 13
together_beyond r u b = by (beyond_number r u b)
  where
    by : {n : ℕ} → (n ≡ 13) ⊎ (n ≡ 19) → together n ≡ 13
    by (inl e) = ap together e
    by (inr e) = ap together e

pub earliest_together : {s : List ℕ} {at : ℕ} {r : LabelPosition} {n p : ℕ} → Earliest Beyond s at r n p → Earliest Beyond13 s at r (together n) p
earliest_together {s} {at} {r} (faulty f) = subst (λ (k : ℕ). Earliest Beyond13 s at r k at) (sym (together_fault f)) (faulty f)
earliest_together {r = r} (beyond u rest e st b) = beyond u rest e st (beyond_out r u b, together_beyond r u b)
earliest_together (later u rest e st a d) = later u rest e st a (earliest_together d)

pub together_earliest : {s : List ℕ} {at : ℕ} {r : LabelPosition} {n p : ℕ} → Earliest Beyond13 s at r n p → (m : ℕ) × Earliest Beyond s at r m p × (together m ≡ n)
together_earliest {n = n} (faulty f) = (n, faulty f, together_fault f)
together_earliest {r = r} (beyond u rest e st o) =
    let b = out_beyond r u rest st o.0 in
    (b.0, beyond u rest e st b.1, together_beyond r u b.1 ∙ sym o.1)
together_earliest (later u rest e st a d) = let k = together_earliest d in (k.0, later u rest e st a k.1, k.2)
