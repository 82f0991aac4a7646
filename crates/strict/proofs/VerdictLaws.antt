-- What the verdict on a file of at most 16,777,216 bytes says: it is accepted exactly where it divides in range and
-- every field is as the profile asks (`accepted_by`, `clean_listed`, `listed_accepted`), a refusal other than 17 and 18
-- is the plain walk's (`refused_plain`), and 17 and 18 tell the first field that is not (`objected_by_lem`). Assumes
-- nothing.
use mathlib.Core.Path.{◌≡◌, refl, sym, ap, subst, ◌∙◌}
use mathlib.Core.Bool.{Bool, true, false, ◌||◌}
use mathlib.Core.List.{List, []}
use mathlib.Core.Logic.{◌⊎◌, inl, inr}
use Prim.Native.Nat.{ℕ, ◌≤◌, ◌<◌}
use native.Mathlib.Omega.{arith}
use lib.Dec.{eqb}
use lib.ListN.{length}
use borrow.Author.Tests.{eq-eqb, ne_eqb}
use Rattle.elements.specs.Given.{longest}
use Rattle.elements.specs.Walk.{fresh}
use Rattle.frame_bytes.specs.Frame.{frame_of}
use Rattle.frame_bytes.proofs.FrameLaws.{frame_local}
use Rattle.walk_theory.specs.Labels.{Label, Divides}
use Rattle.walk_theory.specs.Reach.{Final, accepted, refusal, answered}
use Rattle.walk_theory.specs.Trace.{listed, refusal_of, ending, trace, final, labels_in}
use Rattle.walk_theory.specs.Claims.{Local, Walks}
use Rattle.walk_theory.specs.Strict.{Along, Ends}
use Rattle.walk_theory.proofs.TraceLaws.{reach_outcome}
use Rattle.walk_theory.proofs.Whole.{whole}
use Rattle.walk_theory.proofs.OutcomeLaws.{ending_listed, divides→listed, listed→divides}
use Rattle.grammar.specs.Epl.{epl, origin}
use Rattle.grammar.proofs.EplLaws.{inside}
use Rattle.walk.specs.Steps.{state_of, trace_of}
use Rattle.file_listing.specs.Listing.{FramedLabel}
use Rattle.profile.specs.Asks.{InProfile, Objected}
use Rattle.profile.specs.Strict.{strict, Own}
use Rattle.profile.proofs.StrictLaws.{strict_epl_reads, along, strict_divides, divides_strict, fails_objected}
use Rattle.strict.specs.Verdict.{bare, is_own, verdict_of, strict_end, checked_of}
use Rattle.strict.specs.Listing.{strict_outcome_of}
use Rattle.strict.specs.Look.{end_of}
use Rattle.strict.proofs.LookLaws.{Plain, plain_ends}

-- ---- 17 and 18
own_true : {n : ℕ} → Own n → is_own n ≡ true
own_true {n} (inl e) = simp (eq-eqb n 17 e)
own_true {n} (inr e) = or_true (eqb n 17) (eqb n 18) (eq-eqb n 18 e)
  where
    or_true : (x y : Bool) → y ≡ true → (x || y) ≡ true
    or_true true y e = refl
    or_true false y e = e

own_false : {n : ℕ} → (Own n → ⊥) → is_own n ≡ false
own_false {n} h = simp (ne_eqb n 17 (λ e. h (inl e)), ne_eqb n 18 (λ e. h (inr e)))

ending_refused : {F P : Type 0} (f : Final) (ls : List (Label F P)) (n p : ℕ) → ending f ls ≡ refusal_of n p → f ≡ refusal n p
ending_refused (accepted m) ls n p e = absurd (let z : ◌≡◌ {A = ℕ} 0 1 = cc in omega arith)
ending_refused (refusal m q) ls n p e = let a : m ≡ n = cc in let b : q ≡ p = cc in λ i. refusal (a i) (b i)

-- a frame looks only at the bytes of its own unit, wherever they stand
local : Local strict (List ℕ) frame_of
local r u e h pre post = frame_local pre (epl.bytes u) post e (inside r u e h)

-- the file's labels and its count pending at the end, as the plain reading has them, every field as the profile asks;
-- the strict reading lists the same
pub record Accepted (s : List ℕ) (ls : List FramedLabel) (n : ℕ) : Type 0 where
  pub divides : Divides epl (List ℕ) frame_of s origin ls n
  pub clean : InProfile divides.units
  pub lists : strict_outcome_of s ≡ listed ls n

module _ (s : List ℕ) (short : length s ≤ longest) where
  -- its refusals have numbers from 1 on
  positive : (f : Final) → strict_end s ≡ f → (0 < (verdict_of s f).number) ⊎ ((n : ℕ) × (f ≡ accepted n))
  positive (accepted n) e = inr (n, refl)
  positive (refusal n p) e = inl (by (along s (state_of fresh)))
    where
      by : Along Own (trace_of s fresh) (trace strict s (state_of fresh)) → 0 < n
      by (inl q) = let k = subst (Ends Plain (length s)) (ap final q ∙ e) (plain_ends s short) in k.0.0
      by (inr h) = let k : refusal h.0 h.1 ≡ refusal n p = sym h.3 ∙ e in let m : h.0 ≡ n = cc in own_positive m h.2
        where
          own_positive : {m : ℕ} → m ≡ n → Own m → 0 < n
          own_positive m (inl x) = omega arith
          own_positive m (inr x) = omega arith

  -- ---- accepted
  pub accepted_by : (checked_of s).number ≡ 0 → (ls : List FramedLabel) × (n : ℕ) × Accepted s ls n
  accepted_by z = by (positive (strict_end s) refl)
    where
      by : (0 < (checked_of s).number) ⊎ ((n : ℕ) × (strict_end s ≡ accepted n)) → (ls : List FramedLabel) × (n : ℕ) × Accepted s ls n
      by (inl h) = absurd (omega arith)
      by (inr h) =
          let ls = labels_in strict (List ℕ) frame_of s [] (trace strict s (state_of fresh)) in
          let o : strict_outcome_of s ≡ listed ls h.0 = ap (λ (f : Final). ending f ls) h.1 in
          let d = listed→divides strict strict_epl_reads (List ℕ) frame_of local s origin ls h.0 o in
          let w = strict_divides d.division in
          (ls, h.0, record { divides = record { units = d.units; division = w.0; range = d.range }; clean = w.1; lists = o })

  pub clean_listed : (ls : List FramedLabel) (n : ℕ) (d : Divides epl (List ℕ) frame_of s origin ls n) → InProfile d.units → strict_outcome_of s ≡ listed ls n
  clean_listed ls n d m =
      divides→listed strict strict_epl_reads (List ℕ) frame_of local s short origin ls n (record { units = d.units; division = divides_strict d.division m; range = d.range })

  pub listed_accepted : (ls : List FramedLabel) (n : ℕ) → strict_outcome_of s ≡ listed ls n → checked_of s ≡ bare 0 0
  listed_accepted ls n o = ap (verdict_of s) (ending_listed (strict_end s) (labels_in strict (List ℕ) frame_of s [] (trace strict s (state_of fresh))) ls n o).0

  -- ---- refused
  pub refused_plain : ((checked_of s).number ≡ 0 → ⊥) → (Own (checked_of s).number → ⊥)
      → (end_of s fresh ≡ refusal (checked_of s).number (checked_of s).place) × ((checked_of s).field ≡ 0) × ((checked_of s).held ≡ 0)
  refused_plain z o = by (strict_end s) refl z o
    where
      by : (f : Final) → strict_end s ≡ f → ((verdict_of s f).number ≡ 0 → ⊥) → (Own (verdict_of s f).number → ⊥)
          → (end_of s fresh ≡ refusal (verdict_of s f).number (verdict_of s f).place) × ((verdict_of s f).field ≡ 0) × ((verdict_of s f).held ≡ 0)
      by (accepted n) e z o = absurd (z refl)
      by (refusal n p) e z o = (same (along s (state_of fresh)), simp (own_false o), simp (own_false o))
        where
          same : Along Own (trace_of s fresh) (trace strict s (state_of fresh)) → end_of s fresh ≡ refusal n p
          same (inl q) = ap final q ∙ e
          same (inr h) = let k : refusal h.0 h.1 ≡ refusal n p = sym h.3 ∙ e in let m : h.0 ≡ n = cc in absurd (o (subst Own m h.2))

  pub objected_by_lem : Own (checked_of s).number → Objected s 0 origin (checked_of s).number (checked_of s).place (checked_of s).field (checked_of s).held
  objected_by_lem o = by (strict_end s) refl o
    where
      w : Walks strict (List ℕ) frame_of origin s
      w = whole strict strict_epl_reads (List ℕ) frame_of local s short origin

      by : (f : Final) → strict_end s ≡ f → Own (verdict_of s f).number → Objected s 0 origin (verdict_of s f).number (verdict_of s f).place (verdict_of s f).field (verdict_of s f).held
      by (accepted n) e (inl x) = absurd (omega arith)
      by (accepted n) e (inr x) = absurd (omega arith)
      by (refusal n p) e o =
          let ls = labels_in strict (List ℕ) frame_of s [] (trace strict s (state_of fresh)) in
          let out = sym (reach_outcome strict strict_epl_reads (List ℕ) frame_of w.ends) ∙ ap (λ (f : Final). ending f ls) e in
          let f = ending_refused w.final (answered strict (List ℕ) frame_of s [] w.answers) n p out in
          let a = fails_objected (List ℕ) frame_of (w.refused→fails n p f) o in
          simp (own_true o, a.2) a.3
