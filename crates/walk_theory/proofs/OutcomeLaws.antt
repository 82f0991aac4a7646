-- What the walk from the fresh state lists is what the division has: its labels and its count pending at the end.
-- Assumes nothing.
use mathlib.Core.Path.{◌≡◌, refl, sym, ap, subst, ◌∙◌}
use mathlib.Core.List.{List, [], ◌++◌}
use Prim.Native.Nat.{ℕ, ◌≤◌}
use mathlib.Core.Bool.{Bool, true, false}
use lib.Dec.{ltb}
use borrow.Author.Tests.{ltb-true, ltb-false}
use native.Mathlib.Omega.{arith}
use lib.ListN.{length}
use Rattle.walk_theory.specs.Language.{Language}
use Rattle.walk_theory.specs.Division.{Division, Reads}
use Rattle.walk_theory.specs.Labels.{Label, goes, run, Divides}
use Rattle.elements.specs.Given.{longest}
use Rattle.walk_theory.specs.Step.{State, state}
use Rattle.walk_theory.specs.Reach.{Final, accepted, refusal, answered}
use Rattle.walk_theory.specs.Trace.{Outcome, listed, ending, refuses, final, on_answer, trace, labels_in, outcome}
use Rattle.walk_theory.specs.Claims.{Local, Walks}
use Rattle.walk_theory.proofs.TraceLaws.{trace_is, reach_outcome}
use Rattle.walk_theory.proofs.TurnLaws.{step_long}
use Rattle.walk_theory.proofs.Whole.{walks, whole}

module _ {F P : Type 0} where
  pub listed_inj : {ls ms : List (Label F P)} {m n : ℕ} → ◌≡◌ {A = Outcome F P} (listed ls m) (listed ms n) → (ls ≡ ms) × (m ≡ n)
  listed_inj e = (cc, cc)

  pub ending_listed : (f : Final) (xs ls : List (Label F P)) (n : ℕ) → ending f xs ≡ listed ls n → (f ≡ accepted n) × (xs ≡ ls)
  ending_listed (accepted m) xs ls n e = (ap accepted (listed_inj e).1, (listed_inj e).0)
  ending_listed (refusal m p) xs ls n e = let z : ◌≡◌ {A = ℕ} 0 1 = cc in absurd (omega arith)

module _ (L : Language) (reads : Reads L) (F : Type 0) (frame : List ℕ → L.E → F) (local : Local L F frame) (s : List ℕ) (short : length s ≤ longest) (r : L.R) where
  open L use {U, R, P}

  -- from any place, nothing being pending there
  pub listed_from : (pre rest : List ℕ) {us : List U} {ls : List (Label F P)} {r' : R} {p' : List F} → s ≡ pre ++ rest → Division L rest us → run L F frame r [] us ≡ goes ls r' p'
      → outcome L F frame s (state (length pre) r 0) ≡ listed ls (length p')
  listed_from pre rest {us} {ls} {r'} {p'} e d q =
      let v = walks L reads F frame local s short d pre r [] ls r' p' (record { whole = e; few = omega arith }) q in
      reach_outcome L reads F frame v.reach ∙ ap (λ (x : List (Label F P)). listed x (length p')) v.same

  -- the whole walk's claims are those of its outcome
  w : Walks L F frame r s
  w = whole L reads F frame local s short r

  is : outcome L F frame s (state 0 r 0) ≡ ending w.final (answered L F frame s [] w.answers)
  is = reach_outcome L reads F frame w.ends

  pub divides→listed : (ls : List (Label F P)) (n : ℕ) → Divides L F frame s r ls n → outcome L F frame s (state 0 r 0) ≡ listed ls n
  divides→listed ls n d =
      let v = w.divides→accepted ls n d in
      is ∙ ap (λ (f : Final). ending f (answered L F frame s [] w.answers)) v.0 ∙ ap (λ (x : List (Label F P)). listed x n) v.1

  as_divided : (ls : List (Label F P)) (n : ℕ) → outcome L F frame s (state 0 r 0) ≡ listed ls n → Divides L F frame s r ls n
  as_divided ls n e =
      let f = ending_listed w.final (answered L F frame s [] w.answers) ls n (sym is ∙ e) in
      let d = w.accepted→divides n f.0 in
      subst (λ (x : List (Label F P)). Divides L F frame s r x n) (sym (w.divides→accepted d.0 n d.1).1 ∙ f.1) d.1

module _ (L : Language) (reads : Reads L) (F : Type 0) (frame : List ℕ → L.E → F) where
  open L use {R, P}

  -- what is listed has no 14
  pub listed_short : (s : List ℕ) (st : State R) (ls : List (Label F P)) (n : ℕ) → outcome L F frame s st ≡ listed ls n → length s ≤ longest
  listed_short s st ls n e = by (ltb longest (length s)) refl
    where
      by : (b : Bool) → ltb longest (length s) ≡ b → length s ≤ longest
      by false q = ltb-false longest (length s) q
      by true q =
          let t : trace L s st ≡ refuses 14 0 = trace_is L reads s st ∙ ap (on_answer L (trace L s)) (step_long L s st (ltb-true longest (length s) q)) in
          let f = ending_listed (final (trace L s st)) (labels_in L F frame s [] (trace L s st)) ls n e in
          let k = sym (ap final t) ∙ f.0 in
          let z : ◌≡◌ {A = ℕ} 0 1 = cc in absurd (omega arith)

  pub listed→divides : Local L F frame → (s : List ℕ) (r : R) (ls : List (Label F P)) (n : ℕ) → outcome L F frame s (state 0 r 0) ≡ listed ls n → Divides L F frame s r ls n
  listed→divides local s r ls n e = as_divided L reads F frame local s (listed_short s (state 0 r 0) ls n e) r ls n e
