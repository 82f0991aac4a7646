-- The places of an opened label's elements are where their units begin (`label_begins`). Assumes nothing.
use mathlib.Core.Path.{◌≡◌, refl, sym, ap, subst, ◌∙◌}
use mathlib.Core.Bool.{Bool, true, false, cond, ◌||◌}
use mathlib.Core.List.{List, [], ◌∷◌, ◌++◌}
use Prim.Native.Nat.{ℕ, zero, suc, ◌+◌}
use native.Mathlib.Nat.{add-zero}
use native.Mathlib.Omega.{arith}
use lib.Dec.{ltb}
use lib.ListN.{length, take, drop, get_or, get_elem?}
use lib.Seq.{drop-append_seam, drop-drop}
use borrow.Author.Tests.{le-ltb, ltb-true, ltb-false}
use Rattle.text.proofs.BoolLaws.{test}
use Rattle.elements.specs.declared.LabelElement.{LabelElement}
use Rattle.elements.specs.declared.LabelPosition.{LabelPosition}
use Rattle.elements.specs.Given.{longest}
use Rattle.walk_theory.specs.Language as language
use Rattle.walk_theory.specs.Language.{First, bad, unit, Act, keep, clear, yield, print, outside}
use Rattle.walk_theory.specs.Index as index
use Rattle.walk_theory.specs.Index.{first_in, opening_by, opening_found}
use Rattle.walk_theory.specs.Step.{State, state, Answer, element, cleared, printed, ended, refused, handing, on_act, on_first, answer_by, answer, step}
use Rattle.walk_theory.specs.Trace.{Trace, stops, refuses, yields, clears, prints, left, on_answer, steps, trace}
use Rattle.walk_theory.proofs.TraceLaws.{goes_by}
use Rattle.grammar.specs.Units.{EplUnit, bytes}
use Rattle.grammar.specs.Epl.{EplPrint, epl}
use Rattle.grammar.proofs.FoundLaws.{reads}
use Rattle.label_index.specs.Entries.{entry_of, entries_of, no_entry}
use Rattle.label_index.specs.declared.entry.LabelEntry.{LabelEntry}
use Rattle.dots_label.specs.Placed.{placed, placed_act}
use Rattle.dots_label.specs.Conversion.{Drawn, DrawnOpening, drawn_of}
use Rattle.dots_label.specs.Promise.{Begins, AllBegin}
use Rattle.dots_label.proofs.PlacedLaws.{placed_reads}
use Rattle.dots_label.proofs.WalkedLaws.{handing_element}
use Rattle.dots_label.proofs.PlanLaws.{found_at, found_past}

abbrev DrawnAnswer : Type 0
DrawnAnswer = Answer LabelPosition Drawn EplPrint

module _ (s : List ℕ) where
  begins_act : (go : ℕ → LabelPosition → DrawnAnswer) (a : Act LabelPosition LabelElement EplPrint) (u : EplUnit) (at : ℕ) (rest : List ℕ) (r : LabelPosition) (n : ℕ) (d : Drawn) (st : State LabelPosition)
      → epl.first (drop at s) ≡ unit u rest → epl.act r u ≡ a → on_act (placed epl) go (placed_act a) u at r n ≡ element d st
      → ((r' : LabelPosition) → go (at + length (bytes u)) r' ≡ element d st → Begins s d) → Begins s d
  begins_act go (keep r') u at rest r n d st q z e again = again r' e
  begins_act go (clear r') u at rest r n d st q z e again = let c : ◌≡◌ {A = ℕ} 0 1 = cc in absurd (omega arith)
  begins_act go (yield x) u at rest r n d st q z e again =
      let k : record { place = at + 0; element = epl.shifted at x } ≡ d = cc in
      let p : at ≡ d.place = sym (add-zero at) ∙ ap (λ (y : Drawn). y.place) k in
      record {
        there = u;
        behind = rest;
        stands = ap (λ (m : ℕ). epl.first (drop m s)) (sym p) ∙ q;
        reference = r;
        yielded = x;
        acts = z;
        moved = sym (ap (λ (y : Drawn). y.element) k) ∙ ap (λ (m : ℕ). epl.shifted m x) p;
      }
  begins_act go (print o) u at rest r zero d st q z e again = again r e
  begins_act go (print o) u at rest r (suc n) d st q z e again = let c : ◌≡◌ {A = ℕ} 0 1 = cc in absurd (omega arith)
  begins_act go (outside j) u at rest r n d st q z e again = let c : ◌≡◌ {A = ℕ} 0 1 = cc in absurd (omega arith)

  begins_answer : (k : ℕ) (rest : List ℕ) (at : ℕ) (r : LabelPosition) (n : ℕ) (d : Drawn) (st : State LabelPosition) → drop at s ≡ rest → answer_by (placed epl) k rest at r n ≡ element d st → Begins s d
  begins_answer zero rest at r n d st b e = let c : ◌≡◌ {A = ℕ} 0 1 = cc in absurd (omega arith)
  begins_answer (suc k) rest at r n d st b e = by (λ rest' at' r'. begins_answer k rest' at' r' n d st) (epl.first rest) refl e
    where
      by : ((rest' : List ℕ) (at' : ℕ) (r' : LabelPosition) → drop at' s ≡ rest' → answer_by (placed epl) k rest' at' r' n ≡ element d st → Begins s d) → (o : First EplUnit) → epl.first rest ≡ o
          → on_first (placed epl) (λ rest' at' r'. answer_by (placed epl) k rest' at' r' n) o at r n ≡ element d st → Begins s d
      by again language.none q h = let c : ◌≡◌ {A = ℕ} 0 1 = cc in absurd (omega arith)
      by again (bad j) q h = let c : ◌≡◌ {A = ℕ} 0 1 = cc in absurd (omega arith)
      by again (unit u rest') q h =
          let t : drop (at + length (bytes u)) s ≡ rest' = sym (drop-drop (length (bytes u)) at s) ∙ ap (drop (length (bytes u))) (b ∙ (reads.sound rest u rest' q).0) ∙ drop-append_seam (bytes u) rest' in
          begins_act (λ at' r'. answer_by (placed epl) k rest' at' r' n) (epl.act r u) u at rest' r n d st (ap epl.first b ∙ q) refl h (λ r' h'. again rest' (at + length (bytes u)) r' t h')

  begins_step : (g : State LabelPosition) (d : Drawn) (st : State LabelPosition) → step (placed epl) s g ≡ element d st → Begins s d
  unfolding step answer
  begins_step g d st e =
      let w = (goes_by (placed epl) (placed_reads epl reads) s g (element d st) (sym e)).0 in
      let t = drop g.place s in
      let h : handing g (answer_by (placed epl) (suc (length t)) t g.place g.ref g.pending) ≡ element d st = sym (simp (le-ltb 16777216 (length s) w.short, le-ltb (length s) g.place w.inside, le-ltb g.place g.pending w.counted)) ∙ e in
      begins_answer (suc (length t)) t g.place g.ref g.pending d st refl (handing_element g _ d st h)

  -- all along a walk
  abbrev Each : Trace Drawn EplPrint → Type 0
  Each (stops n) = Unit
  Each (refuses n k) = Unit
  Each (yields d t) = Begins s d × Each t
  Each (clears t) = Each t
  Each (prints n q t) = Each t

  each_steps : (k : ℕ) (g : State LabelPosition) → Each (steps (placed epl) k s g)
  each_steps zero g = tt
  each_steps (suc k) g = by (each_steps k) (step (placed epl) s g) refl
    where
      by : ((g' : State LabelPosition) → Each (steps (placed epl) k s g')) → (a : DrawnAnswer) → step (placed epl) s g ≡ a → Each (on_answer (placed epl) (λ g'. steps (placed epl) k s g') a)
      by again (element d st) e = (begins_step g d st e, again st)
      by again (cleared st) e = again st
      by again (printed n q st) e = again st
      by again (ended st) e = tt
      by again (refused n p st) e = tt

  each_trace : (g : State LabelPosition) → Each (trace (placed epl) s g)
  unfolding trace
  each_trace g = each_steps (suc (left s g)) g

  also : (ds : List Drawn) (d : Drawn) → AllBegin s ds → Begins s d → AllBegin s (ds ++ (d ∷ []))
  also [] d h b = (b, tt)
  also (c ∷ ds) d h b = (h.0, also ds d h.1 b)

  -- of the label that an opening has
  abbrev pub OfLabel : DrawnOpening → Type 0
  OfLabel (index.opens l) = AllBegin s l.frames
  OfLabel (index.denies k p) = Unit

  of_first : (i : ℕ) (p : List Drawn) (t : Trace Drawn EplPrint) → AllBegin s p → Each t → OfLabel (first_in (placed epl) Drawn (λ _ d. d) i s p t)
  of_first i p (stops n) h e = tt
  of_first i p (refuses n k) h e = tt
  of_first i p (yields d t) h e = of_first i (p ++ (d ∷ [])) t (also p d h e.0) e.1
  of_first i p (clears t) h e = of_first i [] t tt e
  of_first i p (prints n q t) h e = h

  pub label_first : (i : ℕ) (g : State LabelPosition) → OfLabel (first_in (placed epl) Drawn (λ _ d. d) i s [] (trace (placed epl) s g))
  label_first i g = of_first i [] (trace (placed epl) s g) tt (each_trace g)

module _ (s : List ℕ) (i : ℕ) where
  label_entry : (x : LabelEntry) → OfLabel (take x.last s) (opening_by (placed epl) Drawn (λ _ d. d) i s (entry_of x))
  label_entry x = by (ltb (length s) x.last || ltb x.last x.first)
    where
      by : (b : Bool) → OfLabel (take x.last s) (cond b (index.denies 16 x.last) (first_in (placed epl) Drawn (λ _ d. d) i (take x.last s) [] (trace (placed epl) (take x.last s) (state x.first x.reference 0))))
      by true = tt
      by false = label_first (take x.last s) i (state x.first x.reference 0)

  pub label_begins : (es : List LabelEntry) → OfLabel (take (get_or es i no_entry).last s) (drawn_of s es i)
  label_begins es = by (ltb longest (length s))
    where
      found : OfLabel (take (get_or es i no_entry).last s) (opening_found (placed epl) Drawn (λ _ d. d) i s (get_elem? (entries_of es) i))
      found =
          test (ltb i (length es))
          (λ q. subst (λ o. OfLabel (take (get_or es i no_entry).last s) (opening_found (placed epl) Drawn (λ _ d. d) i s o)) (sym (found_at es i (ltb-true i (length es) q))) (label_entry (get_or es i no_entry)))
          (λ q. subst (λ o. OfLabel (take (get_or es i no_entry).last s) (opening_found (placed epl) Drawn (λ _ d. d) i s o)) (sym (found_past es i (ltb-false i (length es) q))) tt)

      by : (b : Bool) → OfLabel (take (get_or es i no_entry).last s) (cond b (index.denies 14 0) (opening_found (placed epl) Drawn (λ _ d. d) i s (get_elem? (entries_of es) i)))
      by true = tt
      by false = found
