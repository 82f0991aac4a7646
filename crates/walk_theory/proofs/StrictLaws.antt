-- A strict reading can be read (`strict_reads`), and walks along the plain one, up to a refusal of its own (`along_trace`). Assumes nothing.
use mathlib.Core.Path.{◌≡◌, refl, sym, ap, subst, ◌∙◌}
use mathlib.Core.Bool.{Bool, true, false, cond, ◌||◌}
use mathlib.Core.List.{List, [], ◌++◌}
use mathlib.Core.Logic.{◌⊎◌, inl, inr}
use mathlib.Core.Option.{Option, none, some}
use Prim.Native.Nat.{ℕ, zero, suc, ◌+◌}
use lib.Dec.{ltb}
use lib.ListN.{length, drop}
use Rattle.elements.specs.Given.{longest}
use Rattle.walk_theory.specs.Language as language
use Rattle.walk_theory.specs.Language.{First, bad, unit, Act, keep, clear, yield, print, outside, Language}
use Rattle.walk_theory.specs.Division.{Reads}
use Rattle.walk_theory.specs.Step.{State, state, Answer, element, cleared, printed, ended, refused, handing, printing, on_act, on_first, answer_by, answer, step}
use Rattle.walk_theory.specs.Trace.{Trace, yields, clears, prints, final, left, on_answer, steps, trace}
use Rattle.walk_theory.specs.Strict.{unless, strict_first, strictly, Along}
use Rattle.walk_theory.proofs.DivisionLaws.{bad≢unit, bad≢none}

-- what is found under a guard and is no fault was found, and the guard has let it pass
unless_unit : {U : Type 0} (g : Option ℕ) (o : First U) (u : U) (rest : List ℕ) → unless g o ≡ unit u rest → (g ≡ none) × (o ≡ unit u rest)
unless_unit none o u rest e = (refl, e)
unless_unit (some n) o u rest e = absurd (bad≢unit e)

unless_none : {U : Type 0} (g : Option ℕ) (o : First U) → unless g o ≡ language.none → o ≡ language.none
unless_none none o e = e
unless_none (some n) o e = absurd (bad≢none e)

module _ (L : Language) (guard : List ℕ → Option ℕ) where
  open L use {U, R, E, P, bytes, first, act, Stands}

  abbrev S : Language
  S = strictly L guard

  -- a unit stands by the strict reading where it stands and nothing is objected to it
  pub strict_stands : Reads L → (u : U) (rest : List ℕ) → S.Stands u rest → Stands u rest × (guard (bytes u ++ rest) ≡ none)
  strict_stands reads u rest st =
      let w = unless_unit (guard (bytes u ++ rest)) (first (bytes u ++ rest)) u rest st in
      ((reads.sound (bytes u ++ rest) u rest w.1).1, w.0)

  pub stands_strict : Reads L → (u : U) (rest : List ℕ) → Stands u rest → guard (bytes u ++ rest) ≡ none → S.Stands u rest
  stands_strict reads u rest st q = ap (λ (g : Option ℕ). unless g (first (bytes u ++ rest))) q ∙ reads.finds u rest st

  -- nothing is objected to where nothing stands
  pub strict_reads : Reads L → guard [] ≡ none → Reads S
  strict_reads reads quiet = record {
    at_end = ap (λ (g : Option ℕ). unless g (first [])) quiet ∙ reads.at_end;
    finds = λ u rest st. st;
    sound = λ s u rest e. (let w = reads.sound s u rest (unless_unit (guard s) (first s) u rest e).1 in (w.0, sym (ap (strict_first L guard) w.0) ∙ e, w.2));
    empty = λ s e. reads.empty s (unless_none (guard s) (first s) e);
  }

  -- ---- the two answer alike, or the strict one refuses by a number of its own
  module _ (Own : ℕ → Type 0) (owns : (s : List ℕ) (n : ℕ) → guard s ≡ some n → Own n) where
    abbrev Alike : Answer R E P → Answer R E P → Type 0
    Alike a b = (a ≡ b) ⊎ ((n : ℕ) × (p : ℕ) × (st : State R) × Own n × (b ≡ refused n p st))

    alike_print : (q : P) (a b : Answer R E P) (at : ℕ) (r : R) (n : ℕ) → Alike a b → Alike (printing L q a at r n) (printing L q b at r n)
    alike_print q a b at r zero h = h
    alike_print q a b at r (suc n) h = inl refl

    alike_act : (go go' : ℕ → R → Answer R E P) (a : Act R E P) (u : U) (at : ℕ) (r : R) (n : ℕ) → ((at' : ℕ) (r' : R) → Alike (go at' r') (go' at' r'))
        → Alike (on_act L go a u at r n) (on_act L go' a u at r n)
    alike_act go go' (keep v) u at r n h = h (at + length (bytes u)) v
    alike_act go go' (clear v) u at r n h = inl refl
    alike_act go go' (yield e) u at r n h = inl refl
    alike_act go go' (print q) u at r n h = alike_print q (go (at + length (bytes u)) r) (go' (at + length (bytes u)) r) (at + length (bytes u)) r n (h (at + length (bytes u)) r)
    alike_act go go' (outside k) u at r n h = inl refl

    alike_answer : (k : ℕ) (rest : List ℕ) (at : ℕ) (r : R) (n : ℕ) → Alike (answer_by L k rest at r n) (answer_by S k rest at r n)
    alike_answer zero rest at r n = inl refl
    alike_answer (suc k) rest at r n = by (guard rest) refl (first rest) (λ rest' at' r'. alike_answer k rest' at' r' n)
      where
        by : (g : Option ℕ) → guard rest ≡ g → (o : First U) → ((rest' : List ℕ) (at' : ℕ) (r' : R) → Alike (answer_by L k rest' at' r' n) (answer_by S k rest' at' r' n))
            → Alike (on_first L (λ rest' at' r'. answer_by L k rest' at' r' n) o at r n) (on_first S (λ rest' at' r'. answer_by S k rest' at' r' n) (unless g o) at r n)
        by (some m) e o again = inr (m, at, state at r n, owns rest m e, refl)
        by none e language.none again = inl refl
        by none e (bad j) again = inl refl
        by none e (unit u rest') again = alike_act (λ at' r'. answer_by L k rest' at' r' n) (λ at' r'. answer_by S k rest' at' r' n) (act r u) u at r n (again rest')

    alike_handed : (g : State R) (a b : Answer R E P) → Alike a b → Alike (handing g a) (handing g b)
    unfolding handing
    alike_handed g a b (inl e) = inl (ap (handing g) e)
    alike_handed g a b (inr h) = inr (h.0, h.1, g, h.3, ap (handing g) h.4)

    alike_tests : (x y : Bool) (v w a b : Answer R E P) → Alike a b → Alike (cond x v (cond y w a)) (cond x v (cond y w b))
    alike_tests true y v w a b h = inl refl
    alike_tests false true v w a b h = inl refl
    alike_tests false false v w a b h = h

    alike_step : (s : List ℕ) (st : State R) → Alike (step L s st) (step S s st)
    unfolding step answer
    alike_step s st =
        let t = drop st.place s in
        alike_tests (ltb longest (length s)) (ltb (length s) st.place || ltb st.place st.pending) (refused 14 0 st) (refused 16 st.place st) _ _
        (alike_handed st (answer L t st.place st.ref st.pending) (answer S t st.place st.ref st.pending) (alike_answer (suc (length t)) t st.place st.ref st.pending))

    -- ---- and so do the walks
    under : (t u : Trace E P) (f : Trace E P → Trace E P) → ((x : Trace E P) → final (f x) ≡ final x) → Along Own t u → Along Own (f t) (f u)
    under t u f same (inl e) = inl (ap f e)
    under t u f same (inr h) = inr (h.0, h.1, h.2, same u ∙ h.3)

    module _ (go go' : State R → Trace E P) (again : (st : State R) → Along Own (go st) (go' st)) where
      along_same : (a : Answer R E P) → Along Own (on_answer L go a) (on_answer S go' a)
      along_same (element e st) = under (go st) (go' st) (yields e) (λ x. refl) (again st)
      along_same (cleared st) = under (go st) (go' st) clears (λ x. refl) (again st)
      along_same (printed n q st) = under (go st) (go' st) (prints n q) (λ x. refl) (again st)
      along_same (ended st) = inl refl
      along_same (refused n p st) = inl refl

      along_answer : (a b : Answer R E P) → Alike a b → Along Own (on_answer L go a) (on_answer S go' b)
      along_answer a b (inl e) = subst (λ (x : Answer R E P). Along Own (on_answer L go a) (on_answer S go' x)) e (along_same a)
      along_answer a b (inr h) = inr (h.0, h.1, h.3, ap (λ (x : Answer R E P). final (on_answer S go' x)) h.4)

    along_steps : (k : ℕ) (s : List ℕ) (st : State R) → Along Own (steps L k s st) (steps S k s st)
    along_steps zero s st = inl refl
    along_steps (suc k) s st = along_answer (λ st'. steps L k s st') (λ st'. steps S k s st') (λ st'. along_steps k s st') (step L s st) (step S s st) (alike_step s st)

    pub along_trace : (s : List ℕ) (st : State R) → Along Own (trace L s st) (trace S s st)
    unfolding trace
    along_trace s st = along_steps (suc (left s st)) s st
