-- The data of an element that a step answers lies within the input (`data_inside`). Assumes nothing.
use mathlib.Core.Path.{◌≡◌, refl, sym, ap, subst, ◌∙◌}
use mathlib.Core.Bool.{Bool, true, false, cond, ◌||◌}
use mathlib.Core.List.{List, [], ◌∷◌, map}
use Prim.Native.Nat.{ℕ, zero, suc, ◌+◌, ◌≤◌}
use native.Mathlib.Omega.{arith}
use lib.Dec.{ltb}
use lib.ListN.{length, drop, length-append, length-drop}
use borrow.Author.Tests.{ltb-false}
use Rattle.elements.specs.declared.DataSpan.{DataSpan}
use Rattle.elements.specs.declared.LabelElement.{LabelElement}
use Rattle.elements.specs.declared.LabelPosition.{LabelPosition}
use Rattle.elements.specs.Spans.{later, spans, AllIn, In}
use Rattle.walk_theory.specs.Language.{First, none, bad, unit, keep, clear, yield, print, outside}
use Rattle.elements.specs.Given.{longest}
use Rattle.walk_theory.specs.Step.{State, element, cleared, printed, ended, refused, handing, printing, on_act, on_first, answer_by, answer, step}
use Rattle.grammar.specs.Units.{EplUnit, bytes}
use Rattle.grammar.specs.Epl.{EplPrint, EplAct, acts, epl}
use Rattle.grammar.proofs.FoundLaws.{reads}
use Rattle.walk.specs.Steps.{EplAnswer}
use Rattle.elements.proofs.PlainLaws.{spans_shifted}
use Rattle.grammar.proofs.EplLaws.{inside}

all_in_later : (n m end : ℕ) (ds : List DataSpan) → n + m ≤ end → AllIn m ds → AllIn end (map (later n) ds)
all_in_later n m end [] h a = tt
all_in_later n m end (d ∷ ds) h a = (omega arith, all_in_later n m end ds h a.1)

-- an answer's data lies in the first n bytes
abbrev Lies : ℕ → EplAnswer → Type 0
Lies n (element e st) = In n e
Lies n (cleared st) = Unit
Lies n (printed k q st) = Unit
Lies n (ended st) = Unit
Lies n (refused k p st) = Unit

lies_print : (end : ℕ) (q : EplPrint) (a : EplAnswer) (at : ℕ) (r : LabelPosition) (n : ℕ) → Lies end a → Lies end (printing epl q a at r n)
lies_print end q a at r zero m = m
lies_print end q a at r (suc n) m = tt

lies_act : (go : ℕ → LabelPosition → EplAnswer) (a : EplAct) (u : EplUnit) (at end : ℕ) (r : LabelPosition) (n : ℕ)
    → acts r u ≡ a → at + length (bytes u) ≤ end → ((r' : LabelPosition) → Lies end (go (at + length (bytes u)) r')) → Lies end (on_act epl go a u at r n)
lies_act go (keep r') u at end r n e h again = again r'
lies_act go (clear r') u at end r n e h again = tt
lies_act go (yield x) u at end r n e h again =
    subst (AllIn end) (sym (spans_shifted at x)) (all_in_later at (length (bytes u)) end (spans x) h (inside r u x e))
lies_act go (print q) u at end r n e h again = lies_print end q (go (at + length (bytes u)) r) (at + length (bytes u)) r n (again r)
lies_act go (outside k) u at end r n e h again = tt

lies_answer : (k : ℕ) (rest : List ℕ) (at end : ℕ) (r : LabelPosition) (n : ℕ) → at + length rest ≤ end → Lies end (answer_by epl k rest at r n)
lies_answer zero rest at end r n h = tt
lies_answer (suc k) rest at end r n h = go (λ rest' at' r' l. lies_answer k rest' at' end r' n l) (epl.first rest) refl
  where
    go : ((rest' : List ℕ) (at' : ℕ) (r' : LabelPosition) → at' + length rest' ≤ end → Lies end (answer_by epl k rest' at' r' n))
        → (o : First EplUnit) → epl.first rest ≡ o → Lies end (on_first epl (λ rest' at' r'. answer_by epl k rest' at' r' n) o at r n)
    go again none e = tt
    go again (bad j) e = tt
    go again (unit u rest') e =
        let b : length rest ≡ length (bytes u) + length rest' = ap length (reads.sound rest u rest' e).0 ∙ length-append (bytes u) rest' in
        lies_act (λ at' r'. answer_by epl k rest' at' r' n) (acts r u) u at end r n refl (omega arith) (λ r'. again rest' (at + length (bytes u)) r' (omega arith))

lies_handed : (end : ℕ) (g : State LabelPosition) (a : EplAnswer) → Lies end a → Lies end (handing g a)
unfolding handing
lies_handed end g (element e st) m = m
lies_handed end g (cleared st) m = tt
lies_handed end g (printed k q st) m = tt
lies_handed end g (ended st) m = tt
lies_handed end g (refused k p st) m = tt

lies_step : (s : List ℕ) (st : State LabelPosition) → Lies (length s) (step epl s st)
unfolding step answer
lies_step s st = by (ltb longest (length s)) (ltb (length s) st.place) (ltb st.place st.pending) refl
  where
    by : (a b c : Bool) → ltb (length s) st.place ≡ b → Lies (length s) (cond a (refused 14 0 st) (cond (b || c) (refused 16 st.place st) (handing st (answer epl (drop st.place s) st.place st.ref st.pending))))
    by true b c e = tt
    by false true c e = tt
    by false false true e = tt
    by false false false e =
        let t = drop st.place s in
        lies_handed (length s) st (answer epl t st.place st.ref st.pending) (lies_answer (suc (length t)) t st.place (length s) st.ref st.pending (omega (arith, ltb-false (length s) st.place e, length-drop st.place s)))

pub data_inside : (s : List ℕ) (st st' : State LabelPosition) (e : LabelElement) → step epl s st ≡ element e st' → In (length s) e
data_inside s st st' e h = subst (Lies (length s)) h (lies_step s st)
