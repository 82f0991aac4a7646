-- A label's elements along the walk: by the first step's answer (`drawn_begins`), the first byte of its line
-- (`line_is`), the first label (`first_by`), and the elements that a loop makes (`made_all`). Assumes nothing.
use mathlib.Core.Path.{◌≡◌, refl, sym, ap, ◌∙◌}
use mathlib.Core.List.{List, [], ◌∷◌, ◌++◌}
use Prim.Native.Nat.{ℕ, zero, suc, ◌+◌, ◌≤◌, ◌<◌}
use native.Mathlib.Nat.{add-zero}
use native.Mathlib.Omega.{arith}
use lib.ListN.{length, length-append, length-drop, take, drop}
use lib.Seq.{drop-append_seam}
use borrow.Author.Tests.{lt-ltb, le-ltb}
use Rattle.elements.specs.declared.LabelElement.{LabelElement}
use Rattle.elements.specs.declared.LabelPosition.{LabelPosition}
use Rattle.elements.specs.declared.walk_state.WalkState.{WalkState}
use Rattle.lent_lists.specs.Filled.{made}
use Rattle.walk_theory.specs.Language as language
use Rattle.walk_theory.specs.Language.{First, bad, unit, Act, keep, clear, yield, print, outside}
use Rattle.walk_theory.specs.Index.{first_in}
use Rattle.walk_theory.specs.Step.{State, state, Answer, element, cleared, printed, ended, refused, handing, on_act, on_first, answer_by, answer, step}
use Rattle.walk_theory.specs.Trace.{Trace, on_answer, trace, lead, after}
use Rattle.walk_theory.proofs.TraceLaws.{trace_by, goes_by}
use Rattle.grammar.specs.Units.{EplUnit, bytes}
use Rattle.grammar.specs.Epl.{EplPrint, epl}
use Rattle.grammar.specs.Size.{unit_size}
use Rattle.grammar.proofs.FoundLaws.{reads}
use Rattle.grammar.proofs.SizeLaws.{size_unit}
use Rattle.walk.specs.Steps.{EplAnswer, state_of}
use Rattle.structs.specs.Flat.{flat_element}
use Rattle.dots.specs.declared.element.Element300.{Element300}
use Rattle.dots.specs.Element.{converted_element, or_nothing}
use Rattle.dots_label.specs.Placed.{placed, placed_act}
use Rattle.dots_label.specs.Conversion.{Drawn}
use Rattle.dots_label.specs.Walked.{drawn_trace, drawn_from, first_drawn, line_by, line_from, on_element, next_of}
use Rattle.dots_label.specs.declared.fill.Cursor.{Cursor}
use Rattle.dots_label.proofs.PlacedLaws.{placing, place_in, placed_reads, placed_step, first_after}

abbrev DrawnAnswer : Type 0
DrawnAnswer = Answer LabelPosition Drawn EplPrint

-- ---- the first byte of the line of an element, by the units' sizes
-- the answer a is an element behind the place `at`, and the sizes lead to its place
record Leads (at : ℕ) (rest : List ℕ) (d : Drawn) (st : State LabelPosition) : Type 0 where
  further : at < st.place
  there : (j : ℕ) → length rest < j → line_by j rest at st.place ≡ d.place

-- a unit that is passed
leads_past : (at : ℕ) (rest : List ℕ) (u : EplUnit) (rest' : List ℕ) (d : Drawn) (st : State LabelPosition) → epl.first rest ≡ unit u rest' → Leads (at + length (bytes u)) rest' d st → Leads at rest d st
leads_past at rest u rest' d st q h =
    let w = reads.sound rest u rest' q in
    let n = size_unit rest u rest' q in
    let long : length rest ≡ length (bytes u) + length rest' = ap length w.0 ∙ length-append (bytes u) rest' in
    record { further = omega (arith, h.further); there = by w n long }
  where
    by : (rest ≡ bytes u ++ rest') × epl.Stands u rest' × (0 < length (bytes u)) → unit_size rest ≡ length (bytes u) → length rest ≡ length (bytes u) + length rest'
        → (j : ℕ) → length rest < j → line_by j rest at st.place ≡ d.place
    by w n long zero l = absurd (omega arith)
    by w n long (suc j) l =
        rw (n, lt-ltb (at + length (bytes u)) st.place h.further, ap (drop (length (bytes u))) w.0 ∙ drop-append_seam (bytes u) rest') (h.there j (omega (arith, long, w.2)))

-- the unit that yields it
leads_here : (at : ℕ) (rest : List ℕ) (u : EplUnit) (rest' : List ℕ) (d : Drawn) (st : State LabelPosition) → epl.first rest ≡ unit u rest' → d.place ≡ at → st.place ≡ at + length (bytes u) → Leads at rest d st
leads_here at rest u rest' d st q p e =
    record { further = omega (arith, e, (reads.sound rest u rest' q).2); there = by (size_unit rest u rest' q) }
  where
    by : unit_size rest ≡ length (bytes u) → (j : ℕ) → length rest < j → line_by j rest at st.place ≡ d.place
    by n zero l = absurd (omega arith)
    by n (suc j) l = rw (n, le-ltb (at + length (bytes u)) st.place (omega (arith, e))) (sym p)

leads_act : (go : ℕ → LabelPosition → DrawnAnswer) (a : Act LabelPosition LabelElement EplPrint) (u : EplUnit) (at : ℕ) (rest rest' : List ℕ) (r : LabelPosition) (n : ℕ) (d : Drawn) (st : State LabelPosition)
    → epl.first rest ≡ unit u rest' → on_act (placed epl) go (placed_act a) u at r n ≡ element d st
    → ((r' : LabelPosition) → go (at + length (bytes u)) r' ≡ element d st → Leads (at + length (bytes u)) rest' d st) → Leads at rest d st
leads_act go (keep r') u at rest rest' r n d st q e again = leads_past at rest u rest' d st q (again r' e)
leads_act go (clear r') u at rest rest' r n d st q e again = let z : ◌≡◌ {A = ℕ} 0 1 = cc in absurd (omega arith)
leads_act go (yield x) u at rest rest' r n d st q e again =
    let k : record { place = at + 0; element = epl.shifted at x } ≡ d = cc in
    let l : state (at + length (bytes u)) r (suc n) ≡ st = cc in
    leads_here at rest u rest' d st q (sym (ap (λ (y : Drawn). y.place) k) ∙ add-zero at) (sym (ap (λ (y : State LabelPosition). y.place) l))
leads_act go (print o) u at rest rest' r zero d st q e again = leads_past at rest u rest' d st q (again r e)
leads_act go (print o) u at rest rest' r (suc n) d st q e again = let z : ◌≡◌ {A = ℕ} 0 1 = cc in absurd (omega arith)
leads_act go (outside k) u at rest rest' r n d st q e again = let z : ◌≡◌ {A = ℕ} 0 1 = cc in absurd (omega arith)

leads_answer : (k : ℕ) (rest : List ℕ) (at : ℕ) (r : LabelPosition) (n : ℕ) (d : Drawn) (st : State LabelPosition) → answer_by (placed epl) k rest at r n ≡ element d st → Leads at rest d st
leads_answer zero rest at r n d st e = let z : ◌≡◌ {A = ℕ} 0 1 = cc in absurd (omega arith)
leads_answer (suc k) rest at r n d st e = by (λ rest' at' r'. leads_answer k rest' at' r' n d st) (epl.first rest) refl e
  where
    by : ((rest' : List ℕ) (at' : ℕ) (r' : LabelPosition) → answer_by (placed epl) k rest' at' r' n ≡ element d st → Leads at' rest' d st) → (o : First EplUnit) → epl.first rest ≡ o
        → on_first (placed epl) (λ rest' at' r'. answer_by (placed epl) k rest' at' r' n) o at r n ≡ element d st → Leads at rest d st
    by again language.none q h = let z : ◌≡◌ {A = ℕ} 0 1 = cc in absurd (omega arith)
    by again (bad j) q h = let z : ◌≡◌ {A = ℕ} 0 1 = cc in absurd (omega arith)
    by again (unit u rest') q h =
        leads_act (λ at' r'. answer_by (placed epl) k rest' at' r' n) (epl.act r u) u at rest rest' r n d st q h (λ r' h'. again rest' (at + length (bytes u)) r' h')

pub handing_element : (g : State LabelPosition) (a : DrawnAnswer) (d : Drawn) (st : State LabelPosition) → handing g a ≡ element d st → a ≡ element d st
unfolding handing
handing_element g (element e st') d st h = h
handing_element g (cleared st') d st h = h
handing_element g (printed n q st') d st h = h
handing_element g (ended st') d st h = h
handing_element g (refused n k st') d st h = let z : ◌≡◌ {A = ℕ} 0 1 = cc in absurd (omega arith)

line_step : (s : List ℕ) (g : State LabelPosition) (d : Drawn) (st : State LabelPosition) → step (placed epl) s g ≡ element d st → line_from s g.place st.place ≡ d.place
unfolding step answer
line_step s g d st e =
    let w = (goes_by (placed epl) (placed_reads epl reads) s g (element d st) (sym e)).0 in
    let t = drop g.place s in
    let h : handing g (answer_by (placed epl) (suc (length t)) t g.place g.ref g.pending) ≡ element d st = sym (simp (le-ltb 16777216 (length s) w.short, le-ltb (length s) g.place w.inside, le-ltb g.place g.pending w.counted)) ∙ e in
    (leads_answer (suc (length t)) t g.place g.ref g.pending d st (handing_element g _ d st h)).there (suc (length s)) (omega (arith, length-drop g.place s))

-- ---- the walk with places, by the first step's answer a
abbrev pub line_at : List ℕ → WalkState → ℕ
line_at s w = place_in (step (placed epl) s (state_of w))

abbrev pub on_drawn : List ℕ → ℕ → EplAnswer → Trace Drawn EplPrint
on_drawn s p a = on_answer (placed epl) (trace (placed epl) s) (placing p a)

module _ (s : List ℕ) (w : WalkState) (a : EplAnswer) (e : a ≡ step epl s (state_of w)) where
  answer_is : placing (line_at s w) a ≡ step (placed epl) s (state_of w)
  answer_is = ap (placing (line_at s w)) e ∙ sym (placed_step epl s (state_of w))

  pub drawn_begins : drawn_trace s w ≡ on_drawn s (line_at s w) a
  drawn_begins = trace_by (placed epl) (placed_reads epl reads) s (state_of w) (placing (line_at s w) a) answer_is

  pub drawn_by : drawn_from s w ≡ lead (placed epl) Drawn (λ _ d. d) s (on_drawn s (line_at s w) a)
  drawn_by = ap (lead (placed epl) Drawn (λ _ d. d) s) drawn_begins

pub line_is : (s : List ℕ) (w : WalkState) (x : LabelElement) (st : State LabelPosition) → element x st ≡ step epl s (state_of w) → line_from s w.place st.place ≡ line_at s w
line_is s w x st e = line_step s (state_of w) (record { place = line_at s w; element = x }) st (sym (answer_is s w (element x st) e))

-- ---- one unit of the search for it
pub line_stop : (k : ℕ) (rest : List ℕ) (at to : ℕ) → 0 < k → to ≤ at + unit_size rest → line_by k rest at to ≡ at
line_stop zero rest at to h l = absurd (omega arith)
line_stop (suc k) rest at to h l = simp (le-ltb (at + unit_size rest) to l)

pub line_next : (k : ℕ) (rest : List ℕ) (at to : ℕ) → 0 < k → at + unit_size rest < to
    → (j : ℕ) × (k ≡ suc j) × (line_by k rest at to ≡ line_by j (drop (unit_size rest) rest) (at + unit_size rest) to)
line_next zero rest at to h l = absurd (omega arith)
line_next (suc k) rest at to h l = (k, refl, simp (lt-ltb (at + unit_size rest) to l))

-- ---- the first label, by what follows its elements
module _ (s : List ℕ) (i : ℕ) (w : WalkState) (t : Trace Drawn EplPrint) (e : after (drawn_trace s w) ≡ t) where
  pub first_by : first_drawn s w i ≡ first_in (placed epl) Drawn (λ _ d. d) i s (drawn_from s w) t
  first_by = first_after epl i s [] (drawn_trace s w) ∙ ap (first_in (placed epl) Drawn (λ _ d. d) i s (drawn_from s w)) e

-- ---- the elements that a loop makes, in a string that is t up to the cursor's last place
abbrev pub plainly : List Drawn → List Element300
plainly [] = []
plainly (d ∷ ds) = or_nothing (converted_element (flat_element d.element)) ∷ plainly ds

none_left : (ds : List Drawn) → length ds ≡ 0 → [] ≡ plainly ds
none_left [] e = refl
none_left (d ∷ ds) e = absurd (omega (arith, e))

module _ (s t : List ℕ) where
  pub made_all : (n : ℕ) (c : Cursor) → (0 < n → take c.last s ≡ t) → length (drawn_from t c.state) ≡ n → made (next_of s) (λ x. x.element) n c ≡ plainly (drawn_from t c.state)
  made_all zero c cut e = none_left (drawn_from t c.state) e
  made_all (suc n) c within e = by (λ c'. made_all n c') (step epl t (state_of c.state)) refl
    where
      cut : take c.last s ≡ t
      cut = within (omega arith)

      now_is : (a : EplAnswer) → step epl t (state_of c.state) ≡ a → next_of s c ≡ on_element c a
      now_is a q = ap (λ (x : List ℕ). on_element c (step epl x (state_of c.state))) cut ∙ ap (on_element c) q

      no : (a : EplAnswer) → step epl t (state_of c.state) ≡ a → lead (placed epl) Drawn (λ _ d. d) t (on_drawn t (line_at t c.state) a) ≡ [] → ⊥
      no a q h = omega (arith, e, ap length (drawn_by t c.state a (sym q) ∙ h))

      by : ((c' : Cursor) → (0 < n → take c'.last s ≡ t) → length (drawn_from t c'.state) ≡ n → made (next_of s) (λ x. x.element) n c' ≡ plainly (drawn_from t c'.state))
          → (a : EplAnswer) → step epl t (state_of c.state) ≡ a → made (next_of s) (λ x. x.element) (suc n) c ≡ plainly (drawn_from t c.state)
      by again (element x st) q =
          let c' = on_element c (element x st) in
          let d = drawn_by t c.state (element x st) (sym q) in
          ap (λ (y : Cursor). y.element ∷ made (next_of s) (λ z. z.element) n y) (now_is (element x st) q)
          ∙ ap (λ (ys : List Element300). c'.element ∷ ys) (again c' (λ _. cut) (omega (arith, e, ap length d)))
          ∙ sym (ap plainly d)
      by again (cleared st) q = absurd (no (cleared st) q refl)
      by again (printed m o st) q = absurd (no (printed m o st) q refl)
      by again (ended st) q = absurd (no (ended st) q refl)
      by again (refused k p st) q = absurd (no (refused k p st) q refl)
