-- `dots_label::fault::first_fault`: what is told from here, by the step's answer.
use Rattle.std.proofs.Common.{◌≡◌, refl, sym, ap, ◌∙◌, ℕ, suc, Bool, List, ◌∷◌, arith, ne_eqb}
use Rattle.elements.specs.declared.walk_state.WalkState.{WalkState}
use Rattle.walk_theory.specs.Step as theory
use Rattle.walk_theory.specs.Trace.{lead}
use Rattle.grammar.specs.Epl.{epl}
use Rattle.walk.specs.Steps.{state_of, answer_of}
use Rattle.walk.specs.declared.answer.Answer.{Answer}
use Rattle.walk.specs.declared.answer.Answer.TheVariants.{Element}
use Rattle.walk.proofs.WalkLaws.{moved_by}
use Rattle.dots_label.specs.Placed.{placed}
use Rattle.dots_label.specs.Conversion.{Drawn}
use Rattle.dots_label.specs.Walked.{drawn_from, fault_of, fault_from}
use Rattle.dots_label.proofs.WalkedLaws.{line_at, on_drawn, drawn_by, line_is}
use Rattle.dots_label.proofs.fault.first_fault.Goals as goal

-- what is told from `here` on, by the answer q of the step taken there
told : (g : Bool) (s : List ℕ) (here : WalkState) (r q : Answer) → answer_of r ≡ theory.step epl s (state_of here) → r ≡ q
    → fault_from g here.pending (drawn_from s here) ≡ fault_from g here.pending (lead (placed epl) Drawn (λ _ x. x) s (on_drawn s (line_at s here) (answer_of q)))
told g s here r q e k = ap (fault_from g here.pending) (drawn_by s here (answer_of q) (ap answer_of (sym k) ∙ e))

-- at an element that has a number, and at one that has none
fault_here : (g : Bool) (n : ℕ) (d : Drawn) (ds : List Drawn) → (fault_of g d.element ≡ 0 → ⊥) → fault_from g n (d ∷ ds) ≡ record { number = fault_of g d.element; place = d.place }
fault_here g n d ds h = simp (ne_eqb (fault_of g d.element) 0 h)

fault_past : (g : Bool) (n : ℕ) (d : Drawn) (ds : List Drawn) → fault_of g d.element ≡ 0 → fault_from g n (d ∷ ds) ≡ fault_from g (suc n) ds
fault_past g n d ds h = simp h

pub loop-next-init : goal.loop-next-init
loop-next-init c = refl

pub line_start-place-requires : goal.line_start-place-requires
line_start-place-requires c =
    let m = moved_by c.args.input.now c.loop-next.here c.step.result (Element c.in-Element.next c.in-Element.e) c.step.ensures c.in-Element.is in
    (m.1, m.2)

pub returns-then-number-ne0 : goal.returns-then-number-ne0
returns-then-number-ne0 c =
    let s = c.args.input.now in
    let here = c.loop-next.here in
    let next = c.in-Element.next in
    let e = c.in-Element.e in
    let n = c.number_for-number.ensures in
    let x : Drawn = record { place = line_at s here; element = e } in
    (λ i. record { number = n i; place = (c.line_start-place.ensures ∙ line_is s here e (state_of next) (ap answer_of (sym c.in-Element.is) ∙ c.step.ensures)) i })
    ∙ sym (c.loop-next.invariant ∙ told c.args.graphic s here c.step.result (Element next e) c.step.ensures c.in-Element.is ∙ fault_here c.args.graphic here.pending x (drawn_from s next) (λ z. c.if-number-ne0.true (n ∙ z)))

pub loop-next-smaller : goal.loop-next-smaller
loop-next-smaller c =
    let m = moved_by c.args.input.now c.loop-next.here c.step.result (Element c.in-Element.next c.in-Element.e) c.step.ensures c.in-Element.is in
    omega (arith, m.1, m.2)

pub loop-next-preserved : goal.loop-next-preserved
loop-next-preserved c =
    let s = c.args.input.now in
    let here = c.loop-next.here in
    let next = c.in-Element.next in
    let e = c.in-Element.e in
    let x : Drawn = record { place = line_at s here; element = e } in
    let m = moved_by s here c.step.result (Element next e) c.step.ensures c.in-Element.is in
    c.loop-next.invariant
    ∙ told c.args.graphic s here c.step.result (Element next e) c.step.ensures c.in-Element.is
    ∙ fault_past c.args.graphic here.pending x (drawn_from s next) (sym c.number_for-number.ensures ∙ c.if-number-ne0.false)
    ∙ ap (λ (n : ℕ). fault_from c.args.graphic n (drawn_from s next)) (sym m.3)

pub returns-in-Clear : goal.returns-in-Clear
returns-in-Clear c = sym (c.loop-next.invariant ∙ told c.args.graphic c.args.input.now c.loop-next.here c.step.result _ c.step.ensures c.in-Clear.is)

pub returns-in-Print : goal.returns-in-Print
returns-in-Print c = sym (c.loop-next.invariant ∙ told c.args.graphic c.args.input.now c.loop-next.here c.step.result _ c.step.ensures c.in-Print.is)

pub returns-in-End : goal.returns-in-End
returns-in-End c = sym (c.loop-next.invariant ∙ told c.args.graphic c.args.input.now c.loop-next.here c.step.result _ c.step.ensures c.in-End.is)

pub returns-in-Refused : goal.returns-in-Refused
returns-in-Refused c = sym (c.loop-next.invariant ∙ told c.args.graphic c.args.input.now c.loop-next.here c.step.result _ c.step.ensures c.in-Refused.is)
