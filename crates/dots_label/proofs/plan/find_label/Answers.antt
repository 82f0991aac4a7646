-- `dots_label::plan::find_label`: what follows the elements so far, by the step's answer.
use Rattle.std.proofs.Common.{◌≡◌, refl, sym, ap, ◌∙◌, ℕ, List, arith}
use Rattle.elements.specs.declared.walk_state.WalkState.{WalkState}
use Rattle.walk_theory.specs.Step as theory
use Rattle.walk_theory.specs.Trace.{clears, after, trace}
use Rattle.grammar.specs.Epl.{epl}
use Rattle.walk.specs.Steps.{state_of, answer_of}
use Rattle.walk.specs.declared.answer.Answer.{Answer}
use Rattle.walk.proofs.WalkLaws.{moved_by}
use Rattle.dots_label.specs.Placed.{placed}
use Rattle.dots_label.specs.Conversion.{conversion_by}
use Rattle.dots_label.specs.Walked.{drawn_trace}
use Rattle.dots_label.proofs.WalkedLaws.{line_at, on_drawn, drawn_begins, first_by}
use Rattle.dots_label.proofs.plan.find_label.Goals as goal

-- what follows the elements from `here` on, by the answer q of the step taken there
follows : (s : List ℕ) (here : WalkState) (r q : Answer) → answer_of r ≡ theory.step epl s (state_of here) → r ≡ q
    → after (drawn_trace s here) ≡ after (on_drawn s (line_at s here) (answer_of q))
follows s here r q e k = ap after (drawn_begins s here (answer_of q) (ap answer_of (sym k) ∙ e))

pub loop-next-init : goal.loop-next-init
loop-next-init c = record { label = refl; elements = refl; fresh = c.requires }

pub loop-next-smaller-in-Element : goal.loop-next-smaller-in-Element
loop-next-smaller-in-Element c = let m = moved_by c.args.input.now c.loop-next.here c.step.result _ c.step.ensures c.in-Element.is in omega (arith, m.1, m.2)

pub loop-next-preserved-in-Element : goal.loop-next-preserved-in-Element
loop-next-preserved-in-Element c =
    let l = c.loop-next in
    record {
      label = l.invariant.label;
      elements = l.invariant.elements ∙ follows c.args.input.now l.here c.step.result _ c.step.ensures c.in-Element.is;
      fresh = l.invariant.fresh;
    }

pub loop-next-smaller : goal.loop-next-smaller
loop-next-smaller c = let m = moved_by c.args.input.now c.loop-next.here c.step.result _ c.step.ensures c.in-Clear.is in omega (arith, m.1, m.2)

pub loop-next-preserved : goal.loop-next-preserved
loop-next-preserved c =
    let s = c.args.input.now in
    let l = c.loop-next in
    let m = moved_by s l.here c.step.result _ c.step.ensures c.in-Clear.is in
    let f = l.invariant.elements ∙ follows s l.here c.step.result _ c.step.ensures c.in-Clear.is in
    record {
      label = l.invariant.label ∙ first_by s c.args.i l.first (clears (trace (placed epl) s (state_of c.in-Clear.next))) f;
      elements = refl;
      fresh = m.3;
    }

pub returns-in-Print : goal.returns-in-Print
returns-in-Print c =
    let s = c.args.input.now in
    let l = c.loop-next in
    let f = l.invariant.elements ∙ follows s l.here c.step.result _ c.step.ensures c.in-Print.is in
    (l.invariant.fresh, λ m. ap (conversion_by m) (l.invariant.label ∙ first_by s c.args.i l.first _ f))

pub returns-in-End : goal.returns-in-End
returns-in-End c =
    let s = c.args.input.now in
    let l = c.loop-next in
    let f = l.invariant.elements ∙ follows s l.here c.step.result _ c.step.ensures c.in-End.is in
    λ m. ap (conversion_by m) (l.invariant.label ∙ first_by s c.args.i l.first _ f)

pub returns-in-Refused : goal.returns-in-Refused
returns-in-Refused c =
    let s = c.args.input.now in
    let l = c.loop-next in
    let f = l.invariant.elements ∙ follows s l.here c.step.result _ c.step.ensures c.in-Refused.is in
    λ m. ap (conversion_by m) (l.invariant.label ∙ first_by s c.args.i l.first _ f)
