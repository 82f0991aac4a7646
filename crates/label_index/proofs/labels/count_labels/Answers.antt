-- `label_index::labels::count_labels`: what is counted, by the answer that the loop matched.
use Rattle.std.proofs.Common.{◌≡◌, refl, sym, ap, ◌∙◌, ℕ, List, arith}
use Rattle.elements.specs.Walk.{fresh}
use Rattle.elements.specs.declared.walk_state.WalkState.{WalkState}
use Rattle.walk_theory.specs.Step.{step}
use Rattle.grammar.specs.Epl.{epl}
use Rattle.walk.specs.Steps.{trace_of, state_of, answer_of}
use Rattle.walk.specs.declared.answer.Answer.{Answer}
use Rattle.walk.specs.declared.answer.Answer.TheVariants.{Element, Clear, Print, End, Refused}
use Rattle.label_index.proofs.PlanLaws.{count_from, count_is}
use Rattle.walk.proofs.WalkLaws.{on_step, Moved, begins, moved_by}
use Rattle.label_index.proofs.labels.count_labels.Goals as goal

-- a step from w, n labels being counted so far, answered q
module _ (s : List ℕ) (w : WalkState) (n : ℕ) (q : Answer) (e : answer_of q ≡ step epl s (state_of w)) where
  told : count_from 0 (trace_of s fresh) ≡ count_from n (trace_of s w) → count_from 0 (trace_of s fresh) ≡ count_from n (on_step s q)
  told counts = counts ∙ ap (count_from n) (begins s w q q e refl)

  moved : Moved s w q
  moved = moved_by s w q q e refl

pub loop-next-smaller-in-Element : goal.loop-next-smaller-in-Element
loop-next-smaller-in-Element c =
    let a = c.in-Element in
    let m = moved c.args.input.now c.loop-next.here c.loop-next.n (Element a.next a.field-1) a.ensures in
    omega (arith, m.1, m.2)

pub loop-next-preserved-in-Element : goal.loop-next-preserved-in-Element
loop-next-preserved-in-Element c =
    let a = c.in-Element in
    let l = c.loop-next in
    let m = moved c.args.input.now l.here l.n (Element a.next a.field-1) a.ensures in
    record { counts = told c.args.input.now l.here l.n (Element a.next a.field-1) a.ensures l.invariant.counts; few = omega (arith, m.1, l.invariant.few) }

pub loop-next-smaller-in-Clear : goal.loop-next-smaller-in-Clear
loop-next-smaller-in-Clear c =
    let a = c.in-Clear in
    let m = moved c.args.input.now c.loop-next.here c.loop-next.n (Clear a.next) a.ensures in
    omega (arith, m.1, m.2)

pub loop-next-preserved-in-Clear : goal.loop-next-preserved-in-Clear
loop-next-preserved-in-Clear c =
    let a = c.in-Clear in
    let l = c.loop-next in
    let m = moved c.args.input.now l.here l.n (Clear a.next) a.ensures in
    record { counts = told c.args.input.now l.here l.n (Clear a.next) a.ensures l.invariant.counts; few = omega (arith, m.1, l.invariant.few) }

pub overflow_add-n : goal.overflow_add-n
overflow_add-n c =
    let a = c.in-Print in
    let l = c.loop-next in
    let m = moved c.args.input.now l.here l.n (Print a.next a.field-1) a.ensures in
    omega (arith, m.0.short, m.0.inside, l.invariant.few)

pub loop-next-smaller : goal.loop-next-smaller
loop-next-smaller c =
    let a = c.in-Print in
    let m = moved c.args.input.now c.loop-next.here c.loop-next.n (Print a.next a.field-1) a.ensures in
    omega (arith, m.1, m.2)

pub loop-next-preserved : goal.loop-next-preserved
loop-next-preserved c =
    let a = c.in-Print in
    let l = c.loop-next in
    let m = moved c.args.input.now l.here l.n (Print a.next a.field-1) a.ensures in
    record { counts = told c.args.input.now l.here l.n (Print a.next a.field-1) a.ensures l.invariant.counts; few = omega (arith, m.1, l.invariant.few) }

pub returns-in-End : goal.returns-in-End
returns-in-End c =
    let a = c.in-End in
    let l = c.loop-next in
    sym (count_is c.args.input.now ∙ told c.args.input.now l.here l.n (End a.field-0) a.ensures l.invariant.counts)

pub returns-in-Refused : goal.returns-in-Refused
returns-in-Refused c =
    let a = c.in-Refused in
    let l = c.loop-next in
    sym (count_is c.args.input.now ∙ told c.args.input.now l.here l.n (Refused a.field-0 a.k a.p) a.ensures l.invariant.counts)
