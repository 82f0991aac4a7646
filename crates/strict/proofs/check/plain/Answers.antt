-- `strict::check::plain` meets its contract. Assumes nothing.
use Rattle.std.proofs.Common.{sym, ap, ◌∙◌, arith}
use Rattle.strict.specs.Verdict.{bare}
use Rattle.strict.specs.Look.{end_of, plainly}
use Rattle.strict.proofs.PlainLaws.{end_by, moved_by}
use Rattle.strict.proofs.check.plain.Goals as goal

pub loop-next-init : goal.loop-next-init
loop-next-init c = ap (end_of c.args.input.now) (sym c.start-here.ensures)

pub loop-next-smaller-in-Element : goal.loop-next-smaller-in-Element
loop-next-smaller-in-Element c =
    let m = moved_by c.args.input.now c.loop-next.here c.step.result _ c.step.ensures c.in-Element.is in
    omega (arith, m.1, m.2, m.3)

pub loop-next-preserved-in-Element : goal.loop-next-preserved-in-Element
loop-next-preserved-in-Element c =
    c.loop-next.invariant ∙ end_by c.args.input.now c.loop-next.here c.step.result _ c.step.ensures c.in-Element.is

pub loop-next-smaller-in-Clear : goal.loop-next-smaller-in-Clear
loop-next-smaller-in-Clear c =
    let m = moved_by c.args.input.now c.loop-next.here c.step.result _ c.step.ensures c.in-Clear.is in
    omega (arith, m.1, m.2, m.3)

pub loop-next-preserved-in-Clear : goal.loop-next-preserved-in-Clear
loop-next-preserved-in-Clear c =
    c.loop-next.invariant ∙ end_by c.args.input.now c.loop-next.here c.step.result _ c.step.ensures c.in-Clear.is

pub loop-next-smaller : goal.loop-next-smaller
loop-next-smaller c =
    let m = moved_by c.args.input.now c.loop-next.here c.step.result _ c.step.ensures c.in-Print.is in
    omega (arith, m.1, m.2, m.3)

pub loop-next-preserved : goal.loop-next-preserved
loop-next-preserved c =
    c.loop-next.invariant ∙ end_by c.args.input.now c.loop-next.here c.step.result _ c.step.ensures c.in-Print.is

pub returns-in-End : goal.returns-in-End
returns-in-End c =
    c.bare.ensures
    ∙ sym (ap plainly (c.loop-next.invariant ∙ end_by c.args.input.now c.loop-next.here c.step.result _ c.step.ensures c.in-End.is))

pub returns-in-Refused : goal.returns-in-Refused
returns-in-Refused c =
    c.bare-in-Refused.ensures ∙ (λ i. bare (c.number.ensures i) c.in-Refused.p)
    ∙ sym (ap plainly (c.loop-next.invariant ∙ end_by c.args.input.now c.loop-next.here c.step.result _ c.step.ensures c.in-Refused.is))
