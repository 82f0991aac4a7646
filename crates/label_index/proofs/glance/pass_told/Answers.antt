-- `label_index::glance::pass_told`: a line that is told so is within the input, and what was pending stays few.
use Rattle.std.proofs.Common.{arith}
use Rattle.label_index.proofs.PastLaws.{line_some, line_inside, line_few, past_line}
use Rattle.label_index.proofs.glance.pass_told.Goals as goal

pub overflow_add-at : goal.overflow_add-at
overflow_add-at c =
    let l = c.loop-g in
    omega (arith, line_inside c.args.input.now c.args.st l.n l.at c.glance-g.result l.invariant c.glance-g.ensures c.if-g-eq0.false, l.invariant.within.short)

pub overflow_add-n : goal.overflow_add-n
overflow_add-n c =
    let l = c.loop-g in
    omega (
      arith,
      line_few c.args.input.now c.args.st l.n l.at c.glance-g.result l.invariant c.glance-g.ensures c.if-g-eq0.false,
      l.invariant.few,
      l.invariant.within.inside,
      l.invariant.within.short,
    )

pub loop-g-smaller : goal.loop-g-smaller
loop-g-smaller c =
    let l = c.loop-g in
    omega (
      arith,
      line_inside c.args.input.now c.args.st l.n l.at c.glance-g.result l.invariant c.glance-g.ensures c.if-g-eq0.false,
      line_some c.args.input.now c.args.st l.n l.at c.glance-g.result l.invariant c.glance-g.ensures c.if-g-eq0.false,
    )

pub loop-g-preserved : goal.loop-g-preserved
loop-g-preserved c =
    let l = c.loop-g in
    past_line c.args.input.now c.args.st l.n l.at c.glance-g.result l.invariant c.glance-g.ensures c.if-g-eq0.false
