-- `format::normalise::measure`: what stands at a place is counted, and the text behind it is left to be counted.
use Rattle.std.proofs.Common.{ap, length, arith}
use Rattle.format.proofs.NormaliseLaws.{Stands, lined, normalised_end, block_in, block_counts}
use Rattle.format.proofs.normalise.measure.Goals as goal
use Rattle.format.proofs.normalise.measure.Goals.{then-l-gt0, else-l-gt0}

pub loop-at-preserved-then-n-gt0 : goal.loop-at-preserved-then-n-gt0
loop-at-preserved-then-n-gt0 c =
    let w : Stands c.args.input.now c.loop-at.at c.block_len-n.result = record { in_src = c.loop-at-test.true; blocks = c.block_len-n.ensures } in
    record { inside = block_in w; few = omega arith; counted = omega (arith, block_counts w c.if-n-gt0.true) }

pub overflow_add-total-then-l-gt0 : goal.overflow_add-total-then-l-gt0
overflow_add-total-then-l-gt0 c =
    let w : Stands c.args.input.now c.loop-at.at c.block_len-n.result = record { in_src = c.loop-at-test.true; blocks = c.block_len-n.ensures } in
    let e = lined w c.if-n-gt0.false c.line_len-l.ensures.size c.line_len-l.ensures.len in
    omega (arith, e.left, e.fits)

pub overflow_add-total-then-l-gt0-2 : goal.overflow_add-total-then-l-gt0-2
overflow_add-total-then-l-gt0-2 c =
    let w : Stands c.args.input.now c.loop-at.at c.block_len-n.result = record { in_src = c.loop-at-test.true; blocks = c.block_len-n.ensures } in
    let e = lined w c.if-n-gt0.false c.line_len-l.ensures.size c.line_len-l.ensures.len in
    omega (arith, e.left, e.fits)

pub overflow_add-at-else-n-gt0 : goal.overflow_add-at-else-n-gt0
overflow_add-at-else-n-gt0 c =
    let w : Stands c.args.input.now c.loop-at.at c.block_len-n.result = record { in_src = c.loop-at-test.true; blocks = c.block_len-n.ensures } in
    let e = lined w c.if-n-gt0.false c.line_len-l.ensures.size c.line_len-l.ensures.len in
    omega (arith, e.fits)

pub loop-at-preserved : goal.loop-at-preserved
loop-at-preserved c =
    let w : Stands c.args.input.now c.loop-at.at c.block_len-n.result = record { in_src = c.loop-at-test.true; blocks = c.block_len-n.ensures } in
    let e = lined w c.if-n-gt0.false c.line_len-l.ensures.size c.line_len-l.ensures.len in
    elim c.if-l-gt0.branch [
      | then-l-gt0 b ↦ record { inside = e.fits; few = omega (arith, b.total-is, e.left, e.moves); counted = omega (arith, b.total-is, e.some b.if-l-gt0.true) }
      | else-l-gt0 b ↦ record { inside = e.fits; few = omega (arith, b.total-is); counted = omega (arith, b.total-is, e.none b.if-l-gt0.false) }
    ]

pub returns : goal.returns
returns c = omega (arith, ap length (normalised_end c.args.input.now c.loop-at.at c.loop-at-test.false))
