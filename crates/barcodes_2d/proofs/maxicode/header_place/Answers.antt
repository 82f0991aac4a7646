-- `barcodes_2d::maxicode::header_place` meets its contract. Invariant: no header stands before i. Measure: s's length
-- less i.
use mathlib.Core.Path.{sym, ◌∙◌}
use native.Mathlib.Omega.{arith}
use borrow.Author.Rules.{rules}
use Rattle.barcodes_2d.proofs.MaxicodeLaws.{place_step, place_end}
use Rattle.barcodes_2d.proofs.maxicode.header_place.Goals as goal

pub loop-i-preserved : goal.loop-i-preserved
loop-i-preserved c =
    let e = sym c.header_at.ensures ∙ c.if-not-header_at.true in
    let n = simp e at (place_step c.args.s.now c.loop-i.i c.loop-i-test.true) in
    (search rules, omega (arith, n))

pub returns-else-not-header_at : goal.returns-else-not-header_at
returns-else-not-header_at c =
    let e = sym c.header_at.ensures ∙ c.if-not-header_at.false in
    let n = simp e at (place_step c.args.s.now c.loop-i.i c.loop-i-test.true) in
    omega (arith, n)

pub returns-after-loop-i : goal.returns-after-loop-i
returns-after-loop-i c = omega (arith, place_end c.args.s.now c.loop-i.i c.loop-i-test.false)
