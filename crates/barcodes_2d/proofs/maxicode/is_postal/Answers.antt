-- `barcodes_2d::maxicode::is_postal` meets its contract. Invariant: what is asked of s is asked of t from byte skip on,
-- with some for a digit that stood before t. Measure: t's length.
use mathlib.Core.Path.{sym, ◌∙◌}
use native.Mathlib.Omega.{arith}
use lib.ListN.{length-take, length-drop}
use borrow.Author.Rules.{rules}
use Rattle.text.specs.Utf8.{decode}
use Rattle.barcodes_2d.proofs.MaxicodeLaws.{postal_is, postal_skip, postal_part, postal_end}
use Rattle.barcodes_2d.proofs.maxicode.is_postal.Goals as goal
use Rattle.barcodes_2d.proofs.maxicode.is_postal.Goals.{then-m-skip, else-m-skip+else-not-is_digit}

pub loop-t-init : goal.loop-t-init
loop-t-init c = (search rules, postal_is (decode c.args.s.now))

pub returns-then-not-is_digit : goal.returns-then-not-is_digit
returns-then-not-is_digit c =
    let e = sym c.is_digit.ensures ∙ c.if-not-is_digit.true in
    sym (c.loop-t.invariant.1 ∙ postal_part c.loop-t.skip c.loop-t.some c.loop-t.t.now c.loop-t-test.true c.part_len-k.ensures c.shown_len-m.ensures c.if-m-skip.false ∙ simp e)

pub loop-t-smaller : goal.loop-t-smaller
loop-t-smaller c =
    simp (length-take, length-drop) (omega (arith, c.part_len-k.ensures.some c.loop-t-test.true))

pub loop-t-preserved : goal.loop-t-preserved
loop-t-preserved c = (
  simp (length-take, length-drop) (omega arith),
  elim c.if-m-skip.branch [
    | then-m-skip w ↦
        rw (w.skip-is, w.some-is)
        (c.loop-t.invariant.1 ∙ postal_skip c.loop-t.skip c.loop-t.some c.loop-t.t.now c.loop-t-test.true c.part_len-k.ensures c.shown_len-m.ensures w.if-m-skip.true)
    | else-m-skip+else-not-is_digit w ↦
        rw (w.skip-is, w.some-is)
        (c.loop-t.invariant.1 ∙ postal_part c.loop-t.skip c.loop-t.some c.loop-t.t.now c.loop-t-test.true c.part_len-k.ensures c.shown_len-m.ensures w.if-m-skip.false ∙ simp (sym w.is_digit.ensures ∙ w.if-not-is_digit.false))
  ],
)

pub returns : goal.returns
returns c = sym (c.loop-t.invariant.1 ∙ postal_end c.loop-t.t.now c.loop-t.skip c.loop-t.some c.loop-t-test.false)
