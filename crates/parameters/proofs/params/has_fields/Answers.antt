-- `parameters::params::has_fields` meets its contract: a comma is one field more.
-- Assumes nothing.
use Rattle.std.proofs.Common.{arith}
use Rattle.text.proofs.FieldsLaws.{count_comma, count_other}
use Rattle.parameters.proofs.ParamsLaws.{has_found, has_not}
use Rattle.parameters.proofs.params.has_fields.Goals as goal
use Rattle.parameters.proofs.params.has_fields.Goals.{then-s-i-eq44, else-s-i-eq44, then-loop-i-test+else-wanted-gt1, else-loop-i-test}

pub loop-i-preserved : goal.loop-i-preserved
loop-i-preserved c =
    elim c.if-s-i-eq44.branch [
      | then-s-i-eq44 w ↦ omega (arith, count_comma c.args.s.now c.loop-i.i (omega arith) w.if-s-i-eq44.true)
      | else-s-i-eq44 w ↦ omega (arith, count_other c.args.s.now c.loop-i.i (omega arith) w.if-s-i-eq44.false)
    ]

pub returns : goal.returns
returns c =
    let l = c.loop-i in
    elim c.loop-i-test.branch [
      | then-loop-i-test+else-wanted-gt1 w ↦ has_found _ _ _ l.i l.invariant.1 w.if-wanted-gt1.false
      | else-loop-i-test w ↦ has_not _ _ _ l.i l.invariant.1 w.loop-i-test.false
    ]
