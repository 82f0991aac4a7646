-- `writing_label::label::pass`: the element at i has its turn.
use Rattle.std.proofs.Common.{arith}
use Rattle.lent_lists.proofs.Pass.{passed_one, passed_all}
use Rattle.writing_label.specs.Tally.{TurnOf}
use Rattle.writing_label.proofs.label.pass.Goals as goal

pub loop-i-init : goal.loop-i-init
loop-i-init c = λ z p. p

pub loop-i-preserved : goal.loop-i-preserved
loop-i-preserved c = passed_one (TurnOf c.args.input.now) c.args.xs.now c.loop-i.i _ _ _ _ c.loop-i.invariant c.loop-i-test.true c.turn-c.ensures

pub returns : goal.returns
returns c = passed_all (TurnOf c.args.input.now) c.args.xs.now c.loop-i.i _ _ c.loop-i.invariant c.loop-i-test.false
