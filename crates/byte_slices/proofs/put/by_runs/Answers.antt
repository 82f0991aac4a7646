-- A run more is stored; the last one ends where src ends.
use Rattle.std.proofs.Common.{arith}
use Rattle.text.proofs.WroteLaws.{run_step, run_end}
use Rattle.byte_slices.proofs.put.by_runs.Goals as goal

pub loop-i-preserved : goal.loop-i-preserved
loop-i-preserved g c = run_step c.loop-i.invariant (omega arith) c.load-in-loop-i.ensures c.store-in-loop-i.ensures

pub returns : goal.returns
returns g c = run_end c.loop-i.invariant _ c.loop-i-test.false (omega arith) c.load.ensures c.store.ensures c.load-2.ensures c.store-2.ensures
