-- `crate::put::load` meets its contract. Invariant: `Loaded`, the first i bytes of t are those from `from` on.
use Rattle.text.proofs.WroteLaws.{Loaded}
use Rattle.byte_slices.proofs.put.load.Given as goal

abbrev pub invariant-loop-i : goal.invariant-loop-i
invariant-loop-i g l = Loaded g.row.N l.src l.from l.t l.i
