-- `crate::scan::window` meets its contract. Invariant: k is the first b of the i bytes looked at, or 64.
use Rattle.text.proofs.ScanLaws.{Least}
use Rattle.byte_slices.proofs.scan.window.Given as goal

abbrev pub invariant-loop-i : goal.invariant-loop-i
invariant-loop-i l = Least l.a l.b l.from l.i l.k
