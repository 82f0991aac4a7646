-- `crate::utf8::part_len` meets its contract. Invariant: `Parted`, the part has i bytes and those that a run of lo..hi
-- has from i on. Measure: s's length less i.
use Rattle.std.proofs.Common.{◌-◌, length}
use Rattle.text.proofs.Utf8Steps.{Parted}
use Rattle.byte_slices.proofs.utf8.part_len.Given as goal

abbrev pub invariant-loop-i : goal.invariant-loop-i
invariant-loop-i l = Parted l.s l.n l.lo l.hi l.i

abbrev pub decreases-loop-i : goal.decreases-loop-i
decreases-loop-i l = length l.s - l.i
