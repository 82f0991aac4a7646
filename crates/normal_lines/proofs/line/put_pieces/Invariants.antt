-- `normal_lines::line::put_pieces`: the line is written up to done, and blanks go on to seen. Measure: the bytes left.
use Rattle.std.proofs.Common.{◌-◌, length}
use Rattle.normal_lines.proofs.PiecesLaws.{Along}
use Rattle.normal_lines.proofs.line.put_pieces.Given as goal

abbrev pub invariant-loop-seen : goal.invariant-loop-seen
invariant-loop-seen l = Along l.t l.fn.out l.at l.out l.done l.seen l.to

abbrev pub decreases-loop-seen : goal.decreases-loop-seen
decreases-loop-seen l = length l.t - l.seen
