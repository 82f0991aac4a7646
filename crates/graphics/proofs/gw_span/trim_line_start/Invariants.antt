-- `graphics::gw_span::trim_line_start` meets its contract. Invariant: nothing but blanks stands before i. Measure: s's
-- length less i. Assumes nothing.
use Rattle.std.proofs.Common.{◌≡◌, ◌-◌, ◌≤◌, length, drop}
use Rattle.text.specs.Blank.{drop_while}
use Rattle.graphics.specs.Block.{is_line_blank}
use Rattle.graphics.proofs.gw_span.trim_line_start.Given as goal

abbrev pub invariant-loop-i : goal.invariant-loop-i
invariant-loop-i l = (l.i ≤ length l.s) × (drop_while is_line_blank l.s ≡ drop_while is_line_blank (drop l.i l.s))

abbrev pub decreases-loop-i : goal.decreases-loop-i
decreases-loop-i l = length l.s - l.i
