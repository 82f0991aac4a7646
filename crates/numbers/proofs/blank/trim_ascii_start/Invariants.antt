-- `crate::blank::trim_ascii_start` meets its contract. Invariant: nothing but blanks stands before i; a byte above 20 is
-- none. Measure: s's length less i.
use Rattle.std.proofs.Common.{◌≡◌, ◌≤◌, ◌-◌, length, drop}
use Rattle.text.specs.Blank.{is_ascii_blank, drop_while}
use Rattle.numbers.proofs.blank.trim_ascii_start.Given as goal

abbrev pub invariant-loop-i : goal.invariant-loop-i
invariant-loop-i l = (l.i ≤ length l.s) × (drop_while is_ascii_blank l.s ≡ drop_while is_ascii_blank (drop l.i l.s))

abbrev pub decreases-loop-i : goal.decreases-loop-i
decreases-loop-i l = length l.s - l.i
