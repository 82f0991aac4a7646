-- `crate::blank::trim_ascii_end` meets its contract. Invariant: nothing but blanks stands from n on; a byte above 20 is
-- none. Measure: n.
use Rattle.std.proofs.Common.{◌≡◌, ◌≤◌, length, take, reverse}
use Rattle.text.specs.Blank.{is_ascii_blank, drop_while}
use Rattle.numbers.proofs.blank.trim_ascii_end.Given as goal

abbrev pub invariant-loop-n : goal.invariant-loop-n
invariant-loop-n l =
    (l.n ≤ length l.s) × (drop_while is_ascii_blank (reverse l.s) ≡ drop_while is_ascii_blank (reverse (take l.n l.s)))

abbrev pub decreases-loop-n : goal.decreases-loop-n
decreases-loop-n l = l.n
