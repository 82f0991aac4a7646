-- `crate::blank::trim_end` meets its contract. Invariant: t trimmed is s trimmed. Measure: t's length.
use Rattle.std.proofs.Common.{◌≡◌, ◌≤◌, length}
use Rattle.text.specs.Blank.{trim_end}
use Rattle.numbers.proofs.blank.trim_end.Given as goal

abbrev pub invariant-loop-t : goal.invariant-loop-t
invariant-loop-t l = (length l.t ≤ length l.s) × (trim_end l.s ≡ trim_end l.t)

abbrev pub decreases-loop-t : goal.decreases-loop-t
decreases-loop-t l = length l.t
