-- `dots_label::line::line_start`. Invariant: the line is that from here on. Measure: the bytes left.
use Rattle.std.proofs.Common.{◌≡◌, List, ℕ, ◌-◌, ◌≤◌, ◌<◌, length, drop}
use Rattle.dots_label.specs.Walked.{line_by, line_from}
use Rattle.dots_label.proofs.line.line_start.Given as goal

-- the line is found from `at` on in less than `fuel` units
pub record Sought (s : List ℕ) (from to at : ℕ) : Type 0 where
  pub fuel : ℕ
  pub enough : length s - at < fuel
  pub same : line_from s from to ≡ line_by fuel (drop at s) at to

abbrev pub invariant-loop-from : goal.invariant-loop-from
invariant-loop-from l = record {
  before : l.at < l.to;
  within : l.to ≤ length l.input;
  sought : Sought l.input l.from l.to l.at;
}

abbrev pub decreases-loop-from : goal.decreases-loop-from
decreases-loop-from l = length l.input - l.at
