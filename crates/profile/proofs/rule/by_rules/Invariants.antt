-- Invariant: the rules from k on, over t, say what all say over s. Measure: the rules left.
use Rattle.std.proofs.Common.{◌≡◌, ◌-◌, ◌≤◌, length, drop}
use Rattle.profile.specs.Profile.{rules_from, by_rules}
use Rattle.profile.proofs.rule.by_rules.Given as goal

abbrev pub invariant-loop-k : goal.invariant-loop-k
invariant-loop-k l = record {
  within : l.k ≤ length l.rules;
  shorter : length l.t ≤ length l.s;
  same : by_rules l.rules l.s ≡ rules_from l.k (drop l.k l.rules) l.t;
}

abbrev pub decreases-loop-k : goal.decreases-loop-k
decreases-loop-k l = length l.rules - l.k
