-- Invariant: what is taken, with the rest from at on, makes all. Measure: s's length less at.
use Rattle.std.proofs.Common.{◌≡◌, ◌≤◌, length, drop, ◌-◌}
use Rattle.barcodes_2d.specs.Options.{options_of}
use Rattle.barcodes_2d.specs.OptionSteps.{all_taken, no_options}
use Rattle.barcodes_2d.proofs.options.options_of.Given as goal

abbrev pub invariant-loop-at : goal.invariant-loop-at
invariant-loop-at l = (l.at ≤ length l.s) × (all_taken no_options (options_of l.s) ≡ all_taken l.o (options_of (drop l.at l.s)))

abbrev pub decreases-loop-at : goal.decreases-loop-at
decreases-loop-at l = length l.s - l.at
