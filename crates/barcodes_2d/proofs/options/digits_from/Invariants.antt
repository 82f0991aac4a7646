-- Invariant: `Ran`, v is what the digits before end are worth. Measure: s's length less end.
use Rattle.std.proofs.Common.{length, ◌-◌}
use Rattle.barcodes_2d.proofs.OptionsLaws.{Ran}
use Rattle.barcodes_2d.proofs.options.digits_from.Given as goal

abbrev pub invariant-loop-end : goal.invariant-loop-end
invariant-loop-end l = Ran l.s l.from l.v l.end

abbrev pub decreases-loop-end : goal.decreases-loop-end
decreases-loop-end l = length l.s - l.end
