-- `crate::fields::without_trailing_commas` meets its contract. Invariant: t without its last commas is s without them.
-- Measure: t's length.
use Rattle.std.proofs.Common.{◌≡◌, length}
use Rattle.text.specs.Fields.{without_trailing_commas}
use Rattle.byte_slices.proofs.fields.without_trailing_commas.Given as goal

abbrev pub invariant-loop-t : goal.invariant-loop-t
invariant-loop-t l = without_trailing_commas l.s ≡ without_trailing_commas l.t

abbrev pub decreases-loop-t : goal.decreases-loop-t
decreases-loop-t l = length l.t
