-- `crate::put::store` meets its contract. Invariant: `Copied`, what is left of t, stored on out as it is, gives the
-- end's bytes.
use Rattle.text.proofs.WroteLaws.{Copied}
use Rattle.byte_slices.proofs.put.store.Given as goal

abbrev pub invariant-loop-i : goal.invariant-loop-i
invariant-loop-i g l = Copied l.t l.initial.out l.at l.out l.i
