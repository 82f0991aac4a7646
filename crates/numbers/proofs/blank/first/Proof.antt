-- `crate::blank::first` meets its contract.
-- Assumes nothing.
use mathlib.Core.Path.{ap, ◌∙◌}
use Prim.Native.Nat.{ℕ}
use native.Mathlib.Omega.{arith}
use lib.ListN.{take, length-take}
use borrow.Author.Rules.{rules}
use Rattle.text.proofs.BlankSteps.{take_min}
use Rattle.numbers.proofs.blank.first.Statement.{statement}
use Rattle.numbers.proofs.blank.first.Tie as tie

returns : tie.Need-returns
returns c = ap (λ (n : ℕ). take n c.args.s.now) c.min-n.ensures ∙ take_min c.args.k c.args.s.now

pub first_spec : {M : Type 1} → statement M
first_spec = tie.close (tie.spec (λ c κs. search rules) (λ c. simp length-take (omega arith)) returns)
