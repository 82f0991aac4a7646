-- `parameters::params::tail_two` meets its contract.
-- Assumes nothing.
use mathlib.Core.Path.{sym}
use native.Mathlib.Omega.{arith}
use lib.ListN.{drop_of_length-le}
use Rattle.text.proofs.DropSteps.{rest}
use borrow.Author.Rules.{rules}
use Rattle.parameters.proofs.params.tail_two.Statement.{statement}
use Rattle.parameters.proofs.params.tail_two.Tie as tie

returns : tie.Need-returns-then-s-lt2
returns c = sym (drop_of_length-le c.args.s.now {i = 2} (omega arith))

pub tail_two_spec : {M : Type 1} → statement M
tail_two_spec =
    tie.close (tie.spec (λ c. search rules)
    returns (λ c. search rules) (λ c. search rules) (λ c. search rules)
    (λ c. rest c.args.s.now 2))
