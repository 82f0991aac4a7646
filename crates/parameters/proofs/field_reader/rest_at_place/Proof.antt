-- `parameters::field_reader::rest_at_place` meets its contract.
-- Assumes nothing.
use mathlib.Core.Path.{sym}
use native.Mathlib.Omega.{arith}
use lib.ListN.{drop_of_length-le}
use Rattle.text.proofs.DropSteps.{rest}
use borrow.Author.Rules.{rules}
use Rattle.parameters.proofs.field_reader.rest_at_place.Statement.{statement}
use Rattle.parameters.proofs.field_reader.rest_at_place.Tie as tie

returns : tie.Need-returns-then-s-at
returns c = let a = c.args in sym (drop_of_length-le a.s.now {i = a.at} (omega arith))

returns-2 : tie.Need-returns
returns-2 c = let a = c.args in rest a.s.now a.at

pub rest_at_place_spec : {M : Type 1} → statement M
rest_at_place_spec =
    tie.close (tie.spec (λ c. search rules)
    returns (λ c. search rules) (λ c. search rules) (λ c. search rules)
    returns-2)
