-- `parameters::params::point_from` meets its contract: the first field is x, the next y.
-- Assumes nothing.
use Rattle.numbers.proofs.IntLaws.{back32}
use Rattle.parameters.proofs.PlaceLaws.{point_is}
use borrow.Author.Rules.{rules}
use Rattle.parameters.proofs.params.point_from.Statement.{statement}
use Rattle.parameters.proofs.params.point_from.Tie as tie

returns : tie.Need-returns
returns c =
    let second = c in let y = second.number_from-y in
    let first = second in let x = first.number_from-x in
    let s = first.args in
    rw (back32 x.result.value c.struct_told-1.given.0.1, back32 y.result.value c.struct_told-2-1.given.0.1)
    (point_is s.s.now s.at x.result y.result x.ensures y.ensures)

pub point_from_spec : {M : Type 1} → statement M
point_from_spec = tie.close (tie.spec (λ c κs. search rules) (λ c κs. search rules) returns)
