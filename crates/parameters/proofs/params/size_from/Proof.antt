-- `parameters::params::size_from` meets its contract: the number, at least 1.
-- Assumes nothing.
use mir.Facts.{to_z-of_z}
use Rattle.numbers.proofs.IntLaws.{back32}
use Rattle.parameters.proofs.PlaceLaws.{size_is}
use borrow.Author.Rules.{rules}
use Rattle.parameters.proofs.params.size_from.Statement.{statement}
use Rattle.parameters.proofs.params.size_from.Tie as tie

returns : tie.Need-returns
returns c =
    let n = c.number_from-n in
    let s = c in
    rw (back32 c.max.result c.max.type_inv)
    (size_is s.args.default s.args.s.now s.args.at n.result c.max.result
    (simp (to_z-of_z s.ranges.default) at n.ensures)
    (simp (back32 n.result.value c.struct_told-1.given.0.1) at c.max.ensures))

pub size_from_spec : {M : Type 1} → statement M
size_from_spec = tie.close (tie.spec (λ c κs. search rules) (λ c κs. search rules) returns)
