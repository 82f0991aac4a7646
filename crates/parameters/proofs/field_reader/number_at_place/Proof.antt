-- `parameters::field_reader::number_at_place` meets its contract: nothing there, or any field.
-- Assumes nothing.
use mir.Facts.{to_z-of_z}
use Rattle.numbers.proofs.IntLaws.{back32}
use Rattle.parameters.proofs.PlaceLaws.{past_end}
use borrow.Author.Rules.{rules}
use Rattle.parameters.proofs.field_reader.number_at_place.Statement.{statement}
use Rattle.parameters.proofs.field_reader.number_at_place.Tie as tie

returns : tie.Need-returns-then-s-at
returns c =
    let d = to_z-of_z c.ranges.default in
    rw (back32 c.or_default.result c.or_default.type_inv) (past_end _ _ _ c.if-s-at.true (simp d at c.or_default.ensures))

returns-2 : tie.Need-returns
returns-2 c = simp (to_z-of_z c.ranges.default) at c.any_from.ensures

pub number_at_place_spec : {M : Type 1} → statement M
number_at_place_spec = tie.close (tie.spec (λ c κs. search rules) returns (λ c κs. search rules) returns-2)
