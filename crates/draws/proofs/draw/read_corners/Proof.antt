-- `draws::draw::read_corners` meets its contract: each call reads the field that follows that of the call before.
-- Assumes nothing.
use mathlib.Core.Path.{refl}
use Rattle.numbers.proofs.IntLaws.{back32}
use Rattle.parameters.specs.FieldValues.{point_of}
use Rattle.parameters.specs.Params.{number_at, size_at}
use Rattle.parameters.proofs.ParamsLaws.{seen_is}
use Rattle.parameters.proofs.PlaceLaws.{number_value, number_next, size_value, size_next}
use Rattle.draws.specs.Draw.{corners_at}
use Rattle.draws.specs.Axes.{corners_read}
use borrow.Author.Rules.{rules}
use Rattle.draws.proofs.draw.read_corners.Statement.{statement}
use Rattle.draws.proofs.draw.read_corners.Tie as tie

returns : tie.Need-returns
unfolding corners_read corners_at point_of number_at size_at
returns c =
    let told5 = c in
    let told4 = told5 in
    let told3 = told4 in
    let told2 = told3 in
    let told = told2 in
    let y2 = told in
    let x2 = y2 in
    let t = x2 in
    let y = t in
    let x = y in
    let at_y = number_next _ _ _ refl x.number_from-x.ensures in
    let at-t = number_next _ _ _ at_y y.number_from-y.ensures in
    let at-x2 = size_next _ _ _ at-t t.size_from-thickness.ensures in
    let at-y2 = number_next _ _ _ at-x2 x2.number_from-x2.ensures in
    rw (
      back32 x.number_from-x.result.value told.struct_told-1.given.0.1,
      back32 y.number_from-y.result.value told2.struct_told-2-1.given.0.1,
      back32 x2.number_from-x2.result.value told3.struct_told-3-1.given.0.1,
      back32 y2.number_from-y2.result.value told4.struct_told-4-1.given.0.1,
      back32 t.size_from-thickness.result.value told5.struct_told-5-1.given.0.1,
      seen_is _ _ x2.number_from-x2.result.next at-y2,
    )
    (simp (
      number_value _ _ _ refl x.number_from-x.ensures,
      number_value _ _ _ at_y y.number_from-y.ensures,
      size_value _ _ _ at-t t.size_from-thickness.ensures,
      number_value _ _ _ at-x2 x2.number_from-x2.ensures,
      number_value _ _ _ at-y2 y2.number_from-y2.ensures,
    ))

pub read_corners_spec : {M : Type 1} → statement M
read_corners_spec =
    tie.close (tie.spec
    (λ c κs. search rules) (λ c κs. search rules) (λ c κs. search rules) (λ c κs. search rules) (λ c κs. search rules)
    returns)
