-- `barcodes::barcode::parse_epl_barcode` meets its contract: its calls read the eight fields in order, and their number
-- decides.
use native.Mathlib.Omega.{arith}
use mathlib.Core.Bool.{not}
use mathlib.Core.Path.{◌≡◌, refl, ap, ◌∙◌}
use mathlib.Core.List.{List}
use Prim.Native.Nat.{ℕ, ◌+◌}
use lib.Dec.{leb}
use lib.ListN.{length, drop}
use Rattle.text.specs.Ascii.{letter}
use Rattle.text.specs.Fields.{after, fields}
use Rattle.numbers.proofs.IntLaws.{back32}
use Rattle.parameters.specs.FieldValues.{point_of, fields_from}
use Rattle.parameters.specs.Params.{number_at, size_at, type_at, exactly_at}
use Rattle.parameters.proofs.ParamsLaws.{type_upto, after_upto, too_few, enough, reached}
use Rattle.parameters.proofs.PlaceLaws.{number_value, number_next, size_value, size_next}
use Rattle.barcodes.specs.Barcode.{symbology_of, barcode_fields, barcode_reading}
use Rattle.barcodes.proofs.barcode.parse_epl_barcode.Goals as goal
use Rattle.barcodes.proofs.barcode.parse_epl_barcode.Goals.{After-reaches}

-- where each field stands: the first three in the parameters, the others in what follows those
module _ (d : After-reaches) where
  abbrev s : List ℕ
  s = d.args.params.now

  abbrev t : List ℕ
  t = d.rest_from-t.result.now

  at_y : drop d.number_from-x.result.next s ≡ fields_from 1 s
  at_y = number_next _ _ _ refl d.number_from-x.ensures

  at_r : drop d.number_from-y.result.next s ≡ fields_from 2 s
  at_r = number_next _ _ _ at_y d.number_from-y.ensures

  at_t : t ≡ fields_from 3 s
  at_t = d.rest_from-t.ensures ∙ number_next _ _ _ at_r d.number_from-rotation.ensures

  at_n : drop (d.find-n.result + 1) t ≡ fields_from 4 s
  at_n = after_upto t d.find-n.ensures.is ∙ ap (after 44) at_t

  at_w : drop d.size_from-narrow.result.next t ≡ fields_from 5 s
  at_w = size_next _ _ _ at_n d.size_from-narrow.ensures

  at_h : drop d.number_from-wide.result.next t ≡ fields_from 6 s
  at_h = number_next _ _ _ at_w d.number_from-wide.ensures

  at_l : drop d.size_from-height.result.next t ≡ fields_from 7 s
  at_l = size_next _ _ _ at_h d.size_from-height.ensures

  counted : d.reaches.result ≡ leb 8 (length (fields s))
  counted = reached 7 s t d.size_from-height.result.next at_l refl d.reaches.ensures

pub returns-then-not-reaches : goal.returns-then-not-reaches
unfolding barcode_reading
returns-then-not-reaches c = too_few _ _ _ _ (counted (goal.at.returns-then-not-reaches c).After-reaches) (ap not c.if-not-reaches.true)

pub returns : goal.returns
unfolding barcode_reading barcode_fields point_of number_at size_at type_at exactly_at
returns c =
    let d = (goal.at.returns c).After-reaches in
    let plain =
    simp (
      back32 c.number_from-x.result.value (omega arith),
      back32 c.number_from-y.result.value (omega arith),
      back32 c.size_from-narrow.result.value (omega arith),
      back32 c.number_from-wide.result.value (omega arith),
      back32 c.size_from-height.result.value (omega arith),
      back32 c.number_from-rotation.result.value (omega arith),
    )
    at c.barcode_at.ensures in
    (simp (
      number_value _ _ _ refl c.number_from-x.ensures,
      number_value _ _ _ (at_y d) c.number_from-y.ensures,
      number_value _ _ _ (at_r d) c.number_from-rotation.ensures,
      c.symbology_upto-symbology.ensures ∙ ap symbology_of (type_upto (t d) c.find-n.ensures.is ∙ ap type_at (at_t d)),
      size_value _ _ _ (at_n d) c.size_from-narrow.ensures,
      number_value _ _ _ (at_w d) c.number_from-wide.ensures,
      size_value _ _ _ (at_h d) c.size_from-height.ensures,
      c.is_exactly-line.ensures ∙ ap (exactly_at (letter "B")) (c.rest_from.ensures ∙ at_l d),
    )
    at plain)
    ∙ enough _ _ _ _ (counted d) (ap not c.if-not-reaches.false)
