-- `draws::draw::parse_epl_line` meets its contract: its calls read the four fields in order, and their number decides.
-- Assumes nothing.
use Rattle.std.proofs.Common.{◌≡◌, refl, sym, ◌∙◌, List, ℕ, Bool, true, cond, ltb, leb, pos, length, drop, arith}
use Rattle.text.specs.Fields.{fields}
use mir.Facts.{to_z-of_z}
use Rattle.parameters.specs.FieldValues.{point_of, fields_from}
use Rattle.parameters.specs.Params.{number_at, size_at, number_from, size_from}
use Rattle.parameters.specs.declared.field_reader.Numbered.{Numbered}
use Rattle.parameters.proofs.ParamsLaws.{too_few, enough, reached}
use Rattle.parameters.proofs.PlaceLaws.{number_value, number_next, size_value, size_next}
use Rattle.draws.specs.Draw.{line_fields, line_element, line_reading}
use Rattle.draws.proofs.draw.parse_epl_line.Goals as goal
use Rattle.draws.proofs.draw.parse_epl_line.Goals.{After-reaches}

-- three numbers, each behind the comma of the one before
record Read (s : List ℕ) (x y w : Numbered) : Type 0 where
  is_x : x ≡ number_from (pos 0) s 0
  is_y : y ≡ number_from (pos 0) s x.next
  is_w : w ≡ size_from (pos 1) s y.next

-- where each field stands, and what the four say
module _ {s : List ℕ} {x y w : Numbered} (read : Read s x y w) where
  at_y : drop x.next s ≡ fields_from 1 s
  at_y = number_next _ _ _ refl read.is_x

  at_w : drop y.next s ≡ fields_from 2 s
  at_w = number_next _ _ _ at_y read.is_y

  at_h : drop w.next s ≡ fields_from 3 s
  at_h = size_next _ _ _ at_w read.is_w

  four : {h : Numbered} → h ≡ size_from (pos 1) s w.next → record { at = record { x = x.value; y = y.value }; width = w.value; height = h.value } ≡ line_fields s
  unfolding line_fields point_of number_at size_at
  four is =
      simp (
        number_value _ _ _ refl read.is_x,
        number_value _ _ _ at_y read.is_y,
        size_value _ _ _ at_w read.is_w,
        size_value _ _ _ at_h is,
      )

  counted : {b : Bool} → b ≡ cond (ltb w.next (length s)) true (leb 4 (length (fields s))) → b ≡ leb 4 (length (fields s))
  counted is = reached 3 s s w.next at_h refl is

read_at : (c : After-reaches) → Read c.args.params.now c.number_from-x.result c.number_from-y.result c.size_from-width.result
read_at c = record { is_x = c.number_from-x.ensures; is_y = c.number_from-y.ensures; is_w = c.size_from-width.ensures }

pub returns-then-not-reaches : goal.returns-then-not-reaches
unfolding line_reading
returns-then-not-reaches c = too_few _ _ _ _ (counted (read_at (goal.at.returns-then-not-reaches c).After-reaches) c.if-not-reaches.ensures) refl

pub returns : goal.returns
unfolding line_reading
returns c =
    let read = read_at (goal.at.returns c).After-reaches in
    let plain : c.line_element.result ≡ line_element (record { at = record { x = c.number_from-x.result.value; y = c.number_from-y.result.value }; width = c.size_from-width.result.value; height = c.size_from-height.result.value }) c.args.line_color c.args.reference = grind (arith, to_z-of_z) in
    let e : line_fields c.args.params.now ≡ _ = sym (four read c.size_from-height.ensures) in
    rw e (plain ∙ enough _ _ _ _ (counted read c.if-not-reaches.ensures) refl)
