-- `texts::epl_text::parse_epl_text` meets its contract: its calls read the seven fields in order, and their number
-- decides.
-- Assumes nothing.
use Rattle.std.proofs.Common.{◌≡◌, refl, sym, ap, ◌∙◌, List, ℕ, Bool, true, cond, ltb, leb, pos, length, drop, arith}
use Rattle.text.specs.Fields.{fields}
use mir.Facts.{to_z-of_z}
use Rattle.parameters.specs.FieldValues.{point_of, fields_from}
use Rattle.parameters.specs.Params.{number_at, size_at, exactly_at, number_from, size_from}
use Rattle.parameters.specs.declared.field_reader.Numbered.{Numbered}
use Rattle.parameters.proofs.ParamsLaws.{too_few, enough, reached}
use Rattle.parameters.proofs.PlaceLaws.{number_value, number_next, size_value, size_next}
use Rattle.texts.specs.Text.{text_fields, text_element, text_reading}
use Rattle.texts.proofs.epl_text.parse_epl_text.Goals as goal
use Rattle.texts.proofs.epl_text.parse_epl_text.Goals.{After-reaches}

-- six numbers, each behind the comma of the one before
record Read (s : List ℕ) (x y r f h v : Numbered) : Type 0 where
  is_x : x ≡ number_from (pos 0) s 0
  is_y : y ≡ number_from (pos 0) s x.next
  is_r : r ≡ number_from (pos 0) s y.next
  is_f : f ≡ number_from (pos 1) s r.next
  is_h : h ≡ size_from (pos 1) s f.next
  is_v : v ≡ size_from (pos 1) s h.next

-- where each field stands, and what the seven say
module _ {s : List ℕ} {x y r f h v : Numbered} (read : Read s x y r f h v) where
  at_y : drop x.next s ≡ fields_from 1 s
  at_y = number_next _ _ _ refl read.is_x

  at_r : drop y.next s ≡ fields_from 2 s
  at_r = number_next _ _ _ at_y read.is_y

  at_f : drop r.next s ≡ fields_from 3 s
  at_f = number_next _ _ _ at_r read.is_r

  at_h : drop f.next s ≡ fields_from 4 s
  at_h = number_next _ _ _ at_f read.is_f

  at_v : drop h.next s ≡ fields_from 5 s
  at_v = size_next _ _ _ at_h read.is_h

  at_reverse : drop v.next s ≡ fields_from 6 s
  at_reverse = size_next _ _ _ at_v read.is_v

  seven : {b : Bool} → b ≡ exactly_at 82 (drop v.next s) → record { at = record { x = x.value; y = y.value }; rotation = r.value; scale = record { font = f.value; horizontal = h.value; vertical = v.value }; reverse = b } ≡ text_fields s
  unfolding text_fields point_of number_at size_at exactly_at
  seven is =
      simp (
        number_value _ _ _ refl read.is_x,
        number_value _ _ _ at_y read.is_y,
        number_value _ _ _ at_r read.is_r,
        number_value _ _ _ at_f read.is_f,
        size_value _ _ _ at_h read.is_h,
        size_value _ _ _ at_v read.is_v,
        is,
        at_reverse,
      )

  counted : {b : Bool} → b ≡ cond (ltb v.next (length s)) true (leb 7 (length (fields s))) → b ≡ leb 7 (length (fields s))
  counted is = reached 6 s s v.next at_reverse refl is

read_at : (c : After-reaches) → Read c.args.params.now c.number_from-x.result c.number_from-y.result c.number_from-rotation.result c.number_from-font.result c.size_from-h_mult.result c.size_from-v_mult.result
read_at c =
    record {
      is_x = c.number_from-x.ensures;
      is_y = c.number_from-y.ensures;
      is_r = c.number_from-rotation.ensures;
      is_f = c.number_from-font.ensures;
      is_h = c.size_from-h_mult.ensures;
      is_v = c.size_from-v_mult.ensures;
    }

pub returns-then-not-reaches : goal.returns-then-not-reaches
unfolding text_reading
returns-then-not-reaches c = too_few _ _ _ _ (counted (read_at (goal.at.returns-then-not-reaches c).After-reaches) c.if-not-reaches.ensures) refl

pub returns : goal.returns
unfolding text_reading
returns c =
    let read = read_at (goal.at.returns c).After-reaches in
    let plain : c.text_element.result ≡ text_element (record { at = record { x = c.number_from-x.result.value; y = c.number_from-y.result.value }; rotation = c.number_from-rotation.result.value; scale = record { font = c.number_from-font.result.value; horizontal = c.size_from-h_mult.result.value; vertical = c.size_from-v_mult.result.value }; reverse = c.is_exactly-reverse.result }) c.args.span c.args.reference = grind (arith, to_z-of_z) in
    let e : text_fields c.args.params.now ≡ _ = sym (seven read (c.is_exactly-reverse.ensures ∙ ap (exactly_at 82) c.rest_from.ensures)) in
    rw e (plain ∙ enough _ _ _ _ (counted read c.if-not-reaches.ensures) refl)
