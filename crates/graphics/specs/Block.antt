-- Graphic blocks (01, "Grammar"): "ASCII blanks other than LF (20, 09, 0c, 0d), `GW`, four fields each closed by a
-- comma, no LF before the fourth comma, then width × lines bytes, neither negative".
use Rattle.std.specs.Prelude.{◌≡◌, ℕ, zero, suc, ◌+◌, ◌-◌, ◌*◌, ◌≤◌, Bool, true, false, cond, not, ◌&&◌, ◌||◌, List, [], ◌∷◌, eqb, ltb, ℤ, pos, nat_abs, length, take, drop}
use Rattle.std.specs.Int.Signed.{lt_z}
use Rattle.text.specs.Ascii.{ascii}
use Rattle.text.specs.Blank.{drop_while, front}
use Rattle.text.specs.Fields.{same}
use Rattle.numbers.specs.Number.{field_or}
use Rattle.elements.specs.declared.LabelElement.TheVariants as element
use Rattle.elements.specs.declared.LabelPosition.{LabelPosition}
use Rattle.elements.specs.declared.refusal.Refusal.TheVariants as refusal
use Rattle.elements.specs.Spans.{shifted}
use Rattle.graphics.specs.declared.gw_span.Block.{Block}
use Rattle.graphics.specs.declared.gw_span.Block.TheVariants as block
use Rattle.graphics.specs.declared.gw_span.Graphic.{Graphic}
use Rattle.graphics.specs.declared.gw_span.Graphic.TheVariants as graphic
use Rattle.graphics.specs.declared.gw_span.GwNumbers.{GwNumbers}
use Rattle.graphics.specs.declared.gw_span.GwSpan.{GwSpan}
use Rattle.graphics.specs.declared.gw_span.HeaderField.{HeaderField}
use Rattle.parameters.specs.declared.position.Placed.{Placed}
use Rattle.parameters.specs.declared.position.Placed.TheVariants as placing
use Rattle.parameters.specs.Position.{placed}

-- an ASCII blank other than LF
abbrev pub is_line_blank : ℕ → Bool
is_line_blank b = eqb b 0x20 || eqb b 0x09 || eqb b 0x0c || eqb b 0x0d

-- what follows the leading blanks of s begins with `GW`
unfoldable pub opens_gw : List ℕ → Bool
opens_gw s = same (take 2 (drop_while is_line_blank s)) (ascii "GW")

-- a byte within a header field
abbrev pub in_field : ℕ → Bool
in_field b = not (eqb b 44) && not (eqb b 10)

-- a text begins with a comma
abbrev pub starts_comma : List ℕ → Bool
starts_comma [] = false
starts_comma (b ∷ s) = eqb b 44

-- a comma, and no LF, ends the first field of a header t
unfoldable pub closes : List ℕ → Bool
closes t = starts_comma (drop_while in_field t)

-- the number in the first field of a header t, 0 by default
unfoldable pub header_number : List ℕ → ℤ
header_number t = field_or (pos 0) (front in_field t)

-- what follows the byte that ends the first field of a header t
unfoldable pub after_header_field : List ℕ → List ℕ
after_header_field t = drop 1 (drop_while in_field t)

-- a header t from its k-th field on, counted from 0
abbrev pub header_from : ℕ → List ℕ → List ℕ
header_from zero t = t
header_from (suc k) t = header_from k (after_header_field t)

-- "four fields each closed by a comma, no LF before the fourth comma"
unfoldable pub four_closed : List ℕ → Bool
four_closed t =
    closes (header_from 0 t) && closes (header_from 1 t) && closes (header_from 2 t) && closes (header_from 3 t)

-- what follows the four fields
unfoldable pub payload_of : List ℕ → List ℕ
payload_of t = header_from 4 t

-- "`GW`: x, y, width in bytes (the row bytes), lines"
unfoldable pub gw_numbers : List ℕ → GwNumbers
gw_numbers t =
    record {
      at = record { x = header_number (header_from 0 t); y = header_number (header_from 1 t) };
      width_bytes = header_number (header_from 2 t);
      lines = header_number (header_from 3 t);
    }

-- the bytes of a payload
abbrev pub total : GwNumbers → ℕ
total n = nat_abs n.width_bytes * nat_abs n.lines

-- a payload that stands at start, where left bytes are left: "11 negative, 12 payload passes the end"
unfoldable pub measured : GwNumbers → ℕ → ℕ → Graphic
measured n start left =
    cond (lt_z n.width_bytes (pos 0) || lt_z n.lines (pos 0)) (graphic.Refused refusal.GraphicNegative)
    (cond (ltb left (total n)) (graphic.Refused refusal.GraphicTruncated)
    (graphic.Span
    (record {
      at = n.at;
      width_bytes = n.width_bytes;
      data_start = start;
      data_end = start + total n;
    })))

-- the header of a graphic that stands first, behind its `GW`
abbrev pub header_of : List ℕ → List ℕ
header_of s = drop 2 (drop_while is_line_blank s)

-- the graphic that stands first in s, or 10, 11, 12; places are counted from its first byte
unfoldable pub gw_span : List ℕ → Graphic
gw_span s =
    cond (opens_gw s)
    (cond (four_closed (header_of s))
    (measured (gw_numbers (header_of s)) (length s - length (payload_of (header_of s))) (length (payload_of (header_of s))))
    (graphic.Refused refusal.GraphicFields))
    graphic.NoGraphic

-- the element of a graphic at its position with the place of its end, or 13
abbrev pub graphic_placed : GwSpan → Placed → Block
graphic_placed g (placing.At p) =
    block.Element
    (element.GraphicField
    (record {
      position = p;
      row_bytes = g.width_bytes;
      «data» = record { start = g.data_start; len = g.data_end - g.data_start };
    }))
    g.data_end
graphic_placed g placing.Outside = block.Refused refusal.OutOfRange

unfoldable pub graphic_at : GwSpan → LabelPosition → Block
graphic_at g r = graphic_placed g (placed g.at.x g.at.y r)

-- the block that a graphic is at a reference: its element with its size, or a refusal
abbrev pub block_reading : Graphic → LabelPosition → Block
block_reading graphic.NoGraphic r = block.NoBlock
block_reading (graphic.Refused n) r = block.Refused n
block_reading (graphic.Span g) r = graphic_at g r

-- a block where n bytes more stand before it: only its data moves
abbrev pub later_block : ℕ → Block → Block
later_block n block.NoBlock = block.NoBlock
later_block n (block.Refused k) = block.Refused k
later_block n (block.Element e size) = block.Element (shifted n e) size

-- ---- inner: what readers' contracts cite, and no claim rests on
-- what `header_field_len` answers: how far the first header field goes
pub record FieldLen (t : List ℕ) (r : ℕ) : Type 0 where
  pub is : take r t ≡ front in_field t
  pub left : drop r t ≡ drop_while in_field t
  pub fits : r ≤ length t

-- what `header_from` answers of the field at a place of t: its number, and whether a comma closes it; where one does,
-- the place of what follows
pub record HeaderRead (t : List ℕ) (at : ℕ) (r : HeaderField) : Type 0 where
  pub is : r.closed ≡ closes (drop at t)
  pub number : r.value ≡ header_number (drop at t)
  pub behind : r.closed ≡ true → after_header_field (drop at t) ≡ drop r.next t
  pub fits : r.next ≤ length t
