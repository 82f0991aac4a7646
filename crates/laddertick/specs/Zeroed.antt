-- Flat answers and structs, field by field: 01, "Frames", names the fields of each kind, and "A field that its kind
-- does not name is 0" (include/laddertick.h).
use Rattle.std.specs.Prelude.{Bool, false, cond, ◌||◌, List, [], ◌∷◌, ℕ, eqb, pos}
use Rattle.std.specs.Float.{binary64}
use Rattle.std.specs.Float.Ieee.{of_bits}
use Rattle.structs.specs.declared.answer.Element.{Element}

-- the struct where there is no element
abbrev pub no_element : Element
no_element =
    record {
      kind = 0;
      rotation = 0;
      reverse = 0;
      colour = 0;
      direction = 0;
      line = 0;
      check = 0;
      truncate = 0;
      level = 0;
      x = pos 0;
      y = pos 0;
      width = pos 0;
      height = pos 0;
      thickness = pos 0;
      row_bytes = pos 0;
      security = pos 0;
      columns = pos 0;
      rows = pos 0;
      magnification = pos 0;
      size = pos 0;
      mode = pos 0;
      font = pos 0;
      horizontal = pos 0;
      vertical = pos 0;
      wide = pos 0;
      text_height = of_bits binary64 0;
      text_width = of_bits binary64 0;
      ratio = of_bits binary64 0;
      data_start = 0;
      data_len = 0;
    }

-- k is one of these kinds
abbrev pub one_of : List ℕ → ℕ → Bool
one_of [] k = false
one_of (x ∷ xs) k = eqb k x || one_of xs k

-- a struct that is 0 in every field which its kind does not name, the kinds that name a field standing before it: "01
-- text: rotation flag (0 to 3), reverse flag, font, horizontal and vertical multiplier, height and width f64, data",
-- and so on
abbrev pub of_its_kind : Element → Element
of_its_kind v =
    record {
      kind = v.kind;
      rotation = named (0x01 ∷ 0x05 ∷ 0x06 ∷ 0x07 ∷ 0x08 ∷ 0x09 ∷ 0x0a ∷ 0x0b ∷ 0x10 ∷ []) 0 v.rotation;
      reverse = named (0x01 ∷ []) 0 v.reverse;
      colour = named (0x02 ∷ []) 0 v.colour;
      direction = named (0x03 ∷ []) 0 v.direction;
      line = named (0x05 ∷ 0x06 ∷ 0x07 ∷ 0x08 ∷ 0x09 ∷ 0x0a ∷ 0x10 ∷ []) 0 v.line;
      check = named (0x09 ∷ 0x0a ∷ []) 0 v.check;
      truncate = named (0x0b ∷ []) 0 v.truncate;
      level = named (0x0e ∷ []) 0 v.level;
      x = v.x;
      y = v.y;
      width =
          named (0x02 ∷ 0x03 ∷ 0x05 ∷ 0x06 ∷ 0x07 ∷ 0x08 ∷ 0x09 ∷ 0x0a ∷ 0x0b ∷ 0x10 ∷ []) (pos 0) v.width;
      height =
          named (0x02 ∷ 0x03 ∷ 0x05 ∷ 0x06 ∷ 0x07 ∷ 0x08 ∷ 0x09 ∷ 0x0a ∷ 0x0b ∷ 0x0d ∷ 0x10 ∷ []) (pos 0) v.height;
      thickness = named (0x02 ∷ 0x03 ∷ []) (pos 0) v.thickness;
      row_bytes = named (0x04 ∷ []) (pos 0) v.row_bytes;
      security = named (0x0b ∷ []) (pos 0) v.security;
      columns = named (0x0b ∷ 0x0d ∷ []) (pos 0) v.columns;
      rows = named (0x0b ∷ 0x0d ∷ []) (pos 0) v.rows;
      magnification = named (0x0c ∷ 0x0e ∷ []) (pos 0) v.magnification;
      size = named (0x0c ∷ []) (pos 0) v.size;
      mode = named (0x05 ∷ 0x0f ∷ []) (pos 0) v.mode;
      font = named (0x01 ∷ []) (pos 0) v.font;
      horizontal = named (0x01 ∷ []) (pos 0) v.horizontal;
      vertical = named (0x01 ∷ []) (pos 0) v.vertical;
      wide = named (0x09 ∷ 0x0a ∷ []) (pos 0) v.wide;
      text_height = named (0x01 ∷ []) (of_bits binary64 0) v.text_height;
      text_width = named (0x01 ∷ []) (of_bits binary64 0) v.text_width;
      ratio = named (0x09 ∷ 0x0a ∷ []) (of_bits binary64 0) v.ratio;
      -- every kind but a box and a diagonal has data
      data_start = cond (one_of (0x02 ∷ 0x03 ∷ []) v.kind) 0 v.data_start;
      data_len = cond (one_of (0x02 ∷ 0x03 ∷ []) v.kind) 0 v.data_len;
    }
  where
    -- what a field holds that these kinds name, or zero
    named : {A : Type 0} → List ℕ → A → A → A
    named ks zero a = cond (one_of ks v.kind) a zero
