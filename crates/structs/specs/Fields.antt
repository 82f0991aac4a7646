-- The fields of a flat element that only some kinds have, by name: a kind says its own, and every other is 0.
use Rattle.std.specs.Prelude.{cond, List, [], ◌∷◌, ℕ, eqb, ℤ, pos, Float}
use Rattle.std.specs.Float.{binary64}
use Rattle.std.specs.Float.Ieee.{of_bits}
use Rattle.elements.specs.declared.DataSpan.{DataSpan}
use Rattle.elements.specs.declared.LabelPosition.{LabelPosition}
use Rattle.structs.specs.declared.answer.Element.{Element}

-- flags and letters, then numbers, then f64s
pub data Field : Type 0 where
  rotation : Field
  reverse : Field
  colour : Field
  direction : Field
  line : Field
  check : Field
  truncate : Field
  level : Field
  width : Field
  height : Field
  thickness : Field
  bytes_a_row : Field
  security : Field
  columns : Field
  rows : Field
  magnification : Field
  size : Field
  mode : Field
  font : Field
  horizontal : Field
  vertical : Field
  wide : Field
  height_of_text : Field
  width_of_text : Field
  ratio : Field

-- which it is: no two have the same number
abbrev pub which : Field → ℕ
which rotation = 0
which reverse = 1
which colour = 2
which direction = 3
which line = 4
which check = 5
which truncate = 6
which level = 7
which width = 8
which height = 9
which thickness = 10
which bytes_a_row = 11
which security = 12
which columns = 13
which rows = 14
which magnification = 15
which size = 16
which mode = 17
which font = 18
which horizontal = 19
which vertical = 20
which wide = 21
which height_of_text = 22
which width_of_text = 23
which ratio = 24

-- what a kind says of a field, or zero
abbrev pub said : {A : Type 0} → A → List (Field × A) → Field → A
said zero [] f = zero
said zero (x ∷ xs) f = cond (eqb (which x.0) (which f)) x.1 (said zero xs f)

-- an element of this kind at p with the data d, and what it says of flags, numbers and f64s
abbrev pub saying : ℕ → LabelPosition → DataSpan → List (Field × ℕ) → List (Field × ℤ) → List (Field × Float) → Element
saying kind p d flags numbers sizes = record {
  kind = kind;
  rotation = said 0 flags rotation;
  reverse = said 0 flags reverse;
  colour = said 0 flags colour;
  direction = said 0 flags direction;
  line = said 0 flags line;
  check = said 0 flags check;
  truncate = said 0 flags truncate;
  level = said 0 flags level;
  x = p.x;
  y = p.y;
  width = said (pos 0) numbers width;
  height = said (pos 0) numbers height;
  thickness = said (pos 0) numbers thickness;
  row_bytes = said (pos 0) numbers bytes_a_row;
  security = said (pos 0) numbers security;
  columns = said (pos 0) numbers columns;
  rows = said (pos 0) numbers rows;
  magnification = said (pos 0) numbers magnification;
  size = said (pos 0) numbers size;
  mode = said (pos 0) numbers mode;
  font = said (pos 0) numbers font;
  horizontal = said (pos 0) numbers horizontal;
  vertical = said (pos 0) numbers vertical;
  wide = said (pos 0) numbers wide;
  text_height = said (of_bits binary64 0) sizes height_of_text;
  text_width = said (of_bits binary64 0) sizes width_of_text;
  ratio = said (of_bits binary64 0) sizes ratio;
  data_start = d.start;
  data_len = d.len;
}
