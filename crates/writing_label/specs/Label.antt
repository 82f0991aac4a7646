-- What a call that writes a label from a list of structs is due (01, "Writing EPL"): the text, or the refusal by number
-- and place. 15 comes with the buffer (`Fills`, crate `elements`).
use Rattle.std.specs.Prelude.{cond, ◌&&◌, List, [], ◌∷◌, map, ℕ, zero, suc, ltb, length}
use Rattle.elements.specs.declared.PrintCounts.{PrintCounts}
use Rattle.elements.specs.Given.{Due, text, denied, within, longest}
use Rattle.structs.specs.declared.answer.Element.{Element}
use Rattle.dots.specs.declared.element.Element300.{Element300}
use Rattle.spellings.specs.Due.{no_label}
use Rattle.spellings.specs.Spelled.{spell_label}
use Rattle.spellings.specs.Writable.{writable}
use Rattle.structs_read.specs.Unflat.{standing, element_of}

-- the number of the first struct that no element has, or whose element is not writable; or how many there are
abbrev pub plain_bad : List ℕ → List Element → ℕ
plain_bad s [] = zero
plain_bad s (x ∷ xs) = cond (standing x && writable s (element_of x)) (suc (plain_bad s xs)) zero

-- 14; "23 (place: its number in the label ..)"; "A label with no element, more than 16,777,216 elements or a negative
-- count .. is 23 too, after its elements (place: its element count)"; "`N`, its elements and its print line"
unfoldable pub plain_label_due : List ℕ → List Element → PrintCounts → Due
plain_label_due s xs q =
    within longest s
    (cond (ltb (plain_bad s xs) (length xs)) (denied 23 (plain_bad s xs))
    (cond (no_label (length xs) q) (denied 23 (length xs)) (text (spell_label s (map element_of xs) q))))

-- an element at 300 dots an inch, its lengths as the printer's own dots
abbrev pub at300 : Element300 → Element
at300 e = record {
  kind = e.kind;
  rotation = e.rotation;
  reverse = e.reverse;
  colour = e.colour;
  direction = e.direction;
  line = e.line;
  check = e.check;
  truncate = e.truncate;
  level = e.level;
  x = e.x.0;
  y = e.y.0;
  width = e.width.0;
  height = e.height.0;
  thickness = e.thickness.0;
  row_bytes = e.row_bytes;
  security = e.security;
  columns = e.columns;
  rows = e.rows;
  magnification = e.magnification;
  size = e.size;
  mode = e.mode;
  font = e.font;
  horizontal = e.horizontal;
  vertical = e.vertical;
  wide = e.wide;
  text_height = e.text_height;
  text_width = e.text_width;
  ratio = e.ratio;
  data_start = e.data_start;
  data_len = e.data_len;
}

-- the same of a label at 300 dots
abbrev pub plain_label_due300 : List ℕ → List Element300 → PrintCounts → Due
plain_label_due300 s xs q = plain_label_due s (map at300 xs) q
