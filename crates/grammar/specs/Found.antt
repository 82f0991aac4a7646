-- The unit that stands first in a string, or the number of its fault: a graphic where one opens, else the line up to
-- its LF.
use Rattle.std.specs.Prelude.{cond, List, [], ◌∷◌, ℕ, ◌-◌, take, drop}
use Rattle.text.specs.Blank.{drop_while, front, trim}
use Rattle.elements.specs.Refusals.{number_of}
use Rattle.graphics.specs.declared.gw_span.Graphic.{Graphic}
use Rattle.graphics.specs.declared.gw_span.Graphic.TheVariants as graphic
use Rattle.graphics.specs.Block.{is_line_blank, in_field, header_from, header_of, gw_span}
use Rattle.walk_theory.specs.Language.{First, none, bad, unit}
use Rattle.grammar.specs.Units.{Header, EplUnit, block, line, last, not_lf}
use Rattle.grammar.specs.WellFormed.{well_formed, fault_of}

-- a line without LF, and what follows it
abbrev pub line_by : List ℕ → List ℕ → First EplUnit
line_by [] [] = none
line_by (b ∷ t) [] = unit (last (b ∷ t)) []
line_by t (b ∷ rest) = unit (line t) rest

-- the line that stands first, whatever it says: none in []
abbrev pub text_line : List ℕ → First EplUnit
text_line s = line_by (front not_lf s) (drop_while not_lf s)

-- what a line says, without its LF
abbrev pub said : EplUnit → List ℕ
said (block bs h p) = []
said (line t) = t
said (last t) = t

-- a line that is well formed, or its fault
abbrev pub judged : First EplUnit → First EplUnit
judged none = none
judged (bad n) = bad n
judged (unit u rest) = cond (well_formed (trim (said u))) (unit u rest) (bad (fault_of (trim (said u))))

-- the four fields of a header t, which stands behind `GW`
abbrev pub header_fields : List ℕ → Header
header_fields t =
    record {
      x = front in_field (header_from 0 t);
      y = front in_field (header_from 1 t);
      width = front in_field (header_from 2 t);
      lines = front in_field (header_from 3 t);
    }

-- what stands first in s, by the graphic that does
abbrev pub found : List ℕ → Graphic → First EplUnit
found s graphic.NoGraphic = judged (text_line s)
found s (graphic.Refused n) = bad (number_of n)
found s (graphic.Span g) =
    unit
    (block (front is_line_blank s) (header_fields (header_of s))
    (take (g.data_end - g.data_start) (drop g.data_start s)))
    (drop g.data_end s)

unfoldable pub first : List ℕ → First EplUnit
first s = found s (gw_span s)
