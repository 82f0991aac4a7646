-- The bytes of the unit that stands first, whether it is well formed or not: a block's, or those of the line with its
-- LF.
use Rattle.std.specs.Prelude.{List, ℕ, length}
use Rattle.text.specs.Fields.{index_of}
use Rattle.text.specs.Scan.{size_by}
use Rattle.graphics.specs.declared.gw_span.Graphic.{Graphic}
use Rattle.graphics.specs.declared.gw_span.Graphic.TheVariants as graphic
use Rattle.graphics.specs.Block.{gw_span}

abbrev pub size_on : List ℕ → Graphic → ℕ
size_on s graphic.NoGraphic = size_by (index_of 10 s) (length s)
size_on s (graphic.Refused n) = size_by (index_of 10 s) (length s)
size_on s (graphic.Span g) = g.data_end

unfoldable pub unit_size : List ℕ → ℕ
unit_size s = size_on s (gw_span s)
