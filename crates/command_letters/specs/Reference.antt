-- `R` (01, "Grammar"): "x, then everything after the first comma as y; without a comma y stays".
use Rattle.std.specs.Prelude.{ℕ, cond, List, eqb, pos, length}
use Rattle.text.specs.Fields.{index_of, after, field}
use Rattle.numbers.specs.Number.{field_or}
use Rattle.elements.specs.declared.LabelPosition.{LabelPosition}

-- the reference that a line sets whose parameters are s, where r stood
unfoldable pub reference_of : List ℕ → LabelPosition → LabelPosition
reference_of s r =
    record {
      x = field_or (pos 0) (field s 0);
      y = cond (eqb (index_of 44 s) (length s)) r.y (field_or (pos 0) (after 44 s));
    }
