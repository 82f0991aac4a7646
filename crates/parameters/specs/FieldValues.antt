-- What a field says (01, "Grammar": "Fields in order"). A number with its default is `field_or`.
use Rattle.std.specs.Prelude.{ℕ, zero, suc, Bool, List, [], ◌∷◌, ℤ, pos}
use Rattle.text.specs.Blank.{trim}
use Rattle.text.specs.Fields.{after, same}
use Rattle.numbers.specs.Int.{max_z}
use Rattle.numbers.specs.Number.{field_or}
use Rattle.elements.specs.declared.LabelPosition.{LabelPosition}

-- "Least value 1 for multipliers, narrow bar, bar height, thickness, line width and height"
unfoldable pub size_or : ℤ → List ℕ → ℤ
size_or d f = max_z (field_or d f) (pos 1)

-- x and y in two fields, each 0 by default
unfoldable pub point_of : List ℕ → List ℕ → LabelPosition
point_of x y = record { x = field_or (pos 0) x; y = field_or (pos 0) y }

-- a field is "exactly" a letter, "blanks off"
unfoldable pub exactly : ℕ → List ℕ → Bool
exactly b f = same (trim f) (b ∷ [])

-- what follows the k-th comma, nothing where there are fewer: the fields from the k-th on, counted from 0
abbrev pub fields_from : ℕ → List ℕ → List ℕ
fields_from zero s = s
fields_from (suc k) s = fields_from k (after 44 s)
