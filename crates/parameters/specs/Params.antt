-- Inner: the parameter part s as readers read it, from its front and by places. No claim rests on these: what
-- commands say is put by fields and their values (`field`, `FieldValues`), and the k-th field is the first of what
-- follows k commas.
use Rattle.std.specs.Prelude.{ℕ, ◌-◌, Bool, ◌&&◌, List, eqb, ℤ, length, get_or, drop}
use Rattle.text.specs.Blank.{trim}
use Rattle.text.specs.Fields.{index_of, before, after}
use Rattle.text.specs.Utf8.{within}
use Rattle.numbers.specs.Number.{field_or}
use Rattle.elements.specs.declared.LabelPosition.{LabelPosition}
use Rattle.parameters.specs.declared.field_reader.Numbered.{Numbered}
use Rattle.parameters.specs.declared.params.Pointed.{Pointed}
use Rattle.parameters.specs.FieldValues.{size_or, point_of, exactly}

-- ---- from the front
-- the number in the first field, or its default
unfoldable pub number_at : ℤ → List ℕ → ℤ
number_at d s = field_or d (before 44 s)

-- the number in the first field, or its default, where the least value is 1
unfoldable pub size_at : ℤ → List ℕ → ℤ
size_at d s = size_or d (before 44 s)

-- x and y in the first two fields
unfoldable pub point_at : List ℕ → LabelPosition
point_at s = point_of (before 44 s) (before 44 (after 44 s))

-- the first field, blanks off
unfoldable pub type_at : List ℕ → List ℕ
type_at s = trim (before 44 s)

-- the first field, blanks off, is exactly the byte b
unfoldable pub exactly_at : ℕ → List ℕ → Bool
exactly_at b s = exactly b (before 44 s)

-- ---- by place: what is read from a place of s on, and the place of what follows, s's length where nothing does
-- where t begins, which s ends with
abbrev pub place_of : List ℕ → List ℕ → ℕ
place_of s t = length s - length t

-- a number, and the place behind its comma
unfoldable pub number_from : ℤ → List ℕ → ℕ → Numbered
number_from d s at = record { value = number_at d (drop at s); next = place_of s (after 44 (drop at s)) }

-- a number where the least value is 1, and the place behind its comma
unfoldable pub size_from : ℤ → List ℕ → ℕ → Numbered
size_from d s at = record { value = size_at d (drop at s); next = place_of s (after 44 (drop at s)) }

-- x and y, and the place behind the comma of y
unfoldable pub point_from : List ℕ → ℕ → Pointed
point_from s at = record { point = point_at (drop at s); next = place_of s (after 44 (after 44 (drop at s))) }

-- ---- the parts
-- the first field is one byte, neither a comma nor part of a blank
abbrev pub alone : List ℕ → Bool
alone s = within 0x2d 0x7f (get_or s 0 0) && eqb (index_of 44 s) 1
