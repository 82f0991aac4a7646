-- What lies where on one label (01, "What lies where"): what is due to `inside`, `touching` and `nearest`, of the
-- elements of the label that the index opens.
use Rattle.std.specs.Prelude.{cond, List, ℕ}
use Rattle.elements.specs.Given.{Due, text, denied, longest, within}
use Rattle.elements.specs.declared.LabelElement.{LabelElement}
use Rattle.elements.specs.declared.LabelPosition.{LabelPosition}
use Rattle.walk_theory.specs.Index.{Opening, opens, denies, opening}
use Rattle.grammar.specs.Epl.{EplPrint, epl}
use Rattle.label_index.specs.Entries.{entries_of}
use Rattle.label_index.specs.declared.entry.LabelEntry.{LabelEntry}
use Rattle.where_element.specs.Place.{is_turned}
use Rattle.where_element.specs.Element.{inside_of, touching_of, nearest_of}
use Rattle.where_element.specs.declared.place.Rectangle.{Rectangle}
use Rattle.where_element.specs.Found.{Spot, element, refused}

-- an element as it is, for a frame
abbrev pub itself : List ℕ → LabelElement → LabelElement
itself s e = e

abbrev pub ElementOpening : Type 0
ElementOpening = Opening LabelElement EplPrint

-- "The label is opened by its number in the index, with all checks of opening": its elements, or a refusal
abbrev pub opening_of : List ℕ → List LabelEntry → ℕ → ElementOpening
opening_of s es i = opening epl LabelElement itself s (entries_of es) i

-- the numbers that are asked for, of the label's elements
abbrev pub found_in : (List LabelElement → List ℕ) → ElementOpening → Due
found_in f (opens l) = text (f l.frames)
found_in f (denies k p) = denied k p

-- "Checks: 22 .. (place 0), directly after 14 and before 21"
abbrev pub checked : List ℕ → Rectangle → Due → Due
checked s r d = within longest s (cond (is_turned r) (denied 22 0) d)

-- what is due to `inside`
abbrev pub inside_due : List ℕ → List LabelEntry → ℕ → Rectangle → Due
inside_due s es i r = checked s r (found_in (inside_of r) (opening_of s es i))

-- what is due to `touching`
abbrev pub touching_due : List ℕ → List LabelEntry → ℕ → Rectangle → Due
touching_due s es i r = checked s r (found_in (touching_of r) (opening_of s es i))

abbrev pub nearest_in : LabelPosition → ElementOpening → Spot
nearest_in q (opens l) = element (nearest_of q l.frames)
nearest_in q (denies k p) = refused k p

-- what is due to `nearest`
abbrev pub nearest_due : List ℕ → List LabelEntry → ℕ → LabelPosition → Spot
nearest_due s es i q = nearest_in q (opening_of s es i)
