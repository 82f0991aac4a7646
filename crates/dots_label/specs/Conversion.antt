-- One label from 203 to 300 dots (01, "From 203 to 300 dots"): what is due to `to_300`, and what it does with the list.
use Rattle.std.specs.Prelude.{◌≡◌, cond, List, [], ◌∷◌, ℕ, eqb, ltb, pos, length}
use Rattle.std.proofs.lemmas.List.Edits.{sets}
use Rattle.elements.specs.declared.LabelElement.{LabelElement}
use Rattle.walk_theory.specs.Index as index
use Rattle.walk_theory.specs.Index.{Opening, opens, opening}
use Rattle.grammar.specs.Epl.{EplPrint, epl}
use Rattle.label_index.specs.Entries.{entries_of}
use Rattle.label_index.specs.declared.entry.LabelEntry.{LabelEntry}
use Rattle.structs.specs.Flat.{flat_element}
use Rattle.dots.specs.declared.element.Element300.{Element300}
use Rattle.dots.specs.Element as dots
use Rattle.dots.specs.Element.{element300}
use Rattle.dots_label.specs.Placed.{Placed, placed}
use Rattle.dots_label.specs.declared.label.Label300.{Label300}

-- an element of a label, and the first byte of its line or block
abbrev pub Drawn : Type 0
Drawn = Placed LabelElement

abbrev pub DrawnOpening : Type 0
DrawnOpening = Opening Drawn EplPrint

-- "a label .. opened from the index": its elements in file order with their places, or a refusal of opening
abbrev pub drawn_of : List ℕ → List LabelEntry → ℕ → DrawnOpening
drawn_of s es i = opening (placed epl) Drawn (λ _ d. d) s (entries_of es) i

-- a label's elements at 300 dots with what its print says, or a refusal's number and place
pub data Conversion : Type 0 where
  converts : EplPrint → List Element300 → Conversion
  denied : ℕ → ℕ → Conversion

-- "24 a label with a graphic": 04 is its kind
abbrev pub graphic : LabelElement → ℕ
graphic e = cond (eqb (flat_element e).kind 4) 24 0

-- "13 for positions and 19 for all others", "13 first within it"
abbrev pub outside : LabelElement → ℕ
outside e = dots.outside (flat_element e)

-- the first element that has a number, and the first byte of its line; c where none has
abbrev pub first_of : (LabelElement → ℕ) → List Drawn → Conversion → Conversion
first_of f [] c = c
first_of f (d ∷ ds) c = cond (eqb (f d.element) 0) (first_of f ds c) (denied (f d.element) d.place)

-- "its elements in a lent list (15 if too short)", of m elements
abbrev pub into : ℕ → EplPrint → List Element300 → Conversion
into m q xs = cond (ltb m (length xs)) (denied 15 (length xs)) (converts q xs)

abbrev pub elements300 : List Drawn → List Element300
elements300 [] = []
elements300 (d ∷ ds) = element300 (flat_element d.element) ∷ elements300 ds

-- "24 .. after all checks of opening and before 13 and 19 of the results"; 15 last
abbrev pub label_conversion : ℕ → EplPrint → List Drawn → Conversion
label_conversion m q ds = first_of graphic ds (first_of outside ds (into m q (elements300 ds)))

abbrev pub conversion_by : ℕ → DrawnOpening → Conversion
conversion_by m (opens l) = label_conversion m l.says l.frames
conversion_by m (index.denies k p) = denied k p

-- what is due to `to_300`, for a list of m elements
abbrev pub conversion_of : List ℕ → List LabelEntry → ℕ → ℕ → Conversion
conversion_of s es i m = conversion_by m (drawn_of s es i)

-- "the label's sets and copies are answered beside the count"
abbrev pub answer_of : Conversion → Label300
answer_of (converts q xs) = record { number = 0; place = length xs; sets = q.sets; copies = q.copies }
answer_of (denied k p) = record { number = k; place = p; sets = pos 0; copies = pos 0 }

-- the list l afterwards: entries past the label's elements keep their values, and "a refused call leaves the list
-- untouched"
abbrev pub list_of : Conversion → List Element300 → List Element300
list_of (converts q xs) l = sets l 0 xs
list_of (denied k p) l = l

-- what the call does with its list: l becomes n, and r is given back
pub record Converts (n l : List Element300) (c : Conversion) (r : Label300) : Type 0 where
  pub answer : r ≡ answer_of c
  pub list : n ≡ list_of c l
