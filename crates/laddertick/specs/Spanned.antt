-- An element's data: where its struct says that it stands, and which bytes of its unit they are (01, "Grammar").
use Rattle.std.specs.Prelude.{◌≡◌, false, List, [], ◌∷◌, ◌++◌, ℕ, ◌<◌, length}
use Rattle.text.specs.Blank.{trim}
use Rattle.elements.specs.declared.DataSpan.{DataSpan}
use Rattle.elements.specs.declared.LabelElement.{LabelElement}
use Rattle.structs.specs.Flat.{flat_element}
use Rattle.grammar.specs.Units.{EplUnit, block, line, last}
use Rattle.laddertick.specs.Free.{Free}
use Rattle.laddertick.specs.Zeroed.{one_of}

-- the kinds with data: every kind but a box and a diagonal; those whose data is text: not a graphic either, whose
-- payload is "not decoded"
abbrev pub HasData : LabelElement → Type 0
HasData e = one_of (0x02 ∷ 0x03 ∷ []) (flat_element e).kind ≡ false

abbrev pub HasText : LabelElement → Type 0
HasText e = one_of (0x02 ∷ 0x03 ∷ 0x04 ∷ []) (flat_element e).kind ≡ false

-- where the struct of an element says that its data stands
abbrev pub span_of : LabelElement → DataSpan
span_of e = record { start = (flat_element e).data_start; len = (flat_element e).data_len }

-- "data lies between the first and last quote" of t: no quote stands before the one, and none behind the other; and
-- there is some data
pub record Quoted (t d : List ℕ) : Type 0 where
  pub front : List ℕ
  pub back : List ℕ
  pub is : t ≡ front ++ (34 ∷ (d ++ (34 ∷ back)))
  pub front_free : Free 34 front
  pub back_free : Free 34 back
  pub some : 0 < length d

-- d is the data of a unit: of a block its payload, of a line what its quotes hold, "its Unicode blanks .. taken off"
abbrev pub DataOf : EplUnit → List ℕ → Type 0
DataOf (block bs h p) d = d ≡ p
DataOf (line t) d = Quoted (trim t) d
DataOf (last t) d = Quoted (trim t) d
