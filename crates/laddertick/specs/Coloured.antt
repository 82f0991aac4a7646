-- What two lines say that differ in nothing but their colour (01, "Grammar"): "`LE` is read as `LO` is, with colour
-- flag 2".
use Rattle.std.specs.Prelude.{◌≡◌, List, [], ◌∷◌, ◌++◌, ℕ}
use Rattle.elements.specs.declared.LabelElement.{LabelElement}
use Rattle.elements.specs.declared.refusal.Refusal.{Refusal}
use Rattle.parameters.specs.declared.reading.LineReading.{LineReading}
use Rattle.parameters.specs.declared.reading.LineReading.TheVariants as reading
use Rattle.frame_bytes.specs.Frame.{frame_of}

-- a black line's reading, and one in the colour n: the same refusal, or elements whose frames differ in the last byte
-- alone, the colour flag
pub data Coloured (n : ℕ) : LineReading → LineReading → Type 0 where
  alike : {k : Refusal} → Coloured n (reading.Refused k) (reading.Refused k)
  drawn : {e f : LabelElement} (bs : List ℕ) → ((s : List ℕ) → frame_of s e ≡ bs ++ 0 ∷ [])
      → ((s : List ℕ) → frame_of s f ≡ bs ++ n ∷ []) → Coloured n (reading.Element e) (reading.Element f)
