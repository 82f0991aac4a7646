-- 01, "Grammar": "The reference is added to every position"; 13 where a sum is outside 32 bits.
use Rattle.std.specs.Prelude.{ℤ, ◌+ℤ◌}
use Rattle.numbers.specs.Int.{checked}
use Rattle.numbers.specs.declared.int.Checked.{Checked}
use Rattle.numbers.specs.declared.int.Checked.TheVariants.{Fits, Outside}
use Rattle.elements.specs.declared.LabelPosition.{LabelPosition}
use Rattle.elements.specs.declared.LabelElement.{LabelElement}
use Rattle.elements.specs.declared.refusal.Refusal.TheVariants as refusal
use Rattle.parameters.specs.declared.position.Placed.{Placed}
use Rattle.parameters.specs.declared.position.Placed.TheVariants as placing
use Rattle.parameters.specs.declared.reading.LineReading.{LineReading}
use Rattle.parameters.specs.declared.reading.LineReading.TheVariants as reading

-- go on with a number that has 32 bits, or give the other answer
abbrev pub if_fits : {A : Type 0} → Checked → A → (ℤ → A) → A
if_fits (Fits z) other go = go z
if_fits Outside other go = other

-- x, y with the reference added, where both sums have 32 bits
unfoldable pub placed : ℤ → ℤ → LabelPosition → Placed
placed x y r =
    if_fits (checked (x +ℤ r.x)) placing.Outside λ across.
    if_fits (checked (y +ℤ r.y)) placing.Outside λ down.
    placing.At (record { x = across; y = down })

-- an element at its position, or 13 where it has none
abbrev pub yields : Placed → (LabelPosition → LabelElement) → LineReading
yields (placing.At p) e = reading.Element (e p)
yields placing.Outside e = reading.Refused refusal.OutOfRange
