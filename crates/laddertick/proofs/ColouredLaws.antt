-- `LE` is read as `LO` is, with colour flag 2: both are `line_reading` of what stands behind the letters.
-- Assumes nothing.
use mathlib.Core.Path.{◌≡◌, refl}
use mathlib.Core.Bool.{Bool, true, false, cond}
use mathlib.Core.List.{List, ◌++◌}
use Prim.Native.Nat.{ℕ}
use lib.Dec.{ltb}
use lib.ListN.{length}
use Rattle.text.specs.Ascii.{spelt}
use Rattle.text.specs.Blank.{trim}
use Rattle.text.specs.Fields.{fields}
use Rattle.numbers.specs.Int.{min_z}
use Rattle.elements.specs.declared.LabelElement.{LabelElement}
use Rattle.elements.specs.declared.LabelPosition.{LabelPosition}
use Rattle.elements.specs.declared.LineColor.TheVariants.{Black, Xor}
use Rattle.elements.specs.declared.plain.Extent.{Extent}
use Rattle.elements.specs.declared.refusal.Refusal.{Refusal}
use Rattle.elements.specs.declared.refusal.Refusal.TheVariants as refusal
use Rattle.parameters.specs.declared.position.Placed.{Placed}
use Rattle.parameters.specs.declared.position.Placed.TheVariants as placing
use Rattle.parameters.specs.declared.reading.LineReading.{LineReading}
use Rattle.parameters.specs.declared.reading.LineReading.TheVariants as reading
use Rattle.parameters.specs.Position.{placed, yields}
use Rattle.draws.specs.Draw.{line_fields, line_element, line_reading}
use Rattle.command_letters.specs.Command.{is_reference, is_print, command_of}
use Rattle.commands.specs.Line.{read_line}
use Rattle.frame_bytes.specs.Frame.{be32, head, extent_bytes, field_bytes, frame_of}
use Rattle.laddertick.specs.Coloured.{Coloured, alike, drawn}

coloured_cond : (b : Bool) (k : Refusal) (x y : LineReading) → Coloured 2 x y → Coloured 2 (cond b (reading.Refused k) x) (cond b (reading.Refused k) y)
coloured_cond true k x y h = alike
coloured_cond false k x y h = h

coloured_yields : (p : Placed) (e f : LabelPosition → LabelElement) → ((at : LabelPosition) → Coloured 2 (reading.Element (e at)) (reading.Element (f at)))
    → Coloured 2 (yields p e) (yields p f)
coloured_yields (placing.At p) e f h = h p
coloured_yields placing.Outside e f h = alike

line_xor : (s : List ℕ) (r : LabelPosition) → Coloured 2 (line_reading s Black r) (line_reading s Xor r)
unfolding line_reading line_element be32 head extent_bytes field_bytes frame_of
line_xor s r =
    let f = line_fields s in
    let size : Extent = record { width = f.width; height = f.height; thickness = min_z f.width f.height } in
    coloured_cond (ltb (length (fields s)) 4) refusal.LineFields _ _
    (coloured_yields (placed f.at.x f.at.y r) _ _ (λ at. drawn (head 2 at ++ extent_bytes size) (λ t. refl) (λ t. refl)))

pub exclusive_or : (t u v : List ℕ) (r : LabelPosition) → trim t ≡ spelt "LO" v → trim u ≡ spelt "LE" v → Coloured 2 (read_line t r) (read_line u r)
unfolding read_line command_of is_reference is_print
exclusive_or t u v r lo le = rw (lo, le) (line_xor v r)
