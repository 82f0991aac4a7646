-- The two lines that 01 ("Frames") prints for `R10,20`, `LO5,6,30,4`, `P1`.
-- Assumes nothing.
use mathlib.Core.Path.{◌≡◌, refl}
use mathlib.Core.List.{[], ◌∷◌, ◌++◌}
use Rattle.text.specs.Ascii.{ascii}
use lib.IntN.{pos}
use Rattle.elements.specs.declared.LabelElement.TheVariants.{GraphicBox}
use Rattle.elements.specs.declared.LineColor.TheVariants.{Black}
use Rattle.frame_bytes.specs.Frame.{be32, head, extent_bytes, field_bytes, frame_of, label_frame}
use Rattle.frame_bytes.specs.Hex.{line_of}

pub label_line : line_of (label_frame 1 (record { sets = pos 1; copies = pos 1 })) ≡ ascii "00000000010000000100000001" ++ (10 ∷ [])
unfolding be32 label_frame
label_line = refl

pub box_line : line_of (frame_of [] (GraphicBox (record { position = record { x = pos 15; y = pos 26 }; width = pos 30; height = pos 4; border_thickness = pos 4; line_color = Black }))) ≡ 48 ∷ 50 ∷ 48 ∷ 48 ∷ 48 ∷ 48 ∷ 48 ∷ 48 ∷ 48 ∷ 102 ∷ 48 ∷ 48 ∷ 48 ∷ 48 ∷ 48 ∷ 48 ∷ 49 ∷ 97 ∷ 48 ∷ 48 ∷ 48 ∷ 48 ∷ 48 ∷ 48 ∷ 49 ∷ 101 ∷ 48 ∷ 48 ∷ 48 ∷ 48 ∷ 48 ∷ 48 ∷ 48 ∷ 52 ∷ 48 ∷ 48 ∷ 48 ∷ 48 ∷ 48 ∷ 48 ∷ 48 ∷ 52 ∷ 48 ∷ 48 ∷ 10 ∷ []
unfolding be32 head extent_bytes field_bytes frame_of
box_line = refl
