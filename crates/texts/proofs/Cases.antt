-- Cells and sizes on small inputs, by computation; the one width that is divided, by `width_exact`.
-- Assumes nothing.
use mathlib.Core.Path.{◌≡◌, refl, ap}
use Prim.Native.Nat.{ℕ}
use lib.Dec.{lit<}
use lib.IntN.{pos, negsuc}
use lib.Ieee.{Float, binary64, of_int}
use Rattle.elements.specs.declared.FieldOrientation.TheVariants.{Normal}
use Rattle.parameters.specs.Rotation.{rotation_of}
use Rattle.texts.specs.declared.fonts.Cell.{Cell}
use Rattle.texts.specs.declared.fonts.Scaled.{Scaled}
use Rattle.texts.specs.declared.fonts.Scaled.TheVariants.{Font, Outside}
use Rattle.texts.specs.Font.{cell_of, font_of}
use Rattle.texts.proofs.FontLaws.{width_exact}

abbrev cell : ℕ → ℕ → Cell
cell w h = record { width = pos w; height = pos h }

abbrev sized : ℕ → Float → Scaled
sized h w = Font (record { height = of_int binary64 (pos h); width = w; rotation = Normal })

font_0 : cell_of (pos 0) ≡ cell 8 12
unfolding cell_of
font_0 = refl

font_1 : cell_of (pos 1) ≡ cell 8 12
unfolding cell_of
font_1 = refl

font_2 : cell_of (pos 2) ≡ cell 10 16
unfolding cell_of
font_2 = refl

font_3 : cell_of (pos 3) ≡ cell 12 20
unfolding cell_of
font_3 = refl

font_4 : cell_of (pos 4) ≡ cell 14 24
unfolding cell_of
font_4 = refl

font_5 : cell_of (pos 5) ≡ cell 32 48
unfolding cell_of
font_5 = refl

font_6 : cell_of (pos 6) ≡ cell 8 12
unfolding cell_of
font_6 = refl

below : cell_of (negsuc 0) ≡ cell 8 12
unfolding cell_of
below = refl

-- font 1, unscaled: as wide as high, though its cell is not
plain : font_of (pos 1) (pos 1) (pos 1) (pos 0) ≡ sized 12 (of_int binary64 (pos 12))
unfolding font_of cell_of rotation_of
plain = refl

-- twice as wide: two cells
wide : font_of (pos 1) (pos 2) (pos 1) (pos 0) ≡ sized 12 (of_int binary64 (pos 16))
unfolding font_of cell_of rotation_of
wide = ap (λ (w : Float). sized 12 w) (width_exact 12 16 (lit< tt) (lit< tt) (lit< tt))

-- a height beyond 32 bits, and a width
too_high : font_of (pos 1) (pos 1) (pos 178956971) (pos 0) ≡ Outside
unfolding font_of cell_of rotation_of
too_high = refl

too_wide : font_of (pos 1) (pos 268435456) (pos 1) (pos 0) ≡ Outside
unfolding font_of cell_of rotation_of
too_wide = refl
