-- Fonts and sizes (01, "fonts.rs"; "Grammar": "Text height is ..").
use Rattle.std.specs.Prelude.{cond, ℤ, pos, ◌*ℤ◌, Float}
use Rattle.std.specs.Float.{binary64}
use Rattle.std.specs.Float.Ieee.{of_int, mul, div}
use Rattle.numbers.specs.Int.{checked, eq_z}
use Rattle.texts.specs.declared.fonts.Cell.{Cell}
use Rattle.texts.specs.declared.fonts.Scaled.{Scaled}
use Rattle.texts.specs.declared.fonts.Scaled.TheVariants.{Font, Outside}
use Rattle.parameters.specs.Position.{if_fits}
use Rattle.parameters.specs.Rotation.{rotation_of}

-- "fonts 1 to 5 are 8×12, 10×16, 12×20, 14×24, 32×48 (width × height); any other is 8×12"
unfoldable pub cell_of : ℤ → Cell
cell_of n =
    cond (eq_z n (pos 2)) (record { width = pos 10; height = pos 16 })
    (cond (eq_z n (pos 3)) (record { width = pos 12; height = pos 20 })
    (cond (eq_z n (pos 4)) (record { width = pos 14; height = pos 24 })
    (cond (eq_z n (pos 5)) (record { width = pos 32; height = pos 48 })
    (record { width = pos 8; height = pos 12 }))))

-- height × across / height, "each step one f64 rounding"
unfoldable pub width_of : ℤ → ℤ → Float
width_of h a = div binary64 (mul binary64 (of_int binary64 h) (of_int binary64 a)) (of_int binary64 h)

-- "Text height is font height times vertical multiplier; width equals height if the multipliers are equal, else
-- height × (horizontal × font width) / height"; "Products of whole numbers must fit 32 bits"
unfoldable pub font_of : ℤ → ℤ → ℤ → ℤ → Scaled
font_of n h v r =
    if_fits (checked ((cell_of n).height *ℤ v)) Outside λ height.
    cond (eq_z h v)
    (Font (record { height = of_int binary64 height; width = of_int binary64 height; rotation = rotation_of r }))
    (if_fits (checked (h *ℤ (cell_of n).width)) Outside λ across.
    Font (record { height = of_int binary64 height; width = width_of height across; rotation = rotation_of r }))
