-- Sizes and ratios that are, bit for bit, what a font with its multipliers, or a wide bar, gives (01, "Writing EPL").
use Rattle.std.specs.Prelude.{Bool, false, ◌&&◌, eqb, ℤ, pos, Float}
use Rattle.std.specs.Float.{binary64}
use Rattle.std.specs.Float.Ieee.{to_bits}
use Rattle.std.specs.Int.Signed.{le_z}
use Rattle.elements.specs.declared.FontInfo.{FontInfo}
use Rattle.elements.specs.declared.FontScale.{FontScale}
use Rattle.texts.specs.declared.fonts.Scaled.{Scaled}
use Rattle.texts.specs.declared.fonts.Scaled.TheVariants.{Font, Outside}
use Rattle.texts.specs.Font.{font_of}
use Rattle.barcodes.specs.Ratio.{ratio_of}
use Rattle.spellings.specs.Codes.{turns}

abbrev pub same_bits : Float → Float → Bool
same_bits x y = eqb (to_bits binary64 x) (to_bits binary64 y)

abbrev pub same_font : Scaled → FontInfo → Bool
same_font (Font j) i = same_bits j.height i.height && same_bits j.width i.width
same_font Outside i = false

-- multipliers of at least 1, whose products have 32 bits, give these sizes
unfoldable pub fine_font : FontScale → FontInfo → Bool
fine_font f i =
    le_z (pos 1) f.horizontal && le_z (pos 1) f.vertical
    && same_font (font_of f.font f.horizontal f.vertical (turns i.rotation)) i

-- the wide bar w and the narrow bar n have this ratio
unfoldable pub fine_ratio : ℤ → ℤ → Float → Bool
fine_ratio w n x = same_bits (ratio_of w n) x
