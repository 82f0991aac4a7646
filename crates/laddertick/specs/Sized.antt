-- The sizes and the ratio of an element, from its own fields (01, "Grammar"). No reader has a part in it.
use Rattle.std.specs.Prelude.{◌≡◌, ℤ, pos, ◌*ℤ◌, false}
use Rattle.std.specs.Float.{binary64}
use Rattle.std.specs.Float.Ieee.{of_int}
use Rattle.std.specs.Int.Signed.{lt_z}
use Rattle.elements.specs.declared.FontInfo.{FontInfo}
use Rattle.elements.specs.declared.FontScale.{FontScale}
use Rattle.elements.specs.declared.LabelElement.{LabelElement}
use Rattle.elements.specs.declared.LabelElement.TheVariants.{Text, GraphicBox, DiagonalLine, GraphicField}
use Rattle.elements.specs.declared.LabelElement.TheVariants.{Barcode128, BarcodeEan13, BarcodeEan8, BarcodeUca}
use Rattle.elements.specs.declared.LabelElement.TheVariants.{Barcode2of5, Barcode39, BarcodePdf417}
use Rattle.elements.specs.declared.LabelElement.TheVariants.{BarcodeAztec, BarcodeDatamatrix, BarcodeQr}
use Rattle.elements.specs.declared.LabelElement.TheVariants.{Maxicode, BarcodeUcpe}
use Rattle.texts.specs.Font.{cell_of, width_of}
use Rattle.barcodes.specs.Ratio.{ratio_of}

-- a text with the font's number and the multipliers s
pub record SizedText (s : FontScale) (f : FontInfo) : Type 0 where
  -- "Text height is font height times vertical multiplier"
  pub height : f.height ≡ of_int binary64 ((cell_of s.font).height *ℤ s.vertical)
  -- "width equals height if the multipliers are equal"
  pub equal : s.horizontal ≡ s.vertical → f.width ≡ f.height
  -- "else height × (horizontal × font width) / height, each step one f64 rounding"
  pub unequal : (s.horizontal ≡ s.vertical → ⊥)
      → f.width ≡ width_of ((cell_of s.font).height *ℤ s.vertical) (s.horizontal *ℤ (cell_of s.font).width)

-- not below 1: "Least value 1 for multipliers, narrow bar, .."
abbrev pub Least : ℤ → Type 0
Least z = lt_z z (pos 1) ≡ false

-- an element's sizes, or its ratio, are those of its other fields
abbrev pub Sized : LabelElement → Type 0
Sized (Text e) = SizedText e.scale e.font × Least e.scale.horizontal × Least e.scale.vertical
-- "The ratio of wide to narrow is one f64 division, at least 2.0"
Sized (Barcode2of5 e) = (e.width_ratio ≡ ratio_of e.wide e.width) × Least e.width
Sized (Barcode39 e) = (e.width_ratio ≡ ratio_of e.wide e.width) × Least e.width
-- all others have neither
Sized (GraphicBox e) = Unit
Sized (DiagonalLine e) = Unit
Sized (GraphicField e) = Unit
Sized (Barcode128 e) = Unit
Sized (BarcodeEan13 e) = Unit
Sized (BarcodeEan8 e) = Unit
Sized (BarcodeUca e) = Unit
Sized (BarcodePdf417 e) = Unit
Sized (BarcodeAztec e) = Unit
Sized (BarcodeDatamatrix e) = Unit
Sized (BarcodeQr e) = Unit
Sized (Maxicode e) = Unit
Sized (BarcodeUcpe e) = Unit
