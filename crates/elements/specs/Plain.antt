-- The plain form of an element: kind, position, data and fields, of which its frame is made (01, "Frames").
use Rattle.std.specs.Prelude.{Bool, ℕ, ℤ}
use Rattle.elements.specs.declared.plain.Bars.{Bars}
use Rattle.elements.specs.declared.plain.Data.{Data}
use Rattle.elements.specs.declared.plain.Data.TheVariants.{NoData, Payload, Decoded}
use Rattle.elements.specs.declared.plain.Extent.{Extent}
use Rattle.elements.specs.declared.FieldOrientation.{FieldOrientation}
use Rattle.elements.specs.declared.plain.Fields.{Fields}
use Rattle.elements.specs.declared.plain.Fields.TheVariants as fields
use Rattle.elements.specs.declared.LabelElement.{LabelElement}
use Rattle.elements.specs.declared.LabelElement.TheVariants.{Text, GraphicBox, DiagonalLine, GraphicField}
use Rattle.elements.specs.declared.LabelElement.TheVariants.{Barcode128, BarcodeEan13, BarcodeEan8, BarcodeUca}
use Rattle.elements.specs.declared.LabelElement.TheVariants.{Barcode2of5, Barcode39, BarcodePdf417}
use Rattle.elements.specs.declared.LabelElement.TheVariants.{BarcodeAztec, BarcodeDatamatrix, BarcodeQr}
use Rattle.elements.specs.declared.LabelElement.TheVariants.{Maxicode, BarcodeUcpe}
use Rattle.elements.specs.declared.LabelPosition.{LabelPosition}
use Rattle.elements.specs.declared.plain.Plain.{Plain}

abbrev pub plain : ℕ → LabelPosition → Data → Fields → Plain
plain kind p d f = record { kind = kind; position = p; «data» = d; fields = f }

-- "width, height, thickness"
abbrev pub extent : ℤ → ℤ → ℤ → Extent
extent width height thickness = record { width = width; height = height; thickness = thickness }

-- "rotation, narrow, height, line"
abbrev pub bars : FieldOrientation → ℤ → ℤ → Bool → Bars
bars o narrow height line = record { orientation = o; narrow = narrow; height = height; line = line }

-- the kinds of 01's frames; boxes and diagonals have no data, and that of a graphic is not decoded
abbrev pub plain_of : LabelElement → Plain
plain_of (Text e) =
    plain 0x01 e.position (Decoded e.text) (fields.Text e.reverse_print e.scale e.font)
plain_of (GraphicBox e) =
    plain 0x02 e.position NoData
    (fields.Box (extent e.width e.height e.border_thickness) e.line_color)
plain_of (DiagonalLine e) =
    plain 0x03 e.position NoData
    (fields.Diagonal (extent e.width e.height e.border_thickness) e.top_to_bottom)
plain_of (GraphicField e) = plain 0x04 e.position (Payload e.«data») (fields.Graphic e.row_bytes)
plain_of (Barcode128 e) = let b = e.barcode in
    plain 0x05 e.position (Decoded e.«data»)
    (fields.Code128 (bars b.orientation e.width b.height b.line) b.mode)
plain_of (BarcodeEan13 e) = let b = e.barcode in
    plain 0x06 e.position (Decoded e.«data»)
    (fields.Bars (bars b.orientation e.width b.height b.line))
plain_of (BarcodeEan8 e) = let b = e.barcode in
    plain 0x07 e.position (Decoded e.«data»)
    (fields.Bars (bars b.orientation e.width b.height b.line))
plain_of (BarcodeUca e) = let b = e.barcode in
    plain 0x08 e.position (Decoded e.«data»)
    (fields.Bars (bars b.orientation e.width b.height b.line))
plain_of (Barcode2of5 e) = let b = e.barcode in
    plain 0x09 e.position (Decoded e.«data»)
    (fields.Ratio (bars b.orientation e.width b.height b.line) b.check_digit e.wide
    e.width_ratio)
plain_of (Barcode39 e) = let b = e.barcode in
    plain 0x0a e.position (Decoded e.«data»)
    (fields.Ratio (bars b.orientation e.width b.height b.line) b.check_digit e.wide
    e.width_ratio)
plain_of (BarcodePdf417 e) = plain 0x0b e.position (Decoded e.«data») (fields.Pdf417 e.barcode)
plain_of (BarcodeAztec e) = plain 0x0c e.position (Decoded e.«data») (fields.Aztec e.barcode)
plain_of (BarcodeDatamatrix e) = plain 0x0d e.position (Decoded e.«data») (fields.Datamatrix e.barcode)
plain_of (BarcodeQr e) = plain 0x0e e.position (Decoded e.«data») (fields.Qr e.barcode e.error_correction)
plain_of (Maxicode e) = plain 0x0f e.position (Decoded e.«data») (fields.Maxicode e.code)
plain_of (BarcodeUcpe e) = let b = e.barcode in
    plain 0x10 e.position (Decoded e.«data»)
    (fields.Bars (bars b.orientation e.width b.height b.line))
