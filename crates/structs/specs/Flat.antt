-- The flat answer of a step: 01's "an element, a clear, a print, the end or a refusal", and its element with the fields
-- of its frame (01, "Frames") as named numbers. A field that is none of its kind's is 0.
use Rattle.std.specs.Prelude.{Bool, List, [], ◌∷◌, ℕ, ℤ, pos, Float}
use Rattle.elements.specs.declared.DataSpan.{DataSpan}
use Rattle.elements.specs.declared.FieldOrientation.{FieldOrientation}
use Rattle.elements.specs.declared.LabelElement.{LabelElement}
use Rattle.elements.specs.declared.LabelElement.TheVariants as element
use Rattle.elements.specs.declared.LabelPosition.{LabelPosition}
use Rattle.elements.specs.declared.PrintCounts.{PrintCounts}
use Rattle.elements.specs.declared.walk_state.WalkState.{WalkState}
use Rattle.frame_bytes.specs.Frame as frame
use Rattle.structs.specs.declared.answer.FlatAnswer.{FlatAnswer}
use Rattle.structs.specs.declared.answer.Element.{Element}
use Rattle.structs.specs.Fields.{Field, saying}
use Rattle.structs.specs.Fields.{rotation, reverse, colour, direction, line, check, truncate, level}
use Rattle.structs.specs.Fields.{width, height, thickness, bytes_a_row, security, columns, rows}
use Rattle.structs.specs.Fields.{magnification, size, mode, font, horizontal, vertical, wide}
use Rattle.structs.specs.Fields.{height_of_text, width_of_text, ratio}

-- ---- elements
-- no data
abbrev pub none : DataSpan
none = record { start = 0; len = 0 }

-- "02 box: width, height, thickness, colour flag (0 black, 1 white, 2 exclusive-OR);
-- 03 diagonal: width, height, thickness, direction flag"
abbrev pub drawn : ℕ → LabelPosition → ℤ → ℤ → ℤ → Field → ℕ → Element
drawn kind p w h t f n = saying kind p none ((f, n) ∷ []) ((width, w) ∷ (height, h) ∷ (thickness, t) ∷ []) []

-- a bar code with bars: "rotation, narrow, height, line", the narrow bar as the width; then what else its kind says
abbrev pub bars : ℕ → LabelPosition → DataSpan → FieldOrientation → ℤ → ℤ → Bool
    → List (Field × ℕ) → List (Field × ℤ) → List (Field × Float) → Element
bars kind p d o narrow h l flags numbers sizes =
    saying kind p d
    ((rotation, frame.rotation o) ∷ (line, frame.flag l) ∷ flags)
    ((width, narrow) ∷ (height, h) ∷ numbers)
    sizes

-- the kinds are those of 01's frames, 01 to 10 hexadecimal
abbrev pub flat_element : LabelElement → Element
-- "01 text: rotation flag (0 to 3), reverse flag, font, horizontal and vertical multiplier, height and width f64, data"
flat_element (element.Text e) =
    saying 1 e.position e.text
    ((rotation, frame.rotation e.font.rotation) ∷ (reverse, frame.flag e.reverse_print) ∷ [])
    ((font, e.scale.font) ∷ (horizontal, e.scale.horizontal) ∷ (vertical, e.scale.vertical) ∷ [])
    ((height_of_text, e.font.height) ∷ (width_of_text, e.font.width) ∷ [])
flat_element (element.GraphicBox e) =
    drawn 2 e.position e.width e.height e.border_thickness colour (frame.colour e.line_color)
-- "the direction flag is 1 if x2 − x1 and y2 − y1 are both positive, both negative or both zero"
flat_element (element.DiagonalLine e) =
    drawn 3 e.position e.width e.height e.border_thickness direction (frame.flag e.top_to_bottom)
-- "04 graphic: row bytes, total, data (the payload, not decoded)"; the total is the data's length
flat_element (element.GraphicField e) = saying 4 e.position e.«data» [] ((bytes_a_row, e.row_bytes) ∷ []) []
-- "05 Code 128: rotation, narrow, height, line flag, mode flag (1 Ucc, 2 Automatic, 3 Ean), data"
flat_element (element.Barcode128 e) =
    bars 5 e.position e.«data» e.barcode.orientation e.width e.barcode.height e.barcode.line
    [] ((mode, pos (frame.mode e.barcode.mode)) ∷ []) []
-- "06 EAN-13, 07 EAN-8, 08 UPC-A, 10 UPC-E: rotation, narrow, height, line, data"
flat_element (element.BarcodeEan13 e) =
    bars 6 e.position e.«data» e.barcode.orientation e.width e.barcode.height e.barcode.line
    [] [] []
flat_element (element.BarcodeEan8 e) =
    bars 7 e.position e.«data» e.barcode.orientation e.width e.barcode.height e.barcode.line
    [] [] []
flat_element (element.BarcodeUca e) =
    bars 8 e.position e.«data» e.barcode.orientation e.width e.barcode.height e.barcode.line
    [] [] []
flat_element (element.BarcodeUcpe e) =
    bars 0x10 e.position e.«data» e.barcode.orientation e.width e.barcode.height e.barcode.line
    [] [] []
-- "09 2 of 5, 0a Code 39: rotation, narrow, height, line, check flag, wide, ratio f64, data"
flat_element (element.Barcode2of5 e) =
    bars 9 e.position e.«data» e.barcode.orientation e.width e.barcode.height e.barcode.line
    ((check, frame.flag e.barcode.check_digit) ∷ []) ((wide, e.wide) ∷ []) ((ratio, e.width_ratio) ∷ [])
flat_element (element.Barcode39 e) =
    bars 0x0a e.position e.«data» e.barcode.orientation e.width e.barcode.height e.barcode.line
    ((check, frame.flag e.barcode.check_digit) ∷ []) ((wide, e.wide) ∷ []) ((ratio, e.width_ratio) ∷ [])
-- "0b PDF417: rotation, row height, security, columns, rows, truncate flag, module width, data"
flat_element (element.BarcodePdf417 e) =
    saying 0x0b e.position e.«data»
    ((rotation, frame.rotation e.barcode.orientation) ∷ (truncate, frame.flag e.barcode.truncate) ∷ [])
    ((height, e.barcode.row_height) ∷ (security, e.barcode.security) ∷ (columns, e.barcode.columns)
    ∷ (rows, e.barcode.rows) ∷ (width, e.barcode.module_width) ∷ [])
    []
-- "0c Aztec: magnification, size, data"
flat_element (element.BarcodeAztec e) =
    saying 0x0c e.position e.«data» []
    ((magnification, e.barcode.magnification) ∷ (size, e.barcode.size) ∷ []) []
-- "0d Data Matrix: module, columns, rows, data": the module is its height
flat_element (element.BarcodeDatamatrix e) =
    saying 0x0d e.position e.«data» []
    ((height, e.barcode.height) ∷ (columns, e.barcode.columns) ∷ (rows, e.barcode.rows) ∷ []) []
-- "0e QR: magnification, level letter (1 byte), data"
flat_element (element.BarcodeQr e) =
    saying 0x0e e.position e.«data» ((level, frame.level e.error_correction) ∷ [])
    ((magnification, e.barcode.magnification) ∷ []) []
-- "0f MaxiCode: mode, data"
flat_element (element.Maxicode e) = saying 0x0f e.position e.«data» [] ((mode, e.code.mode) ∷ []) []

-- ---- answers
-- where there is no element: 0 in every field
abbrev pub nothing : Element
nothing = saying 0 (record { x = pos 0; y = pos 0 }) none [] [] []

-- a clear, the end or a refusal, which has "its number (1 byte), its place"
abbrev pub event : ℕ → ℕ → ℕ → WalkState → FlatAnswer
event kind number place next = record {
  kind = kind;
  number = number;
  place = place;
  count = 0;
  sets = pos 0;
  copies = pos 0;
  next = next;
  element = nothing;
}

-- "A print carries the element count", sets and copies
abbrev pub printed : ℕ → PrintCounts → WalkState → FlatAnswer
printed count counts next = record {
  kind = 0;
  number = 0;
  place = 0;
  count = count;
  sets = counts.sets;
  copies = counts.copies;
  next = next;
  element = nothing;
}

-- an element: its kind is the answer's
abbrev pub answered : Element → WalkState → FlatAnswer
answered e next = record {
  kind = e.kind;
  number = 0;
  place = 0;
  count = 0;
  sets = pos 0;
  copies = pos 0;
  next = next;
  element = e;
}

-- ---- the parts
-- kind, position and data alone
abbrev pub placed : ℕ → LabelPosition → DataSpan → Element
placed kind p d = saying kind p d [] [] []

-- kind, position and data with rotation and line
abbrev pub barred : ℕ → LabelPosition → FieldOrientation → Bool → DataSpan → Element
barred kind p o l d = saying kind p d ((rotation, frame.rotation o) ∷ (line, frame.flag l) ∷ []) [] []
