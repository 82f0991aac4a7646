-- The bytes of a frame (01, "Frames").
use Rattle.std.specs.Prelude.{Bool, true, false, List, [], ◌∷◌, ◌++◌, ℕ, ◌/◌, ◌%◌, ℤ, Float, length, take, drop}
use Rattle.std.specs.Float.{binary64}
use Rattle.std.specs.Float.Ieee.{to_bits}
use Rattle.numbers.specs.Int.{twos}
use Rattle.text.specs.Utf8.{decode}
use Rattle.elements.specs.declared.BarcodeMode.{BarcodeMode}
use Rattle.elements.specs.declared.BarcodeMode.TheVariants.{Ucc, Automatic, Ean}
use Rattle.elements.specs.declared.BarcodePdf417.{BarcodePdf417}
use Rattle.elements.specs.declared.QrErrorCorrectionLevel.{QrErrorCorrectionLevel}
use Rattle.elements.specs.declared.QrErrorCorrectionLevel.TheVariants.{H, Q, M, L}
use Rattle.elements.specs.declared.DataSpan.{DataSpan}
use Rattle.elements.specs.declared.FieldOrientation.{FieldOrientation}
use Rattle.elements.specs.declared.FieldOrientation.TheVariants.{Normal, Rotated90, Rotated180, Rotated270}
use Rattle.elements.specs.declared.FontScale.{FontScale}
use Rattle.elements.specs.declared.LabelElement.{LabelElement}
use Rattle.elements.specs.declared.LabelPosition.{LabelPosition}
use Rattle.elements.specs.declared.LineColor.{LineColor}
use Rattle.elements.specs.declared.PrintCounts.{PrintCounts}
use Rattle.elements.specs.declared.LineColor.TheVariants.{Black, White, Xor}
use Rattle.elements.specs.declared.plain.Bars as bars
use Rattle.elements.specs.declared.plain.Data.{Data}
use Rattle.elements.specs.declared.plain.Data.TheVariants.{NoData, Payload, Decoded}
use Rattle.elements.specs.declared.plain.Extent.{Extent}
use Rattle.elements.specs.declared.plain.Fields.{Fields}
use Rattle.elements.specs.declared.plain.Fields.TheVariants.{Text, Box, Diagonal, Graphic, Code128, Bars, Ratio}
use Rattle.elements.specs.declared.plain.Fields.TheVariants.{Pdf417, Aztec, Datamatrix, Qr, Maxicode}
use Rattle.elements.specs.declared.plain.Plain.{Plain}
use Rattle.elements.specs.Plain.{plain_of}

-- "4 bytes, most significant first": the last 32 bits of v
unfoldable pub be32 : ℕ → List ℕ
be32 v = v / 16777216 % 256 ∷ v / 65536 % 256 ∷ v / 256 % 256 ∷ v % 256 ∷ []

-- "Numbers are 4 bytes, most significant first, two's complement"
abbrev pub number : ℤ → List ℕ
number z = be32 (twos z)

-- 8 bytes, most significant first
abbrev pub be64 : ℕ → List ℕ
be64 v = be32 (v / 4294967296) ++ be32 v

-- "f64 its 8 bytes of bits, most significant first"
abbrev pub float : Float → List ℕ
float x = be64 (to_bits binary64 x)

-- "flags, with every rotation, line and check, 1 byte"
abbrev pub flag : Bool → ℕ
flag false = 0
flag true = 1

-- "rotation flag (0 to 3)"
abbrev pub rotation : FieldOrientation → ℕ
rotation Normal = 0
rotation Rotated90 = 1
rotation Rotated180 = 2
rotation Rotated270 = 3

-- "colour flag (0 black, 1 white, 2 exclusive-OR)"
abbrev pub colour : LineColor → ℕ
colour Black = 0
colour White = 1
colour Xor = 2

-- "mode flag (1 Ucc, 2 Automatic, 3 Ean)"
abbrev pub mode : BarcodeMode → ℕ
mode Ucc = 1
mode Automatic = 2
mode Ean = 3

-- "level letter (1 byte)"
abbrev pub level : QrErrorCorrectionLevel → ℕ
level H = 72
level Q = 81
level M = 77
level L = 76

-- "data is a place and length in the input" (01, "Forms that change"); what lies past the end is not there
abbrev pub part : List ℕ → DataSpan → List ℕ
part s d = take d.len (drop d.start s)

-- "data is length, then bytes"
abbrev pub sized : List ℕ → List ℕ
sized bs = be32 (length bs) ++ bs

-- "Data is decoded as `from_utf8_lossy` does" (01, "Grammar")
abbrev pub decoded : List ℕ → DataSpan → List ℕ
decoded s d = sized (decode (part s d))

-- "All others begin kind, x, y"
unfoldable pub head : ℕ → LabelPosition → List ℕ
head kind p = kind ∷ number p.x ++ number p.y

-- "width, height, thickness"
unfoldable pub extent_bytes : Extent → List ℕ
extent_bytes x = number x.width ++ number x.height ++ number x.thickness

-- "rotation, narrow, height, line"
unfoldable pub bar_bytes : bars.Bars → List ℕ
bar_bytes b = rotation b.orientation ∷ number b.narrow ++ number b.height ++ (flag b.line ∷ [])

-- "row height, security, columns, rows"
unfoldable pub row_bytes : BarcodePdf417 → List ℕ
row_bytes b = number b.row_height ++ number b.security ++ number b.columns ++ number b.rows

-- "font, horizontal and vertical multiplier"
unfoldable pub scale_bytes : FontScale → List ℕ
scale_bytes s = number s.font ++ number s.horizontal ++ number s.vertical

-- what follows, before the data
unfoldable pub field_bytes : Fields → List ℕ
-- "01 text: rotation flag (0 to 3), reverse flag, font, horizontal and vertical multiplier, height and width f64, data"
field_bytes (Text reverse s f) =
    rotation f.rotation ∷ flag reverse ∷ scale_bytes s ++ float f.height ++ float f.width
-- "02 box: width, height, thickness, colour flag (0 black, 1 white, 2 exclusive-OR);
-- 03 diagonal: width, height, thickness, direction flag"
field_bytes (Box x c) = extent_bytes x ++ (colour c ∷ [])
field_bytes (Diagonal x down) = extent_bytes x ++ (flag down ∷ [])
-- "04 graphic: row bytes, total, data (the payload, not decoded)"
field_bytes (Graphic n) = number n
-- "05 Code 128: rotation, narrow, height, line flag, mode flag (1 Ucc, 2 Automatic, 3 Ean), data"
field_bytes (Code128 b m) = bar_bytes b ++ (mode m ∷ [])
-- "06 EAN-13, 07 EAN-8, 08 UPC-A, 10 UPC-E: rotation, narrow, height, line, data"
field_bytes (Bars b) = bar_bytes b
-- "09 2 of 5, 0a Code 39: rotation, narrow, height, line, check flag, wide, ratio f64, data"
field_bytes (Ratio b check wide ratio) = bar_bytes b ++ (flag check ∷ number wide ++ float ratio)
-- "0b PDF417: rotation, row height, security, columns, rows, truncate flag, module width, data"
field_bytes (Pdf417 b) = rotation b.orientation ∷ row_bytes b ++ (flag b.truncate ∷ number b.module_width)
-- "0c Aztec: magnification, size, data; 0d Data Matrix: module, columns, rows, data"
field_bytes (Aztec b) = number b.magnification ++ number b.size
field_bytes (Datamatrix b) = number b.height ++ number b.columns ++ number b.rows
-- "0e QR: magnification, level letter (1 byte), data; 0f MaxiCode: mode, data"
field_bytes (Qr b l) = number b.magnification ++ (level l ∷ [])
field_bytes (Maxicode c) = number c.mode

-- the data, with the total before a payload, which is not decoded
abbrev pub data_bytes : List ℕ → Data → List ℕ
data_bytes s NoData = []
data_bytes s (Payload d) = be32 (length (part s d)) ++ sized (part s d)
data_bytes s (Decoded d) = decoded s d

abbrev pub plain_frame : List ℕ → Plain → List ℕ
plain_frame s p = head p.kind p.position ++ field_bytes p.fields ++ data_bytes s p.«data»

-- the frame of an element of the input s
unfoldable pub frame_of : List ℕ → LabelElement → List ℕ
frame_of s e = plain_frame s (plain_of e)

-- "00: element count, sets, copies"
unfoldable pub label_frame : ℕ → PrintCounts → List ℕ
label_frame n q = 0 ∷ be32 n ++ number q.sets ++ number q.copies

-- "fe: count of the elements pending at the end"
abbrev pub pending_frame : ℕ → List ℕ
pending_frame n = 254 ∷ be32 n

-- "A refusal prints only ff, its number (1 byte), its place"
abbrev pub refusal_frame : ℕ → ℕ → List ℕ
refusal_frame number place = 255 ∷ number ∷ be32 place
