-- `b` (01, "Grammar"): "x, y, type, parameters"; what each type makes of its parameters is that of
-- `parse_epl_2d_barcode`.
use Rattle.std.specs.Prelude.{ℕ, Bool, cond, ◌&&◌, ◌||◌, List, [], ◌∷◌, eqb, leb, ltb, ℤ, pos, negsuc, ◌*ℤ◌, length}
use Rattle.std.specs.Int.Signed.{le_z}
use Rattle.text.specs.Ascii.{ascii, letter}
use Rattle.text.specs.Blank.{trim}
use Rattle.text.specs.Fields.{fields, field, same}
use Rattle.text.specs.Table.{Row, row, texts, meaning}
use Rattle.numbers.specs.Number.{field_or}
use Rattle.numbers.specs.Int.{eq_z}
use Rattle.text.specs.Utf8.{decode}
use Rattle.elements.specs.declared.BarcodeAztec.{BarcodeAztec}
use Rattle.elements.specs.declared.BarcodeDatamatrix.{BarcodeDatamatrix}
use Rattle.elements.specs.declared.BarcodePdf417.{BarcodePdf417}
use Rattle.elements.specs.declared.BarcodeQr.{BarcodeQr}
use Rattle.elements.specs.declared.QrErrorCorrectionLevel.{QrErrorCorrectionLevel}
use Rattle.elements.specs.declared.QrErrorCorrectionLevel.TheVariants as level
use Rattle.elements.specs.declared.DataSpan.{DataSpan}
use Rattle.elements.specs.declared.LabelElement.TheVariants as element
use Rattle.elements.specs.declared.LabelPosition.{LabelPosition}
use Rattle.elements.specs.declared.refusal.Refusal.TheVariants as refusal
use Rattle.barcodes_2d.specs.declared.barcode_2d.Symbology2d.{Symbology2d}
use Rattle.barcodes_2d.specs.declared.barcode_2d.Symbology2d.TheVariants.{Aztec, Datamatrix, Maxicode, Pdf417}
use Rattle.barcodes_2d.specs.declared.barcode_2d.Symbology2d.TheVariants.{Qr, Unlisted}
use Rattle.barcodes_2d.specs.declared.options.Wanted.TheVariants as wanted
use Rattle.parameters.specs.declared.position.Placed.{Placed}
use Rattle.parameters.specs.declared.reading.LineReading.{LineReading}
use Rattle.parameters.specs.declared.reading.LineReading.TheVariants as reading
use Rattle.parameters.specs.Rotation.{rotation_of}
use Rattle.barcodes_2d.specs.Maxicode.{auto_mode}
use Rattle.barcodes_2d.specs.Options.{options_of, last_of, last_count, last_number, last_clamped}
use Rattle.parameters.specs.FieldValues.{fields_from}
use Rattle.parameters.specs.Position.{placed, yields}

-- "`A` Aztec, `D` Data Matrix, `M` MaxiCode, `P` PDF417, `Q` QR"
abbrev pub symbologies2d : List (Row Symbology2d)
symbologies2d =
    row (ascii "A") Aztec
    ∷ row (ascii "D") Datamatrix
    ∷ row (ascii "M") Maxicode
    ∷ row (ascii "P") Pdf417
    ∷ row (ascii "Q") Qr
    ∷ []

-- the types that are listed: "third of `b` `A D M P Q`"
abbrev pub types2d : List (List ℕ)
types2d = texts symbologies2d

-- the type that a field, blanks off, spells: one of the list, or none
unfoldable pub symbology_of : List ℕ → Symbology2d
symbology_of t = meaning Unlisted symbologies2d t

-- z is one of lo to hi
abbrev pub between : ℤ → ℤ → ℤ → Bool
between lo hi z = le_z lo z && le_z z hi

-- `e` of Aztec: 1 to 99, 101 to 104, 201 to 232 and 300 stand, any other is 0
unfoldable pub aztec_size : ℤ → ℤ
aztec_size n =
    cond
    (between (pos 1) (pos 99) n || between (pos 101) (pos 104) n || between (pos 201) (pos 232) n || eq_z n (pos 300))
    n
    (pos 0)

-- `d` 1 to 55, 3 by default; `e`
unfoldable pub aztec_of : List ℕ → BarcodeAztec
aztec_of s =
    record {
      magnification = last_clamped (letter "d") (pos 3) (pos 1) (pos 55) (options_of s);
      size = aztec_size (last_number (letter "e") (pos 0) (options_of s));
    }

-- `h` 1 to 40, 5 by default; `c`; `r`
unfoldable pub datamatrix_of : List ℕ → BarcodeDatamatrix
datamatrix_of s =
    record {
      height = last_clamped (letter "h") (pos 5) (pos 1) (pos 40) (options_of s);
      columns = last_count (letter "c") (options_of s);
      rows = last_count (letter "r") (options_of s);
    }

-- "MaxiCode with no `m`, or whose last `m` isn't 2, 3, 4 or 6": the automatic mode
abbrev pub is_mode : ℤ → Bool
is_mode m = eq_z m (pos 2) || eq_z m (pos 3) || eq_z m (pos 4) || eq_z m (pos 6)

unfoldable pub mode_of : List ℕ → List ℕ → ℤ
mode_of s d =
    cond (is_mode (last_count (letter "m") (options_of s))) (last_count (letter "m") (options_of s)) (auto_mode (decode d))

-- `x` 2 to 9, 6 by default
unfoldable pub pdf417_module_width : List ℕ → ℤ
pdf417_module_width s = last_clamped (letter "x") (pos 6) (pos 2) (pos 9) (options_of s)

-- `y` 4 to 99, 4 module widths by default
unfoldable pub pdf417_row_height : List ℕ → ℤ
pdf417_row_height s = last_clamped (letter "y") (pos 4 *ℤ pdf417_module_width s) (pos 4) (pos 99) (options_of s)

-- the last `t` is exactly 1
unfoldable pub pdf417_truncate : List ℕ → Bool
pdf417_truncate s = same (last_of wanted.Any (letter "t") (options_of s)) (ascii "1")

-- `o`; `s` 1 to 8, −1 by default; `l`; `r`
unfoldable pub pdf417_of : List ℕ → BarcodePdf417
pdf417_of s =
    record {
      orientation = rotation_of (last_number (letter "o") (pos 0) (options_of s));
      row_height = pdf417_row_height s;
      security = last_clamped (letter "s") (negsuc 0) (pos 1) (pos 8) (options_of s);
      columns = last_count (letter "l") (options_of s);
      rows = last_count (letter "r") (options_of s);
      truncate = pdf417_truncate s;
      module_width = pdf417_module_width s;
    }

-- `s` 1 to 100, 3 by default
unfoldable pub qr_of : List ℕ → BarcodeQr
qr_of s = record { magnification = last_clamped (letter "s") (pos 3) (pos 1) (pos 100) (options_of s) }

-- a level letter, M for any other
abbrev pub level_first : List ℕ → QrErrorCorrectionLevel
level_first [] = level.M
level_first (b ∷ v) =
    cond (eqb b (letter "L")) level.L (cond (eqb b (letter "Q")) level.Q (cond (eqb b (letter "H")) level.H level.M))

-- the last `e` that gives a level, M by default
unfoldable pub level_of : List ℕ → QrErrorCorrectionLevel
level_of s = level_first (last_of wanted.Level (letter "e") (options_of s))

unfoldable pub aztec_reading : List ℕ → Placed → DataSpan → LineReading
aztec_reading s p d = yields p λ at. element.BarcodeAztec (record { barcode = aztec_of s; position = at; «data» = d })

unfoldable pub datamatrix_reading : List ℕ → Placed → DataSpan → LineReading
datamatrix_reading s p d =
    yields p λ at. element.BarcodeDatamatrix (record { barcode = datamatrix_of s; position = at; «data» = d })

-- parameters s, data t
unfoldable pub maxicode_reading : List ℕ → List ℕ → Placed → DataSpan → LineReading
maxicode_reading s t p d =
    yields p λ at. element.Maxicode (record { code = record { mode = mode_of s t }; position = at; «data» = d })

unfoldable pub pdf417_reading : List ℕ → Placed → DataSpan → LineReading
pdf417_reading s p d = yields p λ at. element.BarcodePdf417 (record { barcode = pdf417_of s; position = at; «data» = d })

-- "QR data of at most 9,999 decoded bytes", or 9
unfoldable pub qr_reading : List ℕ → List ℕ → Placed → DataSpan → LineReading
qr_reading s t p d =
    cond (leb (length (decode t)) 9999)
    (yields p λ at.
    element.BarcodeQr (record { barcode = qr_of s; error_correction = level_of s; position = at; «data» = d }))
    (reading.Refused refusal.QrData)

-- parameters s, data t; 8 where the type is not listed
abbrev pub barcode2d_at : Symbology2d → List ℕ → List ℕ → Placed → DataSpan → LineReading
barcode2d_at Aztec s t p d = aztec_reading s p d
barcode2d_at Datamatrix s t p d = datamatrix_reading s p d
barcode2d_at Maxicode s t p d = maxicode_reading s t p d
barcode2d_at Pdf417 s t p d = pdf417_reading s p d
barcode2d_at Qr s t p d = qr_reading s t p d
barcode2d_at Unlisted s t p d = reading.Refused refusal.Barcode2dType

-- "x, y, type, parameters"; "number at least .. 3", or 3
unfoldable pub barcode2d_reading : List ℕ → List ℕ → DataSpan → LabelPosition → LineReading
barcode2d_reading s t d r =
    cond (ltb (length (fields s)) 3) (reading.Refused refusal.Barcode2dFields)
    (barcode2d_at (symbology_of (trim (field s 2))) (fields_from 3 s) t
    (placed (field_or (pos 0) (field s 0)) (field_or (pos 0) (field s 1)) r)
    d)
