-- 2D bar codes as they are written (01, "Writing EPL"): their parameters, and which of them a line yields.
use Rattle.std.specs.Prelude.{Bool, true, false, cond, ◌&&◌, ◌||◌, List, [], ◌∷◌, ℕ, ℤ, pos, negsuc, nat_abs}
use Rattle.std.specs.Int.Signed.{le_z}
use Rattle.text.specs.Ascii.{letter}
use Rattle.numbers.specs.Int.{eq_z}
use Rattle.elements.specs.declared.BarcodeAztec.{BarcodeAztec}
use Rattle.elements.specs.declared.BarcodeDatamatrix.{BarcodeDatamatrix}
use Rattle.elements.specs.declared.BarcodePdf417.{BarcodePdf417}
use Rattle.elements.specs.declared.BarcodeQr.{BarcodeQr}
use Rattle.elements.specs.declared.QrErrorCorrectionLevel.{QrErrorCorrectionLevel}
use Rattle.elements.specs.declared.QrErrorCorrectionLevel.TheVariants.{H, Q, M, L}
use Rattle.elements.specs.declared.LabelPosition.{LabelPosition}
use Rattle.barcodes_2d.specs.declared.barcode_2d.Symbology2d.{Symbology2d}
use Rattle.barcodes_2d.specs.declared.barcode_2d.Symbology2d.TheVariants.{Aztec, Datamatrix, Maxicode, Pdf417, Qr}
use Rattle.barcodes_2d.specs.declared.barcode_2d.Symbology2d.TheVariants.{Unlisted}
use Rattle.barcodes_2d.specs.Barcode2d.{between, aztec_size}
use Rattle.barcodes_2d.specs.Options.{Setting}
use Rattle.decimals.specs.Decimal.{digits}
use Rattle.decimals.specs.Joined.{closed}
use Rattle.spellings.specs.Quoted.{numbers_then}
use Rattle.spellings.specs.Codes.{turns, flagged}

-- a letter and a number that is not below 0
abbrev pub setting : ℕ → ℤ → Setting
setting b z = record { letter = b; value = digits (nat_abs z) }

abbrev pub spelled : Setting → List ℕ
spelled o = o.letter ∷ o.value

-- a comma between each two
unfoldable pub options : Setting → List Setting → List ℕ
options o [] = spelled o
options o (q ∷ os) = closed (spelled o) (options q os)

-- `b`: x, y, type, options
unfoldable pub params2d : LabelPosition → ℕ → List ℕ → List ℕ
params2d p type os = numbers_then (p.x ∷ p.y ∷ []) (closed (type ∷ []) os)

-- `d`, `e`
unfoldable pub aztec_options : BarcodeAztec → List ℕ
aztec_options b = options (setting (letter "d") b.magnification) (setting (letter "e") b.size ∷ [])

-- `h`, `c`, `r`
unfoldable pub datamatrix_options : BarcodeDatamatrix → List ℕ
datamatrix_options b =
    options (setting (letter "h") b.height)
    (setting (letter "c") b.columns ∷ setting (letter "r") b.rows ∷ [])

-- `m`
unfoldable pub maxicode_options : ℤ → List ℕ
maxicode_options m = options (setting (letter "m") m) []

-- `s` where a security level is chosen: −1 is what none gives
abbrev pub secured : ℤ → List Setting
secured z = cond (eq_z z (negsuc 0)) [] (setting (letter "s") z ∷ [])

-- `o`, `x`, `y`, `l`, `r`, `t`, `s`
unfoldable pub pdf417_options : BarcodePdf417 → List ℕ
pdf417_options b =
    options (setting (letter "o") (turns b.orientation))
    (setting (letter "x") b.module_width
    ∷ setting (letter "y") b.row_height
    ∷ setting (letter "l") b.columns
    ∷ setting (letter "r") b.rows
    ∷ record { letter = letter "t"; value = flagged b.truncate (letter "1") (letter "0") }
    ∷ secured b.security)

abbrev pub level_letter : QrErrorCorrectionLevel → ℕ
level_letter H = letter "H"
level_letter Q = letter "Q"
level_letter M = letter "M"
level_letter L = letter "L"

-- `s`, `e`
unfoldable pub qr_options : BarcodeQr → QrErrorCorrectionLevel → List ℕ
qr_options b l =
    options (setting (letter "s") b.magnification) (record { letter = letter "e"; value = level_letter l ∷ [] } ∷ [])

-- what some line yields

unfoldable pub fine_aztec : BarcodeAztec → Bool
fine_aztec b = between (pos 1) (pos 55) b.magnification && eq_z (aztec_size b.size) b.size

unfoldable pub fine_datamatrix : BarcodeDatamatrix → Bool
fine_datamatrix b = between (pos 1) (pos 40) b.height && le_z (pos 0) b.columns && le_z (pos 0) b.rows

unfoldable pub fine_pdf417 : BarcodePdf417 → Bool
fine_pdf417 b =
    between (pos 4) (pos 99) b.row_height
    && (eq_z b.security (negsuc 0) || between (pos 1) (pos 8) b.security)
    && le_z (pos 0) b.columns && le_z (pos 0) b.rows && between (pos 2) (pos 9) b.module_width

unfoldable pub fine_qr : BarcodeQr → Bool
fine_qr b = between (pos 1) (pos 100) b.magnification

-- the type of `b`
abbrev pub type_letter : Symbology2d → ℕ
type_letter Aztec = letter "A"
type_letter Datamatrix = letter "D"
type_letter Maxicode = letter "M"
type_letter Pdf417 = letter "P"
type_letter Qr = letter "Q"
type_letter Unlisted = letter "?"

abbrev pub is_listed2d : Symbology2d → Bool
is_listed2d Aztec = true
is_listed2d Datamatrix = true
is_listed2d Maxicode = true
is_listed2d Pdf417 = true
is_listed2d Qr = true
is_listed2d Unlisted = false
