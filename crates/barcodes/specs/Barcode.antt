-- `B` (01, "Grammar"): "x, y, rotation, type, narrow bar, wide bar, bar height, line (flag 1 if exactly `B`, blanks
-- off)".
use Rattle.std.specs.Prelude.{ℕ, Bool, true, false, cond, List, [], ◌∷◌, ltb, pos, length}
use Rattle.text.specs.Ascii.{ascii, letter}
use Rattle.text.specs.Blank.{trim}
use Rattle.text.specs.Fields.{fields, field}
use Rattle.text.specs.Table.{Row, row, texts, meaning}
use Rattle.numbers.specs.Number.{field_or}
use Rattle.elements.specs.declared.BarcodeMode.{BarcodeMode}
use Rattle.elements.specs.declared.BarcodeMode.TheVariants.{Ucc, Automatic, Ean}
use Rattle.elements.specs.declared.DataSpan.{DataSpan}
use Rattle.elements.specs.declared.LabelElement.TheVariants as element
use Rattle.elements.specs.declared.LabelPosition.{LabelPosition}
use Rattle.elements.specs.declared.refusal.Refusal.TheVariants as refusal
use Rattle.barcodes.specs.declared.barcode.Barcode.{Barcode}
use Rattle.barcodes.specs.declared.barcode.BarcodeFields.{BarcodeFields}
use Rattle.barcodes.specs.declared.barcode.Symbology.{Symbology}
use Rattle.barcodes.specs.declared.barcode.Symbology.TheVariants.{Code128, Interleaved, Code39, Ean13, Ean8}
use Rattle.barcodes.specs.declared.barcode.Symbology.TheVariants.{UpcA, UpcE, Unlisted}
use Rattle.parameters.specs.declared.position.Placed.{Placed}
use Rattle.parameters.specs.declared.position.Placed.TheVariants as placing
use Rattle.parameters.specs.declared.reading.LineReading.{LineReading}
use Rattle.parameters.specs.declared.reading.LineReading.TheVariants as reading
use Rattle.barcodes.specs.Ratio.{ratio_of}
use Rattle.parameters.specs.Rotation.{rotation_of}
use Rattle.parameters.specs.FieldValues.{size_or, point_of, exactly}
use Rattle.parameters.specs.Position.{placed}

-- "Types: `0` is Code 128 in mode Ucc, `1E` in mode Ean, `1`, `1A`, `1B`, `1C` in mode Automatic; `2` is 2 of 5
-- without check, `2C` and `2D` with; `3` is Code 39 without check, `3C` with; `E30` EAN-13, `E80` EAN-8, `UA0` UPC-A,
-- `UE0` UPC-E"; in the order of the list of types, "fourth field of `B` `0 1 1A 1B 1C 1E 2 2C 2D 3 3C E30 E80 UA0
-- UE0`"
abbrev pub symbologies : List (Row Symbology)
symbologies =
    row (ascii "0") (Code128 Ucc)
    ∷ row (ascii "1") (Code128 Automatic)
    ∷ row (ascii "1A") (Code128 Automatic)
    ∷ row (ascii "1B") (Code128 Automatic)
    ∷ row (ascii "1C") (Code128 Automatic)
    ∷ row (ascii "1E") (Code128 Ean)
    ∷ row (ascii "2") (Interleaved false)
    ∷ row (ascii "2C") (Interleaved true)
    ∷ row (ascii "2D") (Interleaved true)
    ∷ row (ascii "3") (Code39 false)
    ∷ row (ascii "3C") (Code39 true)
    ∷ row (ascii "E30") Ean13
    ∷ row (ascii "E80") Ean8
    ∷ row (ascii "UA0") UpcA
    ∷ row (ascii "UE0") UpcE
    ∷ []

-- the types that are listed
abbrev pub types : List (List ℕ)
types = texts symbologies

-- the type that a field, blanks off, spells: one of the list, or none
unfoldable pub symbology_of : List ℕ → Symbology
symbology_of t = meaning Unlisted symbologies t

-- a type is one of the list
abbrev pub is_listed : Symbology → Bool
is_listed (Code128 m) = true
is_listed (Interleaved c) = true
is_listed (Code39 c) = true
is_listed Ean13 = true
is_listed Ean8 = true
is_listed UpcA = true
is_listed UpcE = true
is_listed Unlisted = false

-- the eight fields; defaults: narrow bar 1, wide bar 2, bar height 10
unfoldable pub barcode_fields : List ℕ → BarcodeFields
barcode_fields s =
    record {
      at = point_of (field s 0) (field s 1);
      rotation = field_or (pos 0) (field s 2);
      symbology = symbology_of (trim (field s 3));
      bars =
          record {
            narrow = size_or (pos 1) (field s 4);
            wide = field_or (pos 2) (field s 5);
            height = size_or (pos 10) (field s 6);
            line = exactly (letter "B") (field s 7);
          };
    }

-- the elements: rotation, narrow bar, bar height, line, position and data; Code 128 with its mode
unfoldable pub code128 : BarcodeMode → Barcode → LineReading
code128 m b =
    reading.Element
    (element.Barcode128
    (record {
      barcode = record { orientation = b.orientation; height = b.bars.height; line = b.bars.line; mode = m };
      width = b.bars.narrow;
      position = b.position;
      «data» = b.«data»;
    }))

-- 2 of 5 and Code 39 with their check, the wide bar as its field has it, and the ratio
unfoldable pub interleaved : Bool → Barcode → LineReading
interleaved c b =
    reading.Element
    (element.Barcode2of5
    (record {
      barcode =
          record { orientation = b.orientation; height = b.bars.height; line = b.bars.line; check_digit = c };
      width = b.bars.narrow;
      wide = b.bars.wide;
      width_ratio = ratio_of b.bars.wide b.bars.narrow;
      position = b.position;
      «data» = b.«data»;
    }))

unfoldable pub code39 : Bool → Barcode → LineReading
code39 c b =
    reading.Element
    (element.Barcode39
    (record {
      barcode =
          record { orientation = b.orientation; height = b.bars.height; line = b.bars.line; check_digit = c };
      width = b.bars.narrow;
      wide = b.bars.wide;
      width_ratio = ratio_of b.bars.wide b.bars.narrow;
      position = b.position;
      «data» = b.«data»;
    }))

unfoldable pub ean13 : Barcode → LineReading
ean13 b =
    reading.Element
    (element.BarcodeEan13
    (record {
      barcode = record { orientation = b.orientation; height = b.bars.height; line = b.bars.line };
      width = b.bars.narrow;
      position = b.position;
      «data» = b.«data»;
    }))

unfoldable pub ean8 : Barcode → LineReading
ean8 b =
    reading.Element
    (element.BarcodeEan8
    (record {
      barcode = record { orientation = b.orientation; height = b.bars.height; line = b.bars.line };
      width = b.bars.narrow;
      position = b.position;
      «data» = b.«data»;
    }))

unfoldable pub upc_a : Barcode → LineReading
upc_a b =
    reading.Element
    (element.BarcodeUca
    (record {
      barcode = record { orientation = b.orientation; height = b.bars.height; line = b.bars.line };
      width = b.bars.narrow;
      position = b.position;
      «data» = b.«data»;
    }))

unfoldable pub upc_e : Barcode → LineReading
upc_e b =
    reading.Element
    (element.BarcodeUcpe
    (record {
      barcode = record { orientation = b.orientation; height = b.bars.height; line = b.bars.line };
      width = b.bars.narrow;
      position = b.position;
      «data» = b.«data»;
    }))

-- the element of a type
abbrev pub barcode_element : Symbology → Barcode → LineReading
barcode_element (Code128 m) b = code128 m b
barcode_element (Interleaved c) b = interleaved c b
barcode_element (Code39 c) b = code39 c b
barcode_element Ean13 b = ean13 b
barcode_element Ean8 b = ean8 b
barcode_element UpcA b = upc_a b
barcode_element UpcE b = upc_e b
barcode_element Unlisted b = reading.Refused refusal.BarcodeType

-- at its position, or 13
abbrev pub barcode_placed : BarcodeFields → DataSpan → Placed → LineReading
barcode_placed f d (placing.At p) =
    barcode_element f.symbology
    (record { orientation = rotation_of f.rotation; bars = f.bars; position = p; «data» = d })
barcode_placed f d placing.Outside = reading.Refused refusal.OutOfRange

-- 7 where the type is not listed, then 13
unfoldable pub barcode_at : BarcodeFields → DataSpan → LabelPosition → LineReading
barcode_at f d r =
    cond (is_listed f.symbology) (barcode_placed f d (placed f.at.x f.at.y r))
    (reading.Refused refusal.BarcodeType)

-- "number at least .. 8", or 2
unfoldable pub barcode_reading : List ℕ → DataSpan → LabelPosition → LineReading
barcode_reading s d r =
    cond (ltb (length (fields s)) 8) (reading.Refused refusal.BarcodeFields) (barcode_at (barcode_fields s) d r)
