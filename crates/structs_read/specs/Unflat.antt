-- The element that a host hands over as a struct with any bytes in any field (01, "Writing EPL"), and whether the
-- struct is one that an element has: any other is none.
use Rattle.std.specs.Prelude.{◌≡◌, Bool, cond, ◌&&◌, ℕ, T, eqb, ℤ, pos}
use Rattle.std.specs.Float.{binary64}
use Rattle.std.specs.Float.Ieee.{fits}
use Rattle.numbers.specs.Int.{eq_z}
use Rattle.elements.specs.declared.Barcode128WithData.{Barcode128WithData}
use Rattle.elements.specs.declared.Barcode2of5WithData.{Barcode2of5WithData}
use Rattle.elements.specs.declared.Barcode39WithData.{Barcode39WithData}
use Rattle.elements.specs.declared.BarcodeAztecWithData.{BarcodeAztecWithData}
use Rattle.elements.specs.declared.BarcodeDatamatrixWithData.{BarcodeDatamatrixWithData}
use Rattle.elements.specs.declared.BarcodeEan13WithData.{BarcodeEan13WithData}
use Rattle.elements.specs.declared.BarcodeEan8WithData.{BarcodeEan8WithData}
use Rattle.elements.specs.declared.BarcodeMode.{BarcodeMode}
use Rattle.elements.specs.declared.BarcodeMode.TheVariants.{Ucc, Automatic, Ean}
use Rattle.elements.specs.declared.BarcodePdf417.{BarcodePdf417}
use Rattle.elements.specs.declared.BarcodePdf417WithData.{BarcodePdf417WithData}
use Rattle.elements.specs.declared.BarcodeQrWithData.{BarcodeQrWithData}
use Rattle.elements.specs.declared.BarcodeUcaWithData.{BarcodeUcaWithData}
use Rattle.elements.specs.declared.BarcodeUcpeWithData.{BarcodeUcpeWithData}
use Rattle.elements.specs.declared.DataSpan.{DataSpan}
use Rattle.elements.specs.declared.FieldOrientation.{FieldOrientation}
use Rattle.elements.specs.declared.FieldOrientation.TheVariants.{Normal, Rotated90, Rotated180, Rotated270}
use Rattle.elements.specs.declared.FontInfo.{FontInfo}
use Rattle.elements.specs.declared.FontScale.{FontScale}
use Rattle.elements.specs.declared.GraphicBox.{GraphicBox}
use Rattle.elements.specs.declared.GraphicDiagonalLine.{GraphicDiagonalLine}
use Rattle.elements.specs.declared.GraphicField.{GraphicField}
use Rattle.elements.specs.declared.LabelElement.{LabelElement}
use Rattle.elements.specs.declared.LabelElement.TheVariants as element
use Rattle.elements.specs.declared.LabelPosition.{LabelPosition}
use Rattle.elements.specs.declared.LineColor.{LineColor}
use Rattle.elements.specs.declared.LineColor.TheVariants.{Black, White, Xor}
use Rattle.elements.specs.declared.MaxicodeWithData.{MaxicodeWithData}
use Rattle.elements.specs.declared.QrErrorCorrectionLevel.{QrErrorCorrectionLevel}
use Rattle.elements.specs.declared.QrErrorCorrectionLevel.TheVariants.{H, Q, M, L}
use Rattle.elements.specs.declared.TextField.{TextField}
use Rattle.structs.specs.declared.answer.Element.{Element}
use Rattle.structs.specs.Flat.{flat_element}
use Rattle.spellings.specs.Fonts.{same_bits}

-- ---- the element
abbrev pub is_one : ℕ → Bool
is_one n = eqb n 1

abbrev pub orientation_of : ℕ → FieldOrientation
orientation_of r = cond (eqb r 1) Rotated90 (cond (eqb r 2) Rotated180 (cond (eqb r 3) Rotated270 Normal))

abbrev pub colour_of : ℕ → LineColor
colour_of c = cond (eqb c 1) White (cond (eqb c 2) Xor Black)

abbrev pub mode_of : ℤ → BarcodeMode
mode_of m = cond (eq_z m (pos 1)) Ucc (cond (eq_z m (pos 3)) Ean Automatic)

abbrev pub level_of : ℕ → QrErrorCorrectionLevel
level_of b = cond (eqb b 72) H (cond (eqb b 81) Q (cond (eqb b 76) L M))

abbrev pub at : Element → LabelPosition
at x = record { x = x.x; y = x.y }

abbrev pub span : Element → DataSpan
span x = record { start = x.data_start; len = x.data_len }

-- each kind by the fields that it has
abbrev pub scale_of : Element → FontScale
scale_of x = record { font = x.font; horizontal = x.horizontal; vertical = x.vertical }

abbrev pub font_of : Element → FontInfo
font_of x = record { height = x.text_height; width = x.text_width; rotation = orientation_of x.rotation }

abbrev pub text_of : Element → TextField
text_of x =
    record {
      position = at x;
      reverse_print = is_one x.reverse;
      scale = scale_of x;
      font = font_of x;
      text = span x;
    }

abbrev pub box_of : Element → GraphicBox
box_of x =
    record {
      position = at x;
      width = x.width;
      height = x.height;
      border_thickness = x.thickness;
      line_color = colour_of x.colour;
    }

abbrev pub diagonal_of : Element → GraphicDiagonalLine
diagonal_of x =
    record {
      position = at x;
      width = x.width;
      height = x.height;
      border_thickness = x.thickness;
      top_to_bottom = is_one x.direction;
    }

abbrev pub graphic_of : Element → GraphicField
graphic_of x = record { position = at x; row_bytes = x.row_bytes; «data» = span x }

abbrev pub code128_of : Element → Barcode128WithData
code128_of x =
    record {
      barcode =
          record {
            orientation = orientation_of x.rotation;
            height = x.height;
            line = is_one x.line;
            mode = mode_of x.mode;
          };
      width = x.width;
      position = at x;
      «data» = span x;
    }

abbrev pub ean13_of : Element → BarcodeEan13WithData
ean13_of x =
    record {
      barcode = record { orientation = orientation_of x.rotation; height = x.height; line = is_one x.line };
      width = x.width;
      position = at x;
      «data» = span x;
    }

abbrev pub ean8_of : Element → BarcodeEan8WithData
ean8_of x =
    record {
      barcode = record { orientation = orientation_of x.rotation; height = x.height; line = is_one x.line };
      width = x.width;
      position = at x;
      «data» = span x;
    }

abbrev pub upca_of : Element → BarcodeUcaWithData
upca_of x =
    record {
      barcode = record { orientation = orientation_of x.rotation; height = x.height; line = is_one x.line };
      width = x.width;
      position = at x;
      «data» = span x;
    }

abbrev pub interleaved_of : Element → Barcode2of5WithData
interleaved_of x =
    record {
      barcode =
          record {
            orientation = orientation_of x.rotation;
            height = x.height;
            line = is_one x.line;
            check_digit = is_one x.check;
          };
      width = x.width;
      wide = x.wide;
      width_ratio = x.ratio;
      position = at x;
      «data» = span x;
    }

abbrev pub code39_of : Element → Barcode39WithData
code39_of x =
    record {
      barcode =
          record {
            orientation = orientation_of x.rotation;
            height = x.height;
            line = is_one x.line;
            check_digit = is_one x.check;
          };
      width = x.width;
      wide = x.wide;
      width_ratio = x.ratio;
      position = at x;
      «data» = span x;
    }

abbrev pub pdf417_of : Element → BarcodePdf417WithData
pdf417_of x =
    record {
      barcode =
          record {
            orientation = orientation_of x.rotation;
            row_height = x.height;
            security = x.security;
            columns = x.columns;
            rows = x.rows;
            truncate = is_one x.truncate;
            module_width = x.width;
          };
      position = at x;
      «data» = span x;
    }

abbrev pub aztec_of : Element → BarcodeAztecWithData
aztec_of x =
    record {
      barcode = record { magnification = x.magnification; size = x.size };
      position = at x;
      «data» = span x;
    }

abbrev pub datamatrix_of : Element → BarcodeDatamatrixWithData
datamatrix_of x =
    record {
      barcode = record { height = x.height; columns = x.columns; rows = x.rows };
      position = at x;
      «data» = span x;
    }

abbrev pub qr_of : Element → BarcodeQrWithData
qr_of x =
    record {
      barcode = record { magnification = x.magnification };
      error_correction = level_of x.level;
      position = at x;
      «data» = span x;
    }

abbrev pub maxicode_of : Element → MaxicodeWithData
maxicode_of x = record { code = record { mode = x.mode }; position = at x; «data» = span x }

abbrev pub upce_of : Element → BarcodeUcpeWithData
upce_of x =
    record {
      barcode = record { orientation = orientation_of x.rotation; height = x.height; line = is_one x.line };
      width = x.width;
      position = at x;
      «data» = span x;
    }

-- the element of a kind; UPC-E for any that is none
abbrev pub element_of : Element → LabelElement
element_of x =
    cond (eqb x.kind 1) (element.Text (text_of x))
    (cond (eqb x.kind 2) (element.GraphicBox (box_of x))
    (cond (eqb x.kind 3) (element.DiagonalLine (diagonal_of x))
    (cond (eqb x.kind 4) (element.GraphicField (graphic_of x))
    (cond (eqb x.kind 5) (element.Barcode128 (code128_of x))
    (cond (eqb x.kind 6) (element.BarcodeEan13 (ean13_of x))
    (cond (eqb x.kind 7) (element.BarcodeEan8 (ean8_of x))
    (cond (eqb x.kind 8) (element.BarcodeUca (upca_of x))
    (cond (eqb x.kind 9) (element.Barcode2of5 (interleaved_of x))
    (cond (eqb x.kind 10) (element.Barcode39 (code39_of x))
    (cond (eqb x.kind 11) (element.BarcodePdf417 (pdf417_of x))
    (cond (eqb x.kind 12) (element.BarcodeAztec (aztec_of x))
    (cond (eqb x.kind 13) (element.BarcodeDatamatrix (datamatrix_of x))
    (cond (eqb x.kind 14) (element.BarcodeQr (qr_of x))
    (cond (eqb x.kind 15) (element.Maxicode (maxicode_of x))
    (element.BarcodeUcpe (upce_of x))))))))))))))))

-- ---- whether it is the struct's
abbrev pub same_flags : Element → Element → Bool
same_flags a b =
    eqb a.kind b.kind
    && eqb a.rotation b.rotation
    && eqb a.reverse b.reverse
    && eqb a.colour b.colour
    && eqb a.direction b.direction
    && eqb a.line b.line
    && eqb a.check b.check
    && eqb a.truncate b.truncate
    && eqb a.level b.level

abbrev pub same_places : Element → Element → Bool
same_places a b = eq_z a.x b.x && eq_z a.y b.y && eq_z a.width b.width && eq_z a.height b.height

abbrev pub same_counts : Element → Element → Bool
same_counts a b =
    eq_z a.thickness b.thickness
    && eq_z a.row_bytes b.row_bytes
    && eq_z a.security b.security
    && eq_z a.columns b.columns

abbrev pub same_modules : Element → Element → Bool
same_modules a b =
    eq_z a.rows b.rows
    && eq_z a.magnification b.magnification
    && eq_z a.size b.size
    && eq_z a.mode b.mode

abbrev pub same_scales : Element → Element → Bool
same_scales a b =
    eq_z a.font b.font
    && eq_z a.horizontal b.horizontal
    && eq_z a.vertical b.vertical
    && eq_z a.wide b.wide

-- f64s by their bits
abbrev pub same_sizes : Element → Element → Bool
same_sizes a b =
    same_bits a.text_height b.text_height
    && same_bits a.text_width b.text_width
    && same_bits a.ratio b.ratio

abbrev pub same_data : Element → Element → Bool
same_data a b = eqb a.data_start b.data_start && eqb a.data_len b.data_len

-- two structs are the same, field by field
unfoldable pub same_element : Element → Element → Bool
same_element a b =
    same_flags a b && same_places a b && same_counts a b && same_modules a b && same_scales a b && same_sizes a b
    && same_data a b

-- the struct x is the one that its element has: some element has it, and then it is this one (`UnflatLaws`)
abbrev pub standing : Element → Bool
standing x = same_element (flat_element (element_of x)) x

-- the struct x is the one that the element e has; a field that is none of its kind's is 0
abbrev pub Stands : Element → LabelElement → Type 0
Stands x e = flat_element e ≡ x

-- the sizes of a struct are f64s, as its Rattle type says
pub record Sized (x : Element) : Type 0 where
  pub height : T (fits binary64 x.text_height)
  pub width : T (fits binary64 x.text_width)
  pub ratio : T (fits binary64 x.ratio)
