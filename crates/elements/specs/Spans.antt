-- Where an element's data lies (01, "Forms that change": "data is a place and length in the input").
use Rattle.std.specs.Prelude.{List, [], ◌∷◌, ℕ, ◌+◌, ◌≤◌}
use Rattle.elements.specs.declared.plain.Data.{Data}
use Rattle.elements.specs.declared.plain.Data.TheVariants.{NoData, Payload, Decoded}
use Rattle.elements.specs.declared.DataSpan.{DataSpan}
use Rattle.elements.specs.declared.LabelElement.{LabelElement}
use Rattle.elements.specs.declared.LabelElement.TheVariants.{Text, GraphicBox, DiagonalLine, GraphicField}
use Rattle.elements.specs.declared.LabelElement.TheVariants.{Barcode128, BarcodeEan13, BarcodeEan8, BarcodeUca}
use Rattle.elements.specs.declared.LabelElement.TheVariants.{Barcode2of5, Barcode39, BarcodePdf417}
use Rattle.elements.specs.declared.LabelElement.TheVariants.{BarcodeAztec, BarcodeDatamatrix, BarcodeQr}
use Rattle.elements.specs.declared.LabelElement.TheVariants.{Maxicode, BarcodeUcpe}
use Rattle.elements.specs.Plain.{plain_of}

-- the same bytes where n bytes more stand before them
abbrev pub later : ℕ → DataSpan → DataSpan
later n d = record { start = n + d.start; len = d.len }

-- the element with its data changed so; boxes and diagonals have none
abbrev pub on_span : (DataSpan → DataSpan) → LabelElement → LabelElement
on_span f (Text e) =
    Text
    (record {
      position = e.position;
      reverse_print = e.reverse_print;
      scale = e.scale;
      font = e.font;
      text = f e.text;
    })
on_span f (GraphicBox e) = GraphicBox e
on_span f (DiagonalLine e) = DiagonalLine e
on_span f (GraphicField e) =
    GraphicField (record { position = e.position; row_bytes = e.row_bytes; «data» = f e.«data» })
on_span f (Barcode128 e) =
    Barcode128 (record { barcode = e.barcode; width = e.width; position = e.position; «data» = f e.«data» })
on_span f (BarcodeEan13 e) =
    BarcodeEan13 (record { barcode = e.barcode; width = e.width; position = e.position; «data» = f e.«data» })
on_span f (BarcodeEan8 e) =
    BarcodeEan8 (record { barcode = e.barcode; width = e.width; position = e.position; «data» = f e.«data» })
on_span f (BarcodeUca e) =
    BarcodeUca (record { barcode = e.barcode; width = e.width; position = e.position; «data» = f e.«data» })
on_span f (Barcode2of5 e) =
    Barcode2of5
    (record {
      barcode = e.barcode;
      width = e.width;
      wide = e.wide;
      width_ratio = e.width_ratio;
      position = e.position;
      «data» = f e.«data»;
    })
on_span f (Barcode39 e) =
    Barcode39
    (record {
      barcode = e.barcode;
      width = e.width;
      wide = e.wide;
      width_ratio = e.width_ratio;
      position = e.position;
      «data» = f e.«data»;
    })
on_span f (BarcodePdf417 e) =
    BarcodePdf417 (record { barcode = e.barcode; position = e.position; «data» = f e.«data» })
on_span f (BarcodeAztec e) =
    BarcodeAztec (record { barcode = e.barcode; position = e.position; «data» = f e.«data» })
on_span f (BarcodeDatamatrix e) =
    BarcodeDatamatrix (record { barcode = e.barcode; position = e.position; «data» = f e.«data» })
on_span f (BarcodeQr e) =
    BarcodeQr
    (record {
      barcode = e.barcode;
      error_correction = e.error_correction;
      position = e.position;
      «data» = f e.«data»;
    })
on_span f (Maxicode e) = Maxicode (record { code = e.code; position = e.position; «data» = f e.«data» })
on_span f (BarcodeUcpe e) =
    BarcodeUcpe (record { barcode = e.barcode; width = e.width; position = e.position; «data» = f e.«data» })

-- the element with its data n bytes later
abbrev pub shifted : ℕ → LabelElement → LabelElement
shifted n e = on_span (later n) e

-- the places of its data, if it has any
abbrev pub spans_in : Data → List DataSpan
spans_in NoData = []
spans_in (Payload d) = d ∷ []
spans_in (Decoded d) = d ∷ []

abbrev pub spans : LabelElement → List DataSpan
spans e = spans_in (plain_of e).«data»

-- data at these spans lies in the first n bytes
abbrev pub AllIn : ℕ → List DataSpan → Type 0
AllIn n [] = Unit
AllIn n (d ∷ ds) = (d.start + d.len ≤ n) × AllIn n ds

abbrev pub In : ℕ → LabelElement → Type 0
In n e = AllIn n (spans e)
