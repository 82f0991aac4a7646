-- Where an element's data is moved, its plain form is the same but for the data (`plain_on_span`), and its spans are
-- moved as far (`spans_shifted`). Assumes nothing.
use mathlib.Core.Path.{◌≡◌, refl, ap, ◌∙◌}
use mathlib.Core.List.{map}
use Prim.Native.Nat.{ℕ}
use Rattle.elements.specs.declared.plain.Data.{Data}
use Rattle.elements.specs.declared.plain.Data.TheVariants.{NoData, Payload, Decoded}
use Rattle.elements.specs.declared.plain.Plain.{Plain}
use Rattle.elements.specs.declared.DataSpan.{DataSpan}
use Rattle.elements.specs.declared.LabelElement.{LabelElement}
use Rattle.elements.specs.declared.LabelElement.TheVariants.{Text, GraphicBox, DiagonalLine, GraphicField, Barcode128, BarcodeEan13, BarcodeEan8, BarcodeUca, Barcode2of5, Barcode39, BarcodePdf417, BarcodeAztec, BarcodeDatamatrix, BarcodeQr, Maxicode, BarcodeUcpe}
use Rattle.elements.specs.Plain.{plain, plain_of}
use Rattle.elements.specs.Spans.{later, on_span, shifted, spans_in, spans}

abbrev pub on_data : (DataSpan → DataSpan) → Data → Data
on_data f NoData = NoData
on_data f (Payload d) = Payload (f d)
on_data f (Decoded d) = Decoded (f d)

abbrev pub on_plain : (DataSpan → DataSpan) → Plain → Plain
on_plain f p = plain p.kind p.position (on_data f p.«data») p.fields

pub plain_on_span : (f : DataSpan → DataSpan) (e : LabelElement) → plain_of (on_span f e) ≡ on_plain f (plain_of e)
plain_on_span f (Text e) = refl
plain_on_span f (GraphicBox e) = refl
plain_on_span f (DiagonalLine e) = refl
plain_on_span f (GraphicField e) = refl
plain_on_span f (Barcode128 e) = refl
plain_on_span f (BarcodeEan13 e) = refl
plain_on_span f (BarcodeEan8 e) = refl
plain_on_span f (BarcodeUca e) = refl
plain_on_span f (Barcode2of5 e) = refl
plain_on_span f (Barcode39 e) = refl
plain_on_span f (BarcodePdf417 e) = refl
plain_on_span f (BarcodeAztec e) = refl
plain_on_span f (BarcodeDatamatrix e) = refl
plain_on_span f (BarcodeQr e) = refl
plain_on_span f (Maxicode e) = refl
plain_on_span f (BarcodeUcpe e) = refl

spans_on_data : (f : DataSpan → DataSpan) (d : Data) → spans_in (on_data f d) ≡ map f (spans_in d)
spans_on_data f NoData = refl
spans_on_data f (Payload d) = refl
spans_on_data f (Decoded d) = refl

-- where data stands that is moved
pub spans_shifted : (n : ℕ) (e : LabelElement) → spans (shifted n e) ≡ map (later n) (spans e)
spans_shifted n e = ap (λ (p : Plain). spans_in p.«data») (plain_on_span (later n) e) ∙ spans_on_data (later n) (plain_of e).«data»
