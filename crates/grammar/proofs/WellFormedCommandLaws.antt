-- Each command that draws or has data (`meets_line`, `meets_diagonal`, `meets_box`, `meets_data`): refused as 01
-- numbers the test that fails; where all hold, an element with that data, 13 or 19. A line is in WellFormedLaws.
-- Assumes nothing.
use mathlib.Core.Path.{◌≡◌, refl}
use mathlib.Core.Bool.{Bool, true, false, cond, not, ◌&&◌, ◌||◌, false≢true}
use mathlib.Core.List.{List, [], ◌∷◌}
use mathlib.Core.Logic.{◌⊎◌, inl, inr}
use Prim.Native.Nat.{ℕ}
use lib.Dec.{leb, ltb}
use lib.IntN.{ℤ}
use lib.ListN.{length}
use borrow.Author.Tests.{leb-true, leb-false, le-ltb, lt-ltb}
use Rattle.text.specs.Blank.{trim}
use Rattle.text.specs.Fields.{fields, field}
use Rattle.text.specs.Utf8.{decode}
use Rattle.text.proofs.BoolLaws.{test}
use Rattle.elements.specs.declared.DataSpan.{DataSpan}
use Rattle.elements.specs.declared.LabelElement.{LabelElement}
use Rattle.elements.specs.declared.LabelPosition.{LabelPosition}
use Rattle.elements.specs.declared.LineColor.{LineColor}
use Rattle.elements.specs.declared.refusal.Refusal.{Refusal}
use Rattle.elements.specs.declared.refusal.Refusal.TheVariants as refusal
use Rattle.elements.specs.Refusals.{number_of}
use Rattle.elements.specs.Spans.{spans}
use Rattle.parameters.specs.declared.position.Placed.{Placed}
use Rattle.parameters.specs.declared.position.Placed.TheVariants as placing
use Rattle.parameters.specs.declared.reading.LineReading.{LineReading}
use Rattle.parameters.specs.declared.reading.LineReading.TheVariants as reading
use Rattle.parameters.specs.FieldValues.{fields_from}
use Rattle.parameters.specs.Position.{placed, yields}
use Rattle.texts.specs.declared.epl_text.TextFields.{TextFields}
use Rattle.texts.specs.declared.fonts.Scaled.{Scaled}
use Rattle.texts.specs.declared.fonts.Scaled.TheVariants as scaled
use Rattle.texts.specs.Font.{font_of}
use Rattle.texts.specs.Text.{text_fields, text_of, text_element, text_reading}
use Rattle.draws.specs.declared.draw.Cornered.{Cornered}
use Rattle.draws.specs.declared.draw.Cornered.TheVariants as cornered
use Rattle.draws.specs.Draw.{line_fields, line_element, line_reading, corners_at, drawn_at, diagonal_of, diagonal_reading, box_of, box_reading}
use Rattle.barcodes.specs.declared.barcode.Barcode.{Barcode}
use Rattle.barcodes.specs.declared.barcode.BarcodeFields.{BarcodeFields}
use Rattle.barcodes.specs.declared.barcode.Symbology.{Symbology}
use Rattle.barcodes.specs.declared.barcode.Symbology.TheVariants.{Code128, Interleaved, Code39, Ean13, Ean8, UpcA, UpcE, Unlisted}
use Rattle.barcodes.specs.Barcode.{is_listed, barcode_fields, code128, interleaved, code39, ean13, ean8, upc_a, upc_e, barcode_element, barcode_placed, barcode_at, barcode_reading}
use Rattle.barcodes.proofs.BarcodeLaws.{listed_is}
use Rattle.barcodes_2d.specs.declared.barcode_2d.Symbology2d.{Symbology2d}
use Rattle.barcodes_2d.specs.declared.barcode_2d.Symbology2d.TheVariants as two
use Rattle.barcodes_2d.specs.Barcode2d.{symbology_of, aztec_reading, datamatrix_reading, maxicode_reading, pdf417_reading, qr_reading, barcode2d_at, barcode2d_reading}
use Rattle.command_letters.specs.declared.command.Command.TheVariants.{Data}
use Rattle.command_letters.specs.declared.command.DataCommand.{DataCommand}
use Rattle.command_letters.specs.declared.command.DataCommand.TheVariants as command
use Rattle.commands.specs.Line.{with_data}
use Rattle.grammar.specs.Units.{number}
use Rattle.grammar.specs.WellFormed.{at_least, data_counted, data_typed, data_sized, type_fault, count_fault}
use Rattle.grammar.proofs.Barcode2dTypeLaws.{is_listed2d, is_qr, typed_2d}

-- past its tests: an element whose data is ds, 13 or 19
abbrev pub Passed : List DataSpan → LineReading → Type 0
Passed ds reading.Passed = Unit
Passed ds reading.Clear = Unit
Passed ds (reading.Reference x y) = Unit
Passed ds (reading.Element e) = spans e ≡ ds
Passed ds (reading.Print m n) = Unit
Passed ds (reading.Refused n) = (n ≡ refusal.OutOfRange) ⊎ (n ≡ refusal.SizeOutside)

-- the tests hold, and the reading is past them; or it is refused as 01's number k
abbrev pub Meets : Bool → ℕ → List DataSpan → LineReading → Type 0
Meets true k ds x = Passed ds x
Meets false k ds x = (n : Refusal) × (x ≡ reading.Refused n) × (number_of n ≡ k)

passed_yields : (p : Placed) (f : LabelPosition → LabelElement) (ds : List DataSpan) → ((at : LabelPosition) → spans (f at) ≡ ds) → Passed ds (yields p f)
passed_yields (placing.At p) f ds h = h p
passed_yields placing.Outside f ds h = inl refl

-- the number m of fields comes first, then the type, then the data's size
meets_count : (m k : ℕ) (y z : Bool) (f : ℕ) (n : Refusal) (ds : List DataSpan) (x : LineReading) → Meets (y && z) f ds x
    → Meets (leb k m && y && z) (cond (leb k m) f (number_of n)) ds (cond (ltb m k) (reading.Refused n) x)
meets_count m k y z f n ds x h =
    test (leb k m)
    (λ e. simp (e, le-ltb m k (leb-true k m e)) h)
    (λ e. simp (e, lt-ltb m k (leb-false k m e)) (n, refl, refl))

-- `LO`, `LW`, `LE`, `LS`, `X`

-- k fields at least, or the number f
abbrev MeetsDrawn : ℕ → ℕ → List ℕ → LineReading → Type 0
MeetsDrawn k f s x = Meets (at_least k s && true && true) (cond (at_least k s) 9 f) [] x

pub meets_line : (s : List ℕ) (c : LineColor) (r : LabelPosition) → MeetsDrawn 4 4 s (line_reading s c r)
unfolding line_reading line_element
meets_line s c r =
    let f = line_fields s in
    meets_count (length (fields s)) 4 true true 9 refusal.LineFields [] _ (passed_yields (placed f.at.x f.at.y r) _ [] (λ p. refl))

passed_diagonal : (t : ℤ) (c : Cornered) → Passed [] (diagonal_of t c)
passed_diagonal t (cornered.At d) = refl
passed_diagonal t cornered.Outside = inl refl
passed_diagonal t cornered.SizeOutside = inr refl

pub meets_diagonal : (s : List ℕ) (r : LabelPosition) → MeetsDrawn 5 5 s (diagonal_reading s r)
unfolding diagonal_reading
meets_diagonal s r = meets_count (length (fields s)) 5 true true 9 refusal.DiagonalFields [] _ (passed_diagonal (corners_at s).thickness (drawn_at (corners_at s) r))

passed_box : (t : ℤ) (c : Cornered) → Passed [] (box_of t c)
passed_box t (cornered.At d) = refl
passed_box t cornered.Outside = inl refl
passed_box t cornered.SizeOutside = inr refl

pub meets_box : (s : List ℕ) (r : LabelPosition) → MeetsDrawn 5 6 s (box_reading s r)
unfolding box_reading
meets_box s r = meets_count (length (fields s)) 5 true true 9 refusal.BoxFields [] _ (passed_box (corners_at s).thickness (drawn_at (corners_at s) r))

-- the parameters s and the data t of c, which lies at d
abbrev MeetsData : DataCommand → List ℕ → List ℕ → DataSpan → LineReading → Type 0
MeetsData c s t d x =
    Meets (data_counted c s && data_typed c s && data_sized c s t) (cond (data_counted c s) (cond (data_typed c s) 9 (type_fault (Data c))) (count_fault (Data c))) (d ∷ []) x

-- `A`

passed_text : (f : TextFields) (d : DataSpan) (p : Placed) (i : Scaled) → Passed (d ∷ []) (text_of f d p i)
passed_text f d (placing.At at) (scaled.Font i) = refl
passed_text f d (placing.At at) scaled.Outside = inr refl
passed_text f d placing.Outside i = inl refl

meets_text : (s t : List ℕ) (d : DataSpan) (r : LabelPosition) → MeetsData command.Text s t d (text_reading s d r)
unfolding text_reading text_element
meets_text s t d r =
    let f = text_fields s in
    meets_count (length (fields s)) 7 true true 9 refusal.TextFields (d ∷ []) _
    (passed_text f d (placed f.at.x f.at.y r) (font_of f.scale.font f.scale.horizontal f.scale.vertical f.rotation))

-- `B`

passed_barcode : (y : Symbology) (b : Barcode) → is_listed y ≡ true → Passed (b.«data» ∷ []) (barcode_element y b)
unfolding code128 interleaved code39 ean13 ean8 upc_a upc_e
passed_barcode (Code128 m) b h = refl
passed_barcode (Interleaved c) b h = refl
passed_barcode (Code39 c) b h = refl
passed_barcode Ean13 b h = refl
passed_barcode Ean8 b h = refl
passed_barcode UpcA b h = refl
passed_barcode UpcE b h = refl
passed_barcode Unlisted b h = absurd (false≢true h)

passed_placed : (f : BarcodeFields) (d : DataSpan) (p : Placed) → is_listed f.symbology ≡ true → Passed (d ∷ []) (barcode_placed f d p)
passed_placed f d (placing.At p) h = passed_barcode f.symbology _ h
passed_placed f d placing.Outside h = inl refl

meets_type : (x : Bool) (f : BarcodeFields) (d : DataSpan) (r : LabelPosition) → is_listed f.symbology ≡ x → Meets (x && true) (cond x 9 7) (d ∷ []) (barcode_at f d r)
unfolding barcode_at
meets_type true f d r h = simp h (passed_placed f d (placed f.at.x f.at.y r) h)
meets_type false f d r h = simp h (refusal.BarcodeType, refl, refl)

meets_barcode : (s t : List ℕ) (d : DataSpan) (r : LabelPosition) → MeetsData command.Barcode s t d (barcode_reading s d r)
unfolding barcode_reading barcode_fields
meets_barcode s t d r =
    let y = data_typed command.Barcode s in
    meets_count (length (fields s)) 8 y true (cond y 9 7) refusal.BarcodeFields (d ∷ []) _ (meets_type y (barcode_fields s) d r (listed_is (trim (field s 3))))

-- `b`

meets_type_2d : (y : Symbology2d) (s t : List ℕ) (p : Placed) (d : DataSpan)
    → Meets (is_listed2d y && (not (is_qr y) || leb (length (decode t)) 9999)) (cond (is_listed2d y) 9 8) (d ∷ []) (barcode2d_at y s t p d)
unfolding aztec_reading datamatrix_reading maxicode_reading pdf417_reading qr_reading
meets_type_2d two.Aztec s t p d = passed_yields p _ (d ∷ []) (λ at. refl)
meets_type_2d two.Datamatrix s t p d = passed_yields p _ (d ∷ []) (λ at. refl)
meets_type_2d two.Maxicode s t p d = passed_yields p _ (d ∷ []) (λ at. refl)
meets_type_2d two.Pdf417 s t p d = passed_yields p _ (d ∷ []) (λ at. refl)
meets_type_2d two.Qr s t p d =
    test (leb (length (decode t)) 9999)
    (λ e. simp e (passed_yields p _ (d ∷ []) (λ at. refl)))
    (λ e. simp e (refusal.QrData, refl, refl))
meets_type_2d two.Unlisted s t p d = (refusal.Barcode2dType, refl, refl)

meets_barcode_2d : (s t : List ℕ) (d : DataSpan) (r : LabelPosition) → MeetsData command.Barcode2d s t d (barcode2d_reading s t d r)
unfolding barcode2d_reading
meets_barcode_2d s t d r =
    let y = data_typed command.Barcode2d s in
    let f = trim (field s 2) in
    let h = meets_type_2d (symbology_of f) (fields_from 3 s) t (placed (number (field s 0)) (number (field s 1)) r) d in
    meets_count (length (fields s)) 3 y (data_sized command.Barcode2d s t) (cond y 9 8) refusal.Barcode2dFields (d ∷ []) _
    (rw (← (typed_2d f).0, ← (typed_2d f).1) h)

pub meets_data : (c : DataCommand) (s t : List ℕ) (d : DataSpan) (r : LabelPosition) → MeetsData c s t d (with_data c s t d r)
meets_data command.Text s t d r = meets_text s t d r
meets_data command.Barcode s t d r = meets_barcode s t d r
meets_data command.Barcode2d s t d r = meets_barcode_2d s t d r
