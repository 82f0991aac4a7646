-- A command whose line has more bytes before it says the same, with its element's data as many bytes later
-- (`command_later`); a line says what it says without its blanks, as much later as blanks stand before it
-- (`line_later`, `within`). Places are in LineLaws. Assumes nothing.
use mathlib.Core.Path.{◌≡◌, refl, ap, ◌∙◌, sym}
use mathlib.Core.Bool.{Bool, true, false, cond}
use mathlib.Core.List.{List, ◌++◌}
use Prim.Native.Nat.{ℕ, ◌+◌}
use native.Mathlib.Omega.{arith}
use lib.Dec.{eqb, leb, ltb}
use lib.IntN.{ℤ, pos}
use lib.ListN.{length, drop, take, take-append-drop}
use lib.Seq.{length-take-le}
use Rattle.text.specs.Blank.{trim, trim_start}
use Rattle.text.specs.Fields.{index_of, fields, field, quoted}
use Rattle.text.specs.Utf8.{decode}
use Rattle.elements.specs.declared.DataSpan.{DataSpan}
use Rattle.elements.specs.declared.LabelElement.{LabelElement}
use Rattle.elements.specs.declared.LabelPosition.{LabelPosition}
use Rattle.elements.specs.declared.LineColor.{LineColor}
use Rattle.elements.specs.Spans.{later, shifted}
use Rattle.parameters.specs.declared.position.Placed.{Placed}
use Rattle.parameters.specs.declared.position.Placed.TheVariants as placing
use Rattle.parameters.specs.declared.reading.LineReading.{LineReading}
use Rattle.parameters.specs.declared.reading.LineReading.TheVariants as reading
use Rattle.numbers.specs.Number.{field_or}
use Rattle.parameters.specs.FieldValues.{fields_from}
use Rattle.parameters.specs.Position.{placed, yields}
use Rattle.parameters.specs.Reading.{later_reading}
use Rattle.texts.specs.declared.epl_text.TextFields.{TextFields}
use Rattle.texts.specs.declared.fonts.Scaled.{Scaled}
use Rattle.texts.specs.declared.fonts.Scaled.TheVariants as scaled
use Rattle.texts.specs.Font.{font_of}
use Rattle.texts.specs.Text.{text_fields, text_of, text_element, text_reading}
use Rattle.draws.specs.declared.draw.Cornered.{Cornered}
use Rattle.draws.specs.declared.draw.Cornered.TheVariants as cornered
use Rattle.draws.specs.Draw.{line_fields, line_element, line_reading, corners_at, drawn_at, diagonal_of, diagonal_reading, box_of, box_reading}
use Rattle.barcodes.specs.declared.barcode.BarcodeFields.{BarcodeFields}
use Rattle.barcodes.specs.declared.barcode.Barcode.{Barcode}
use Rattle.barcodes.specs.declared.barcode.Symbology.{Symbology}
use Rattle.barcodes.specs.declared.barcode.Symbology.TheVariants.{Code128, Interleaved, Code39, Ean13, Ean8, UpcA, UpcE, Unlisted}
use Rattle.barcodes.specs.Barcode.{is_listed, barcode_fields, code128, interleaved, code39, ean13, ean8, upc_a, upc_e, barcode_element, barcode_placed, barcode_at, barcode_reading}
use Rattle.barcodes_2d.specs.declared.barcode_2d.Symbology2d.{Symbology2d}
use Rattle.barcodes_2d.specs.declared.barcode_2d.Symbology2d.TheVariants as two
use Rattle.barcodes_2d.specs.Barcode2d.{symbology_of, aztec_reading, datamatrix_reading, maxicode_reading, pdf417_reading, qr_reading, barcode2d_at, barcode2d_reading}
use Rattle.command_letters.specs.declared.command.Command.{Command}
use Rattle.command_letters.specs.declared.command.Command.TheVariants.{Clear, Reference, Data, Line, Diagonal, Box, Print, Other}
use Rattle.command_letters.specs.declared.command.DataCommand.{DataCommand}
use Rattle.command_letters.specs.declared.command.DataCommand.TheVariants as command
use Rattle.commands.specs.Line.{params_of, with_data, span_of, quoted_reading, command_reading, lead_of, read_line}
use Rattle.text.proofs.BlankTrimLaws.{trim_trim, trim_start_is, trim_end_is}
use Rattle.command_letters.specs.Command.{command_of}
use Rattle.commands.proofs.LineLaws.{lead_le}

module _ (k : ℕ) where
  -- x is y with the data of its element k bytes later
  abbrev Later : LineReading → LineReading → Type 0
  Later x y = x ≡ later_reading k y

  later_cond : (q : Bool) (a b x y : LineReading) → Later a b → Later x y → Later (cond q a x) (cond q b y)
  later_cond true a b x y h i = h
  later_cond false a b x y h i = i

  later_yields : (p : Placed) (f g : LabelPosition → LabelElement) → ((at : LabelPosition) → f at ≡ shifted k (g at)) → Later (yields p f) (yields p g)
  later_yields (placing.At at) f g h = ap reading.Element (h at)
  later_yields placing.Outside f g h = refl

  -- `A`
  later_text : (f : TextFields) (d : DataSpan) (p : Placed) (i : Scaled) → Later (text_of f (later k d) p i) (text_of f d p i)
  later_text f d (placing.At at) (scaled.Font i) = refl
  later_text f d (placing.At at) scaled.Outside = refl
  later_text f d placing.Outside i = refl

  text_later : (s : List ℕ) (d : DataSpan) (r : LabelPosition) → Later (text_reading s (later k d) r) (text_reading s d r)
  unfolding text_reading text_element
  text_later s d r =
      let f = text_fields s in
      later_cond (ltb (length (fields s)) 7) _ _ _ _ refl
      (later_text f d (placed f.at.x f.at.y r) (font_of f.scale.font f.scale.horizontal f.scale.vertical f.rotation))

  -- `B`
  later_barcode : (y : Symbology) (b : Barcode) → Later (barcode_element y (record { orientation = b.orientation; bars = b.bars; position = b.position; «data» = later k b.«data» })) (barcode_element y b)
  unfolding code128 interleaved code39 ean13 ean8 upc_a upc_e
  later_barcode (Code128 m) b = refl
  later_barcode (Interleaved c) b = refl
  later_barcode (Code39 c) b = refl
  later_barcode Ean13 b = refl
  later_barcode Ean8 b = refl
  later_barcode UpcA b = refl
  later_barcode UpcE b = refl
  later_barcode Unlisted b = refl

  later_placed : (f : BarcodeFields) (d : DataSpan) (p : Placed) → Later (barcode_placed f (later k d) p) (barcode_placed f d p)
  later_placed f d (placing.At at) = later_barcode f.symbology _
  later_placed f d placing.Outside = refl

  barcode_later : (s : List ℕ) (d : DataSpan) (r : LabelPosition) → Later (barcode_reading s (later k d) r) (barcode_reading s d r)
  unfolding barcode_reading barcode_at
  barcode_later s d r =
      let f = barcode_fields s in
      later_cond (ltb (length (fields s)) 8) _ _ _ _ refl
      (later_cond (is_listed f.symbology) _ _ _ _ (later_placed f d (placed f.at.x f.at.y r)) refl)

  -- `b`
  later_2d : (y : Symbology2d) (s t : List ℕ) (p : Placed) (d : DataSpan) → Later (barcode2d_at y s t p (later k d)) (barcode2d_at y s t p d)
  unfolding aztec_reading datamatrix_reading maxicode_reading pdf417_reading qr_reading
  later_2d two.Aztec s t p d = later_yields p _ _ (λ at. refl)
  later_2d two.Datamatrix s t p d = later_yields p _ _ (λ at. refl)
  later_2d two.Maxicode s t p d = later_yields p _ _ (λ at. refl)
  later_2d two.Pdf417 s t p d = later_yields p _ _ (λ at. refl)
  later_2d two.Qr s t p d = later_cond (leb (length (decode t)) 9999) _ _ _ _ (later_yields p _ _ (λ at. refl)) refl
  later_2d two.Unlisted s t p d = refl

  barcode_2d_later : (s t : List ℕ) (d : DataSpan) (r : LabelPosition) → Later (barcode2d_reading s t (later k d) r) (barcode2d_reading s t d r)
  unfolding barcode2d_reading
  barcode_2d_later s t d r =
      later_cond (ltb (length (fields s)) 3) _ _ _ _ refl
      (later_2d (symbology_of (trim (field s 2))) (fields_from 3 s) t (placed (field_or (pos 0) (field s 0)) (field_or (pos 0) (field s 1)) r) d)

  data_later : (c : DataCommand) (s t : List ℕ) (d : DataSpan) (r : LabelPosition) → Later (with_data c s t (later k d) r) (with_data c s t d r)
  data_later command.Text s t d r = text_later s d r
  data_later command.Barcode s t d r = barcode_later s d r
  data_later command.Barcode2d s t d r = barcode_2d_later s t d r

  -- what has no data stays as it is
  line_stays : (s : List ℕ) (c : LineColor) (r : LabelPosition) → Later (line_reading s c r) (line_reading s c r)
  unfolding line_reading line_element
  line_stays s c r =
      let f = line_fields s in
      later_cond (ltb (length (fields s)) 4) _ _ _ _ refl (later_yields (placed f.at.x f.at.y r) _ _ (λ at. refl))

  later_diagonal : (t : ℤ) (c : Cornered) → Later (diagonal_of t c) (diagonal_of t c)
  later_diagonal t (cornered.At d) = refl
  later_diagonal t cornered.Outside = refl
  later_diagonal t cornered.SizeOutside = refl

  diagonal_stays : (s : List ℕ) (r : LabelPosition) → Later (diagonal_reading s r) (diagonal_reading s r)
  unfolding diagonal_reading
  diagonal_stays s r = later_cond (ltb (length (fields s)) 5) _ _ _ _ refl (later_diagonal (corners_at s).thickness (drawn_at (corners_at s) r))

  later_box : (t : ℤ) (c : Cornered) → Later (box_of t c) (box_of t c)
  later_box t (cornered.At d) = refl
  later_box t cornered.Outside = refl
  later_box t cornered.SizeOutside = refl

  box_stays : (s : List ℕ) (r : LabelPosition) → Later (box_reading s r) (box_reading s r)
  unfolding box_reading
  box_stays s r = later_cond (ltb (length (fields s)) 5) _ _ _ _ refl (later_box (corners_at s).thickness (drawn_at (corners_at s) r))

  quoted_later : (c : DataCommand) (lead : ℕ) (t : List ℕ) (r : LabelPosition) → Later (quoted_reading c (k + lead) t r) (quoted_reading c lead t r)
  unfolding quoted_reading
  quoted_later c lead t r =
      let start : k + lead + index_of 34 t + 1 ≡ k + (lead + index_of 34 t + 1) = omega arith in
      later_cond (eqb (length (quoted t)) 0) _ _ _ _ refl
      (ap (λ (n : ℕ). with_data c (params_of t) (quoted t) (record { start = n; len = length (quoted t) }) r) start
      ∙ data_later c (params_of t) (quoted t) (span_of lead t) r)

  pub command_later : (c : Command) (lead : ℕ) (t : List ℕ) (r : LabelPosition) → command_reading c (k + lead) t r ≡ later_reading k (command_reading c lead t r)
  command_later Clear lead t r = refl
  command_later Reference lead t r = refl
  command_later (Data c) lead t r = quoted_later c lead t r
  command_later (Line c) lead t r = line_stays (drop 2 t) c r
  command_later Diagonal lead t r = diagonal_stays (drop 2 t) r
  command_later Box lead t r = box_stays (drop 1 t) r
  command_later Print lead t r = refl
  command_later Other lead t r = refl

-- no blanks stand before a line without them
lead_trimmed : (t : List ℕ) → lead_of (trim t) ≡ 0
lead_trimmed t = omega (arith, lead_le (trim t), ap length (trim_trim t))

pub line_later : (t : List ℕ) (r : LabelPosition) → read_line t r ≡ later_reading (lead_of t) (read_line (trim t) r)
unfolding read_line
line_later t r =
    let lead : lead_of t ≡ lead_of t + 0 = omega arith in
    rw (trim_trim t, lead_trimmed t) (ap (λ (n : ℕ). command_reading (command_of (trim t)) n (trim t) r) lead ∙ command_later (lead_of t) (command_of (trim t)) 0 (trim t) r)

-- where a line without its blanks stands in the line
pub record Within (t : List ℕ) : Type 0 where
  pub before : List ℕ
  pub behind : List ℕ
  pub whole : t ≡ before ++ (trim t ++ behind)
  pub place : length before ≡ lead_of t

pub within : (t : List ℕ) → Within t
within t =
    let s = trim_start t in let n = length (trim t) in
    record {
      before = take (lead_of t) t;
      behind = drop n s;
      whole = sym (take-append-drop (lead_of t) t)
          ∙ ap (λ (x : List ℕ). take (lead_of t) t ++ x) (sym (trim_start_is t) ∙ sym (take-append-drop n s) ∙ ap (λ (x : List ℕ). x ++ drop n s) (sym (trim_end_is s)));
      place = length-take-le (lead_of t) t (omega arith);
    }
