-- The sizes and the ratio of every element that a step answers are those of its own fields (`sized`): by the reader
-- that made it, whatever the line says, and then along the walk. Assumes nothing.
use mathlib.Core.Path.{◌≡◌, refl, sym, ap, subst, ◌∙◌}
use mathlib.Core.Bool.{Bool, true, false, cond, true≢false, false≢true}
use mathlib.Core.List.{List}
use Prim.Native.Nat.{ℕ}
use lib.Dec.{eqb, ltb, leb}
use lib.IntN.{ℤ, pos, negsuc, ◌*ℤ◌}
use lib.ListN.{length, drop}
use lib.Signed.{lt_z}
use borrow.Author.Tests.{eqb-true, eq-eqb}
use Rattle.text.specs.Blank.{trim}
use Rattle.text.specs.Fields.{fields, field, quoted}
use Rattle.text.specs.Utf8.{decode}
use Rattle.text.proofs.BoolLaws.{test}
use Rattle.numbers.specs.Int.{in32, eq_z}
use Rattle.numbers.specs.Number.{field_or}
use Rattle.elements.specs.declared.DataSpan.{DataSpan}
use Rattle.elements.specs.declared.FontScale.{FontScale}
use Rattle.elements.specs.declared.LabelElement.{LabelElement}
use Rattle.elements.specs.declared.LabelElement.TheVariants as element
use Rattle.elements.specs.declared.LabelPosition.{LabelPosition}
use Rattle.elements.specs.declared.refusal.Refusal.{Refusal}
use Rattle.elements.specs.declared.refusal.Refusal.TheVariants as refusal
use Rattle.elements.specs.Spans.{shifted}
use Rattle.parameters.specs.declared.position.Placed.{Placed}
use Rattle.parameters.specs.declared.position.Placed.TheVariants as placing
use Rattle.parameters.specs.declared.reading.LineReading.{LineReading}
use Rattle.parameters.specs.declared.reading.LineReading.TheVariants as reading
use Rattle.parameters.specs.FieldValues.{size_or, fields_from}
use Rattle.parameters.specs.Position.{placed, yields}
use Rattle.texts.specs.declared.epl_text.TextFields.{TextFields}
use Rattle.texts.specs.declared.fonts.Scaled.{Scaled}
use Rattle.texts.specs.declared.fonts.Scaled.TheVariants as scaled
use Rattle.texts.specs.Font.{cell_of, font_of}
use Rattle.texts.specs.Text.{text_fields, text_of, text_element, text_reading}
use Rattle.draws.specs.declared.draw.Cornered.{Cornered}
use Rattle.draws.specs.declared.draw.Cornered.TheVariants as cornered
use Rattle.draws.specs.Draw.{line_fields, line_element, line_reading, corners_at, drawn_at, diagonal_of, diagonal_reading, box_of, box_reading}
use Rattle.barcodes.specs.declared.barcode.Barcode.{Barcode}
use Rattle.barcodes.specs.declared.barcode.BarcodeFields.{BarcodeFields}
use Rattle.barcodes.specs.declared.barcode.Symbology.{Symbology}
use Rattle.barcodes.specs.declared.barcode.Symbology.TheVariants.{Code128, Interleaved, Code39, Ean13, Ean8, UpcA, UpcE, Unlisted}
use Rattle.barcodes.specs.Barcode.{is_listed, barcode_fields, code128, interleaved, code39, ean13, ean8, upc_a, upc_e, barcode_element, barcode_placed, barcode_at, barcode_reading}
use Rattle.barcodes_2d.specs.declared.barcode_2d.Symbology2d.{Symbology2d}
use Rattle.barcodes_2d.specs.declared.barcode_2d.Symbology2d.TheVariants as two
use Rattle.barcodes_2d.specs.Barcode2d.{symbology_of, aztec_reading, datamatrix_reading, maxicode_reading, pdf417_reading, qr_reading, barcode2d_at, barcode2d_reading}
use Rattle.command_letters.specs.declared.command.Command.{Command}
use Rattle.command_letters.specs.declared.command.Command.TheVariants.{Clear, Reference, Data, Line, Diagonal, Box, Print, Other}
use Rattle.command_letters.specs.declared.command.DataCommand.{DataCommand}
use Rattle.command_letters.specs.declared.command.DataCommand.TheVariants as command
use Rattle.command_letters.specs.Command.{command_of}
use Rattle.commands.specs.Line.{params_of, with_data, span_of, quoted_reading, command_reading, lead_of, read_line}
use Rattle.walk_theory.specs.Language.{yield}
use Rattle.walk_theory.specs.Step.{State, step}
use Rattle.walk_theory.specs.Step as theory
use Rattle.walk_theory.proofs.TraceLaws.{Paid, paid_step}
use Rattle.grammar.specs.Units.{EplUnit, block, line, last, number}
use Rattle.grammar.specs.Epl.{epl, acts, block_says}
use Rattle.grammar.proofs.EplLaws.{act_yields}
use Rattle.grammar.proofs.FoundLaws.{reads}
use Rattle.laddertick.specs.Sized.{SizedText, Least, Sized}

-- ---- numbers
eq_true : (a b : ℤ) → eq_z a b ≡ true → a ≡ b
eq_true (pos a) (pos b) h = ap pos (eqb-true a b h)
eq_true (pos a) (negsuc b) h = absurd (false≢true h)
eq_true (negsuc a) (pos b) h = absurd (false≢true h)
eq_true (negsuc a) (negsuc b) h = ap negsuc (eqb-true a b h)

eq_same : (a : ℤ) → eq_z a a ≡ true
eq_same (pos a) = eq-eqb a a refl
eq_same (negsuc a) = eq-eqb a a refl

-- what is not below 1, or 1
least_size : (d : ℤ) (f : List ℕ) → Least (size_or d f)
unfolding size_or
least_size d f = test (lt_z (field_or d f) (pos 1)) (λ e. simp e) (λ e. simp e)

-- ---- a reading
-- of what a line says: its element is so
abbrev SizedBy : LineReading → Type 0
SizedBy (reading.Element e) = Sized e
SizedBy reading.Passed = Unit
SizedBy reading.Clear = Unit
SizedBy (reading.Reference x y) = Unit
SizedBy (reading.Print m n) = Unit
SizedBy (reading.Refused n) = Unit

-- too few fields, or what is read
sized_cond : (b : Bool) (n : Refusal) (x : LineReading) → SizedBy x → SizedBy (cond b (reading.Refused n) x)
sized_cond true n x h = tt
sized_cond false n x h = h

sized_yields : (p : Placed) (f : LabelPosition → LabelElement) → ((at : LabelPosition) → Sized (f at)) → SizedBy (yields p f)
sized_yields (placing.At at) f h = h at
sized_yields placing.Outside f h = tt

-- ---- `A`
abbrev SizedAs : FontScale → Scaled → Type 0
SizedAs s (scaled.Font i) = SizedText s i
SizedAs s scaled.Outside = Unit

sized_font : (s : FontScale) (r : ℤ) → SizedAs s (font_of s.font s.horizontal s.vertical r)
unfolding font_of
sized_font s r =
    let h = s.horizontal in let v = s.vertical in
    test (in32 ((cell_of s.font).height *ℤ v))
    (λ p. test (eq_z h v)
    (λ q. simp (p, q) (record { height = refl; equal = λ e. refl; unequal = λ n. absurd (n (eq_true h v q)) }))
    (λ q. test (in32 (h *ℤ (cell_of s.font).width))
    (λ w. simp (p, q, w) (record { height = refl; equal = λ e. absurd (true≢false (sym (eq_same h) ∙ ap (eq_z h) e ∙ q)); unequal = λ n. refl }))
    (λ w. simp (p, q, w) tt)))
    (λ p. simp p tt)

sized_text : (f : TextFields) (d : DataSpan) (p : Placed) (i : Scaled) → SizedAs f.scale i → Least f.scale.horizontal → Least f.scale.vertical → SizedBy (text_of f d p i)
sized_text f d (placing.At at) (scaled.Font i) k h v = (k, h, v)
sized_text f d (placing.At at) scaled.Outside k h v = tt
sized_text f d placing.Outside i k h v = tt

sized_a : (s : List ℕ) (d : DataSpan) (r : LabelPosition) → SizedBy (text_reading s d r)
unfolding text_reading text_element text_fields
sized_a s d r =
    let f = text_fields s in
    sized_cond (ltb (length (fields s)) 7) refusal.TextFields _
    (sized_text f d (placed f.at.x f.at.y r) (font_of f.scale.font f.scale.horizontal f.scale.vertical f.rotation)
    (sized_font f.scale f.rotation) (least_size (pos 1) (field s 4)) (least_size (pos 1) (field s 5)))

-- ---- `B`
sized_bars : (y : Symbology) (b : Barcode) → Least b.bars.narrow → SizedBy (barcode_element y b)
unfolding code128 interleaved code39 ean13 ean8 upc_a upc_e
sized_bars (Code128 m) b h = tt
sized_bars (Interleaved c) b h = (refl, h)
sized_bars (Code39 c) b h = (refl, h)
sized_bars Ean13 b h = tt
sized_bars Ean8 b h = tt
sized_bars UpcA b h = tt
sized_bars UpcE b h = tt
sized_bars Unlisted b h = tt

sized_placed : (f : BarcodeFields) (d : DataSpan) (p : Placed) → Least f.bars.narrow → SizedBy (barcode_placed f d p)
sized_placed f d (placing.At at) h = sized_bars f.symbology _ h
sized_placed f d placing.Outside h = tt

sized_listed : (l : Bool) (x : LineReading) → SizedBy x → SizedBy (cond l x (reading.Refused refusal.BarcodeType))
sized_listed true x h = h
sized_listed false x h = tt

sized_b : (s : List ℕ) (d : DataSpan) (r : LabelPosition) → SizedBy (barcode_reading s d r)
unfolding barcode_reading barcode_at barcode_fields
sized_b s d r =
    let f = barcode_fields s in
    sized_cond (ltb (length (fields s)) 8) refusal.BarcodeFields _
    (sized_listed (is_listed f.symbology) _ (sized_placed f d (placed f.at.x f.at.y r) (least_size (pos 1) (field s 4))))

-- ---- `b`
sized_qr : (b : Bool) (x : LineReading) → SizedBy x → SizedBy (cond b x (reading.Refused refusal.QrData))
sized_qr true x h = h
sized_qr false x h = tt

sized_symbol : (k : Symbology2d) (s t : List ℕ) (p : Placed) (d : DataSpan) → SizedBy (barcode2d_at k s t p d)
unfolding aztec_reading datamatrix_reading maxicode_reading pdf417_reading qr_reading
sized_symbol two.Aztec s t p d = sized_yields p _ (λ at. tt)
sized_symbol two.Datamatrix s t p d = sized_yields p _ (λ at. tt)
sized_symbol two.Maxicode s t p d = sized_yields p _ (λ at. tt)
sized_symbol two.Pdf417 s t p d = sized_yields p _ (λ at. tt)
sized_symbol two.Qr s t p d = sized_qr (leb (length (decode t)) 9999) _ (sized_yields p _ (λ at. tt))
sized_symbol two.Unlisted s t p d = tt

sized_2d : (s t : List ℕ) (d : DataSpan) (r : LabelPosition) → SizedBy (barcode2d_reading s t d r)
unfolding barcode2d_reading
sized_2d s t d r =
    sized_cond (ltb (length (fields s)) 3) refusal.Barcode2dFields _
    (sized_symbol (symbology_of (trim (field s 2))) (fields_from 3 s) t (placed (field_or (pos 0) (field s 0)) (field_or (pos 0) (field s 1)) r) d)

sized_data : (c : DataCommand) (s t : List ℕ) (d : DataSpan) (r : LabelPosition) → SizedBy (with_data c s t d r)
sized_data command.Text s t d r = sized_a s d r
sized_data command.Barcode s t d r = sized_b s d r
sized_data command.Barcode2d s t d r = sized_2d s t d r

-- ---- a line, a unit
sized_drawn : (t : ℤ) (c : Cornered) → SizedBy (diagonal_of t c) × SizedBy (box_of t c)
sized_drawn t (cornered.At d) = (tt, tt)
sized_drawn t cornered.Outside = (tt, tt)
sized_drawn t cornered.SizeOutside = (tt, tt)

sized_command : (c : Command) (lead : ℕ) (t : List ℕ) (r : LabelPosition) → SizedBy (command_reading c lead t r)
unfolding quoted_reading line_reading line_element diagonal_reading box_reading
sized_command Clear lead t r = tt
sized_command Reference lead t r = tt
sized_command (Data c) lead t r =
    test (eqb (length (quoted t)) 0) (λ e. simp e tt) (λ e. simp e (sized_data c (params_of t) (quoted t) (span_of lead t) r))
sized_command (Line c) lead t r =
    let f = line_fields (drop 2 t) in
    sized_cond (ltb (length (fields (drop 2 t))) 4) refusal.LineFields _ (sized_yields (placed f.at.x f.at.y r) _ (λ at. tt))
sized_command Diagonal lead t r =
    let c = corners_at (drop 2 t) in sized_cond (ltb (length (fields (drop 2 t))) 5) refusal.DiagonalFields _ (sized_drawn c.thickness (drawn_at c r)).0
sized_command Box lead t r =
    let c = corners_at (drop 1 t) in sized_cond (ltb (length (fields (drop 1 t))) 5) refusal.BoxFields _ (sized_drawn c.thickness (drawn_at c r)).1
sized_command Print lead t r = tt
sized_command Other lead t r = tt

sized_line : (t : List ℕ) (r : LabelPosition) → SizedBy (read_line t r)
unfolding read_line
sized_line t r = sized_command (command_of (trim t)) (lead_of t) (trim t) r

-- wherever its data stands
sized_shifted : (n : ℕ) (e : LabelElement) → Sized e → Sized (shifted n e)
sized_shifted n (element.Text e) h = h
sized_shifted n (element.Barcode2of5 e) h = h
sized_shifted n (element.Barcode39 e) h = h
sized_shifted n (element.GraphicBox e) h = h
sized_shifted n (element.DiagonalLine e) h = h
sized_shifted n (element.GraphicField e) h = h
sized_shifted n (element.Barcode128 e) h = h
sized_shifted n (element.BarcodeEan13 e) h = h
sized_shifted n (element.BarcodeEan8 e) h = h
sized_shifted n (element.BarcodeUca e) h = h
sized_shifted n (element.BarcodePdf417 e) h = h
sized_shifted n (element.BarcodeAztec e) h = h
sized_shifted n (element.BarcodeDatamatrix e) h = h
sized_shifted n (element.BarcodeQr e) h = h
sized_shifted n (element.Maxicode e) h = h
sized_shifted n (element.BarcodeUcpe e) h = h

sized_unit : (r : LabelPosition) (u : EplUnit) (e : LabelElement) (at : ℕ) → acts r u ≡ yield e → Sized (shifted at e)
sized_unit r (block bs h p) e at q =
    sized_shifted at e (subst SizedBy (act_yields r (block_says bs h p r) e q) (sized_yields (placed (number h.x) (number h.y) r) _ (λ x. tt)))
sized_unit r (line t) e at q = sized_shifted at e (subst SizedBy (act_yields r (read_line t r) e q) (sized_line t r))
sized_unit r (last t) e at q = sized_shifted at e (subst SizedBy (act_yields r (read_line t r) e q) (sized_line t r))

-- ---- a step
pub sized : (s : List ℕ) (st st' : State LabelPosition) (e : LabelElement) → step epl s st ≡ theory.element e st' → Sized e
sized s st st' e h =
    (subst (Paid epl reads (λ k x. Sized x) sized_unit st.place) h (paid_step epl reads (λ k x. Sized x) sized_unit s st)).2
