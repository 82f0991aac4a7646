-- What a unit yields is of its command's kind, and stands where its sums with the reference say (`shape`). Assumes
-- nothing.
use mathlib.Core.Path.{◌≡◌, refl, ap, subst, ◌∙◌}
use mathlib.Core.Bool.{Bool, true, false, cond, ◌&&◌}
use mathlib.Core.List.{List, [], ◌∷◌}
use Prim.Native.Nat.{ℕ}
use lib.Dec.{eqb, leb, ltb}
use lib.IntN.{ℤ, ◌+ℤ◌, ◌-ℤ◌}
use lib.ListN.{length, drop}
use Rattle.text.specs.Blank.{trim}
use Rattle.text.specs.Fields.{fields, field, quoted, same}
use Rattle.text.specs.Table.{Row, row, meaning}
use Rattle.text.specs.Utf8.{decode}
use Rattle.text.proofs.BoolLaws.{test, and_both}
use Rattle.numbers.specs.Int.{in32, min_z, abs_z}
use Rattle.elements.specs.declared.DataSpan.{DataSpan}
use Rattle.elements.specs.declared.FontInfo.{FontInfo}
use Rattle.elements.specs.declared.LabelElement.{LabelElement}
use Rattle.elements.specs.declared.LabelElement.TheVariants as element
use Rattle.elements.specs.declared.LabelPosition.{LabelPosition}
use Rattle.elements.specs.declared.LineColor.{LineColor}
use Rattle.elements.specs.declared.refusal.Refusal.{Refusal}
use Rattle.elements.specs.declared.refusal.Refusal.TheVariants as refusal
use Rattle.parameters.specs.declared.reading.LineReading.{LineReading}
use Rattle.parameters.specs.declared.reading.LineReading.TheVariants as reading
use Rattle.parameters.specs.declared.position.Placed.{Placed}
use Rattle.parameters.specs.declared.position.Placed.TheVariants as placing
use Rattle.parameters.specs.FieldValues.{point_of, fields_from}
use Rattle.parameters.specs.Position.{placed}
use Rattle.parameters.specs.Position as position
use Rattle.texts.specs.declared.epl_text.TextFields.{TextFields}
use Rattle.texts.specs.declared.fonts.Scaled.{Scaled}
use Rattle.texts.specs.declared.fonts.Scaled.TheVariants as scaled
use Rattle.texts.specs.Font.{font_of}
use Rattle.texts.specs.Text.{text_fields, text_of, text_element, text_reading}
use Rattle.draws.specs.declared.draw.Corners.{Corners}
use Rattle.draws.specs.declared.draw.Cornered.{Cornered}
use Rattle.draws.specs.declared.draw.Cornered.TheVariants as cornered
use Rattle.draws.specs.Draw.{line_fields, line_element, line_reading, corners_at, sized_at, drawn_at, diagonal_of, diagonal_reading, box_of, box_reading}
use Rattle.barcodes.specs.declared.barcode.Barcode.{Barcode}
use Rattle.barcodes.specs.declared.barcode.BarcodeFields.{BarcodeFields}
use Rattle.barcodes.specs.Barcode as bars
use Rattle.barcodes.specs.declared.barcode.Symbology.{Symbology}
use Rattle.barcodes.specs.declared.barcode.Symbology.TheVariants.{Code128, Interleaved, Code39, Ean13, Ean8, UpcA, UpcE, Unlisted}
use Rattle.barcodes.specs.Barcode.{is_listed, barcode_fields, code128, interleaved, code39, ean13, ean8, upc_a, upc_e, barcode_element, barcode_placed, barcode_at, barcode_reading}
use Rattle.barcodes.proofs.BarcodeLaws.{listed_is}
use Rattle.barcodes_2d.specs.declared.barcode_2d.Symbology2d.{Symbology2d}
use Rattle.barcodes_2d.specs.declared.barcode_2d.Symbology2d.TheVariants as two
use Rattle.barcodes_2d.specs.Barcode2d.{symbologies2d, symbology_of, aztec_reading, datamatrix_reading, maxicode_reading, pdf417_reading, qr_reading, barcode2d_at, barcode2d_reading}
use Rattle.command_letters.specs.declared.command.Command.{Command}
use Rattle.command_letters.specs.declared.command.Command.TheVariants.{Clear, Reference, Data, Line, Diagonal, Box, Print, Other}
use Rattle.command_letters.specs.declared.command.DataCommand.{DataCommand}
use Rattle.command_letters.specs.declared.command.DataCommand.TheVariants as command
use Rattle.command_letters.specs.Command.{command_of}
use Rattle.commands.specs.Line.{params_of, with_data, span_of, quoted_reading, command_reading, lead_of, read_line}
use Rattle.walk_theory.specs.Language.{yield}
use Rattle.grammar.specs.Units.{EplUnit, block, line, last, number, Stands}
use Rattle.grammar.specs.WellFormed.{data_counted, data_typed, data_sized, well_formed_as, well_formed}
use Rattle.grammar.specs.Epl.{act_of, block_says, acts}
use Rattle.grammar.specs.Ranges.{sums, corner_sums, sums_as, sums_of}
use Rattle.grammar.specs.Shapes.{kind_of, place_of, bar_kinds, matrix_kinds, data_kind, kind_as, kind_by, Shape}
use Rattle.grammar.proofs.LineFaultsLaws.{faultless}
use Rattle.grammar.proofs.EplLaws.{act_yields}

-- an element, if it is one, of the kind k that stands at zs
abbrev Shaped : ℕ → List ℤ → LineReading → Type 0
Shaped k zs reading.Passed = Unit
Shaped k zs reading.Clear = Unit
Shaped k zs (reading.Reference x y) = Unit
Shaped k zs (reading.Element e) = (kind_of e ≡ k) × ((place_of e).x ∷ (place_of e).y ∷ [] ≡ zs)
Shaped k zs (reading.Print m n) = Unit
Shaped k zs (reading.Refused n) = Unit

shaped_cond : (b : Bool) (n : Refusal) (k : ℕ) (zs : List ℤ) (x : LineReading) → Shaped k zs x → Shaped k zs (cond b (reading.Refused n) x)
shaped_cond true n k zs x h = tt
shaped_cond false n k zs x h = h

shaped_yields : (k : ℕ) (x y : ℤ) (r : LabelPosition) (f : LabelPosition → LabelElement)
    → ((at : LabelPosition) → (kind_of (f at) ≡ k) × (place_of (f at) ≡ at)) → Shaped k (sums x y r) (position.yields (placed x y r) f)
unfolding placed
shaped_yields k x y r f h =
    let a = x +ℤ r.x in let b = y +ℤ r.y in
    let at : LabelPosition = record { x = a; y = b } in
    test (in32 a)
    (λ p. test (in32 b)
    (λ q. simp (p, q) ((h at).0, ap (λ (w : LabelPosition). w.x ∷ w.y ∷ []) (h at).1))
    (λ q. simp (p, q) tt))
    (λ p. simp p tt)

-- ---- `LO`, `LW`, `LE`, `LS`, `X`
shaped_line : (s : List ℕ) (c : LineColor) (r : LabelPosition) → Shaped 0x02 (sums (number (field s 0)) (number (field s 1)) r) (line_reading s c r)
unfolding line_reading line_element line_fields point_of
shaped_line s c r =
    let x = number (field s 0) in let y = number (field s 1) in
    shaped_cond (ltb (length (fields s)) 4) refusal.LineFields 0x02 (sums x y r) _ (shaped_yields 0x02 x y r _ (λ at. (refl, refl)))

abbrev CorneredAt : List ℤ → Cornered → Type 0
CorneredAt zs (cornered.At d) = d.position.x ∷ d.position.y ∷ [] ≡ zs
CorneredAt zs cornered.Outside = Unit
CorneredAt zs cornered.SizeOutside = Unit

sized_at_lem : (c : Corners) (p : LabelPosition) → CorneredAt (p.x ∷ p.y ∷ []) (sized_at c p)
unfolding sized_at
sized_at_lem c p =
    let x = c.second.x -ℤ c.first.x in let y = c.second.y -ℤ c.first.y in
    test (in32 x)
    (λ a. test (in32 (abs_z x))
    (λ b. test (in32 y)
    (λ e. test (in32 (abs_z y))
    (λ f. simp (a, b, e, f) refl)
    (λ f. simp (a, b, e, f) tt))
    (λ e. simp (a, b, e) tt))
    (λ b. simp (a, b) tt))
    (λ a. simp a tt)

cornered_at : (c : Corners) (r : LabelPosition) → CorneredAt (sums (min_z c.first.x c.second.x) (min_z c.first.y c.second.y) r) (drawn_at c r)
unfolding drawn_at placed
cornered_at c r =
    let u = min_z c.first.x c.second.x +ℤ r.x in let v = min_z c.first.y c.second.y +ℤ r.y in
    test (in32 u)
    (λ g. test (in32 v)
    (λ h. simp (g, h) (sized_at_lem c (record { x = u; y = v })))
    (λ h. simp (g, h) tt))
    (λ g. simp g tt)

shaped_diagonal : (zs : List ℤ) (t : ℤ) (c : Cornered) → CorneredAt zs c → Shaped 0x03 zs (diagonal_of t c)
shaped_diagonal zs t (cornered.At d) h = (refl, h)
shaped_diagonal zs t cornered.Outside h = tt
shaped_diagonal zs t cornered.SizeOutside h = tt

shaped_box : (zs : List ℤ) (t : ℤ) (c : Cornered) → CorneredAt zs c → Shaped 0x02 zs (box_of t c)
shaped_box zs t (cornered.At d) h = (refl, h)
shaped_box zs t cornered.Outside h = tt
shaped_box zs t cornered.SizeOutside h = tt

shaped_ls : (s : List ℕ) (r : LabelPosition) → Shaped 0x03 (corner_sums s r) (diagonal_reading s r)
unfolding diagonal_reading corners_at point_of
shaped_ls s r =
    shaped_cond (ltb (length (fields s)) 5) refusal.DiagonalFields 0x03 (corner_sums s r) _ (shaped_diagonal (corner_sums s r) (corners_at s).thickness (drawn_at (corners_at s) r) (cornered_at (corners_at s) r))

shaped_x : (s : List ℕ) (r : LabelPosition) → Shaped 0x02 (corner_sums s r) (box_reading s r)
unfolding box_reading corners_at point_of
shaped_x s r =
    shaped_cond (ltb (length (fields s)) 5) refusal.BoxFields 0x02 (corner_sums s r) _ (shaped_box (corner_sums s r) (corners_at s).thickness (drawn_at (corners_at s) r) (cornered_at (corners_at s) r))

-- ---- `A`
text_none : (zs : List ℤ) (f : TextFields) (d : DataSpan) (p : Placed) → Shaped 0x01 zs (text_of f d p scaled.Outside)
text_none zs f d (placing.At at) = tt
text_none zs f d placing.Outside = tt

text_is : (f : TextFields) (d : DataSpan) (i : FontInfo) (p : Placed) → text_of f d p (scaled.Font i) ≡ position.yields p (λ at. element.Text (record { position = at; reverse_print = f.reverse; scale = f.scale; font = i; text = d }))
text_is f d i (placing.At at) = refl
text_is f d i placing.Outside = refl

shaped_text : (x y : ℤ) (r : LabelPosition) (f : TextFields) (d : DataSpan) (i : Scaled) → Shaped 0x01 (sums x y r) (text_of f d (placed x y r) i)
shaped_text x y r f d (scaled.Font i) = rw (text_is f d i (placed x y r)) (shaped_yields 0x01 x y r _ (λ at. (refl, refl)))
shaped_text x y r f d scaled.Outside = text_none (sums x y r) f d (placed x y r)

shaped_a : (s : List ℕ) (d : DataSpan) (r : LabelPosition) → Shaped 0x01 (sums (number (field s 0)) (number (field s 1)) r) (text_reading s d r)
unfolding text_reading text_element text_fields point_of
shaped_a s d r =
    let f = text_fields s in
    shaped_cond (ltb (length (fields s)) 7) refusal.TextFields 0x01 (sums (number (field s 0)) (number (field s 1)) r) _
    (shaped_text (number (field s 0)) (number (field s 1)) r f d (font_of f.scale.font f.scale.horizontal f.scale.vertical f.rotation))

-- ---- kinds by the readers' tables
abbrev kinds_by : {A : Type 0} → (A → ℕ) → List (Row A) → List (Row ℕ)
kinds_by g [] = []
kinds_by g (r ∷ rs) = row r.text (g r.means) ∷ kinds_by g rs

kind_means : {A : Type 0} (g : A → ℕ) (o : A) (rs : List (Row A)) (t : List ℕ) → g (meaning o rs t) ≡ meaning (g o) (kinds_by g rs) t
kind_means g o [] t = refl
kind_means g o (r ∷ rs) t = test (same t r.text) (λ e. simp e) (λ e. simp (e, kind_means g o rs t))

abbrev bar_kind : Symbology → ℕ
bar_kind (Code128 m) = 0x05
bar_kind Ean13 = 0x06
bar_kind Ean8 = 0x07
bar_kind UpcA = 0x08
bar_kind (Interleaved c) = 0x09
bar_kind (Code39 c) = 0x0a
bar_kind UpcE = 0x10
bar_kind Unlisted = 0

abbrev matrix_kind : Symbology2d → ℕ
matrix_kind two.Pdf417 = 0x0b
matrix_kind two.Aztec = 0x0c
matrix_kind two.Datamatrix = 0x0d
matrix_kind two.Qr = 0x0e
matrix_kind two.Maxicode = 0x0f
matrix_kind two.Unlisted = 0

bar_kind_is : (f : List ℕ) → bar_kind (bars.symbology_of f) ≡ meaning 0 bar_kinds f
unfolding bars.symbology_of
bar_kind_is f = kind_means bar_kind Unlisted bars.symbologies f

matrix_kind_is : (f : List ℕ) → matrix_kind (symbology_of f) ≡ meaning 0 matrix_kinds f
unfolding symbology_of
matrix_kind_is f = kind_means matrix_kind two.Unlisted symbologies2d f

-- ---- `B`, by its type
bar_kind_lem : (y : Symbology) (b : Barcode) → Shaped (bar_kind y) (b.position.x ∷ b.position.y ∷ []) (barcode_element y b)
unfolding code128 interleaved code39 ean13 ean8 upc_a upc_e
bar_kind_lem (Code128 m) b = (refl, refl)
bar_kind_lem (Interleaved c) b = (refl, refl)
bar_kind_lem (Code39 c) b = (refl, refl)
bar_kind_lem Ean13 b = (refl, refl)
bar_kind_lem Ean8 b = (refl, refl)
bar_kind_lem UpcA b = (refl, refl)
bar_kind_lem UpcE b = (refl, refl)
bar_kind_lem Unlisted b = tt

shaped_bars : (f : BarcodeFields) (x y : ℤ) (r : LabelPosition) (d : DataSpan) → Shaped (bar_kind f.symbology) (sums x y r) (barcode_placed f d (placed x y r))
unfolding placed
shaped_bars f x y r d =
    let a = x +ℤ r.x in let b = y +ℤ r.y in
    test (in32 a)
    (λ p. test (in32 b)
    (λ q. simp (p, q) (bar_kind_lem f.symbology _))
    (λ q. simp (p, q) tt))
    (λ p. simp p tt)

shaped_b : (s : List ℕ) (d : DataSpan) (r : LabelPosition) → data_typed command.Barcode s ≡ true → Shaped (data_kind command.Barcode s) (sums (number (field s 0)) (number (field s 1)) r) (barcode_reading s d r)
unfolding barcode_reading barcode_at barcode_fields point_of
shaped_b s d r t =
    let x = number (field s 0) in let y = number (field s 1) in
    let l : is_listed (bars.symbology_of (trim (field s 3))) ≡ true = listed_is (trim (field s 3)) ∙ t in
    subst (λ (k : ℕ). Shaped k (sums x y r) (barcode_reading s d r)) (bar_kind_is (trim (field s 3)))
    (shaped_cond (ltb (length (fields s)) 8) refusal.BarcodeFields (bar_kind (bars.symbology_of (trim (field s 3)))) (sums x y r) _
    (rw l (shaped_bars (barcode_fields s) x y r d)))

-- ---- `b`, by its type
shaped_qr : (b : Bool) (zs : List ℤ) (x : LineReading) → Shaped 0x0e zs x → Shaped 0x0e zs (cond b x (reading.Refused refusal.QrData))
shaped_qr true zs x h = h
shaped_qr false zs x h = tt

matrix_kind_lem : (k : Symbology2d) (s t : List ℕ) (x y : ℤ) (r : LabelPosition) (d : DataSpan) → Shaped (matrix_kind k) (sums x y r) (barcode2d_at k s t (placed x y r) d)
unfolding aztec_reading datamatrix_reading maxicode_reading pdf417_reading qr_reading
matrix_kind_lem two.Aztec s t x y r d = shaped_yields 0x0c x y r _ (λ at. (refl, refl))
matrix_kind_lem two.Datamatrix s t x y r d = shaped_yields 0x0d x y r _ (λ at. (refl, refl))
matrix_kind_lem two.Maxicode s t x y r d = shaped_yields 0x0f x y r _ (λ at. (refl, refl))
matrix_kind_lem two.Pdf417 s t x y r d = shaped_yields 0x0b x y r _ (λ at. (refl, refl))
matrix_kind_lem two.Qr s t x y r d = shaped_qr (leb (length (decode t)) 9999) (sums x y r) _ (shaped_yields 0x0e x y r _ (λ at. (refl, refl)))
matrix_kind_lem two.Unlisted s t x y r d = tt

shaped_2d : (s t : List ℕ) (d : DataSpan) (r : LabelPosition) → Shaped (data_kind command.Barcode2d s) (sums (number (field s 0)) (number (field s 1)) r) (barcode2d_reading s t d r)
unfolding barcode2d_reading
shaped_2d s t d r =
    let x = number (field s 0) in let y = number (field s 1) in
    subst (λ (k : ℕ). Shaped k (sums x y r) (barcode2d_reading s t d r)) (matrix_kind_is (trim (field s 2)))
    (shaped_cond (ltb (length (fields s)) 3) refusal.Barcode2dFields (matrix_kind (symbology_of (trim (field s 2)))) (sums x y r) _
    (matrix_kind_lem (symbology_of (trim (field s 2))) (fields_from 3 s) t x y r d))

shaped_data : (c : DataCommand) (s t : List ℕ) (d : DataSpan) (r : LabelPosition) → data_typed c s ≡ true → Shaped (data_kind c s) (sums (number (field s 0)) (number (field s 1)) r) (with_data c s t d r)
shaped_data command.Text s t d r l = shaped_a s d r
shaped_data command.Barcode s t d r l = shaped_b s d r l
shaped_data command.Barcode2d s t d r l = shaped_2d s t d r

-- ---- a line, a unit
shaped_command : (c : Command) (lead : ℕ) (t : List ℕ) (r : LabelPosition) → well_formed_as c t ≡ true → Shaped (kind_as c t) (sums_as c t r) (command_reading c lead t r)
unfolding quoted_reading
shaped_command Clear lead t r w = tt
shaped_command Reference lead t r w = tt
shaped_command (Data c) lead t r w =
    test (eqb (length (quoted t)) 0)
    (λ e. simp e tt)
    (λ e.
    let s = params_of t in
    let k = and_both (data_counted c s && data_typed c s) (data_sized c s (quoted t)) (simp e at w) in
    simp e (shaped_data c s (quoted t) (span_of lead t) r (and_both (data_counted c s) (data_typed c s) k.0).1))
shaped_command (Line c) lead t r w = shaped_line (drop 2 t) c r
shaped_command Diagonal lead t r w = shaped_ls (drop 2 t) r
shaped_command Box lead t r w = shaped_x (drop 1 t) r
shaped_command Print lead t r w = tt
shaped_command Other lead t r w = tt

shape_by : (r : LabelPosition) (u : EplUnit) (x : LineReading) (e : LabelElement) → Shaped (kind_by u) (sums_of r u) x → act_of r x ≡ yield e → Shape r u e
shape_by r u x e h a = let k = subst (Shaped (kind_by u) (sums_of r u)) (act_yields r x e a) h in record { kind = k.0; place = k.1 }

shape_line : (r : LabelPosition) (t : List ℕ) → well_formed (trim t) ≡ true → Shaped (kind_by (line t)) (sums_of r (line t)) (read_line t r)
unfolding well_formed read_line
shape_line r t w = shaped_command (command_of (trim t)) (lead_of t) (trim t) r w

pub shape : (r : LabelPosition) (u : EplUnit) (rest : List ℕ) (e : LabelElement) → Stands u rest → acts r u ≡ yield e → Shape r u e
shape r (block bs h p) rest e st a = shape_by r (block bs h p) (block_says bs h p r) e (shaped_yields 0x04 (number h.x) (number h.y) r _ (λ at. (refl, refl))) a
shape r (line t) rest e st a = shape_by r (line t) (read_line t r) e (shape_line r t (faultless (trim t) st.is_well_formed)) a
shape r (last t) rest e st a = shape_by r (last t) (read_line t r) e (shape_line r t (faultless (trim t) st.0.is_well_formed)) a
