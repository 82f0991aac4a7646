-- A template filled from an element that is writable is its command. Assumes nothing.
use mathlib.Core.Path.{◌≡◌, refl, sym, ◌∙◌}
use mathlib.Core.Bool.{Bool, true, false, ◌&&◌, ◌||◌, true≢false}
use mathlib.Core.List.{List, [], ◌∷◌, ◌++◌, append_assoc}
use Prim.Native.Nat.{ℕ, ◌+◌, ◌<◌, ◌≤◌}
use native.Mathlib.Omega.{arith}
use lib.IntN.{ℤ, pos, negsuc, nat_abs, ◌+ℤ◌}
use lib.ListN.{length}
use lib.Signed.{le_z}
use Rattle.text.proofs.BoolLaws.{test, and_both}
use Rattle.elements.specs.declared.BarcodeMode.{BarcodeMode}
use Rattle.elements.specs.declared.BarcodeMode.TheVariants.{Ucc, Automatic, Ean}
use Rattle.elements.specs.declared.FieldOrientation.{FieldOrientation}
use Rattle.elements.specs.declared.FieldOrientation.TheVariants.{Normal, Rotated90, Rotated180, Rotated270}
use Rattle.elements.specs.declared.LabelElement.{LabelElement}
use Rattle.elements.specs.declared.LabelElement.TheVariants as element
use Rattle.elements.specs.declared.TextField.{TextField}
use Rattle.elements.specs.declared.Barcode128WithData.{Barcode128WithData}
use Rattle.frame_bytes.specs.Frame.{part}
use Rattle.frame_bytes.specs.Frame as frame
use Rattle.structs.specs.Flat.{flat_element}
use Rattle.decimals.specs.Decimal.{digits, decimal}
use Rattle.spellings.specs.Quoted.{quoted_line, numbers_then}
use Rattle.spellings.specs.Codes.{turns, flagged, text_params, type_of, bar_params}
use Rattle.spellings.specs.Spelled.{spell}
use Rattle.spellings.specs.Writable.{writable}
use Rattle.barcodes.specs.declared.barcode.Symbology.TheVariants.{Code128, Interleaved, Code39}
use lib.Dec.{leb}
use lib.ListN.{length-take, length-drop}
use lib.Signed.{lt_z}
use borrow.Author.Tests.{leb-true, le-ltb, ne_eqb}
use native.Mathlib.Nat.{div-le_self}
use Prim.Native.Nat.{zero, suc, ◌/◌}
use Rattle.numbers.specs.Int.{in32, eq_z}
use Rattle.text.specs.Utf8.{decode}
use Rattle.elements.specs.declared.LabelPosition.{LabelPosition}
use Rattle.elements.specs.declared.LineColor.{LineColor}
use Rattle.elements.specs.declared.LineColor.TheVariants.{Black, White, Xor}
use Rattle.elements.specs.declared.QrErrorCorrectionLevel.{QrErrorCorrectionLevel}
use Rattle.elements.specs.declared.QrErrorCorrectionLevel.TheVariants.{H, Q, M, L}
use Rattle.elements.specs.declared.plain.Extent.{Extent}
use Rattle.elements.specs.declared.GraphicBox.{GraphicBox}
use Rattle.elements.specs.declared.GraphicDiagonalLine.{GraphicDiagonalLine}
use Rattle.elements.specs.declared.GraphicField.{GraphicField}
use Rattle.elements.specs.declared.BarcodeEan13WithData.{BarcodeEan13WithData}
use Rattle.elements.specs.declared.BarcodeEan8WithData.{BarcodeEan8WithData}
use Rattle.elements.specs.declared.BarcodeUcaWithData.{BarcodeUcaWithData}
use Rattle.elements.specs.declared.BarcodeUcpeWithData.{BarcodeUcpeWithData}
use Rattle.elements.specs.declared.Barcode2of5WithData.{Barcode2of5WithData}
use Rattle.elements.specs.declared.Barcode39WithData.{Barcode39WithData}
use Rattle.elements.specs.declared.BarcodeAztecWithData.{BarcodeAztecWithData}
use Rattle.elements.specs.declared.BarcodeDatamatrixWithData.{BarcodeDatamatrixWithData}
use Rattle.elements.specs.declared.BarcodeQrWithData.{BarcodeQrWithData}
use Rattle.elements.specs.declared.MaxicodeWithData.{MaxicodeWithData}
use Rattle.elements.specs.declared.BarcodePdf417WithData.{BarcodePdf417WithData}
use Rattle.elements.specs.Given.{longest}
use Rattle.elements.specs.Plain.{extent}
use Rattle.barcodes_2d.specs.Barcode2d.{between, aztec_size, is_mode}
use Rattle.spellings.specs.Draws.{numbers, is_black, line_letter, is_line, is_cornered, spell_box, fine_box, slopes, spell_diagonal, fine_diagonal}
use Rattle.spellings.specs.Codes2d.{options, params2d, aztec_options, datamatrix_options, maxicode_options, pdf417_options, level_letter, qr_options, fine_aztec, fine_datamatrix, fine_pdf417, fine_qr}
use Rattle.spellings.specs.Spelled.{lines_of, graphic_line}
use Rattle.spellings.specs.Writable.{inside, whole_rows, fine_data}
use Rattle.elements.specs.Plain.{plain_of}
use Rattle.spellings.specs.Spelled.{bytes_in}
use Rattle.spellings.proofs.DrawLaws.{eq_z_true}
use Rattle.spellings.proofs.OptionLaws.{from_one}
use Rattle.spellings.proofs.Code2dLaws.{limited, size_whole, mode_whole, limits}
use Rattle.writing_templates.specs.Fill.{lines, colour_letter}
use Rattle.writing_templates.specs.Fill.{either, turn_letter, mode_first, mode_second, letter_of, fill}
use Rattle.writing_templates.specs.Template.{template, which_of}

turn_is : (o : FieldOrientation) → letter_of (turn_letter (frame.rotation o)) ≡ decimal (turns o)
unfolding decimal digits
turn_is Normal = refl
turn_is Rotated90 = refl
turn_is Rotated180 = refl
turn_is Rotated270 = refl

reverse_is : (f : Bool) → letter_of (either (frame.flag f) 82 78) ≡ flagged f 82 78
reverse_is true = refl
reverse_is false = refl

line_is : (f : Bool) → letter_of (either (frame.flag f) 66 78) ≡ flagged f 66 78
line_is true = refl
line_is false = refl

two_is : decimal (pos 2) ≡ 50 ∷ []
unfolding decimal digits
two_is = refl

truncate_is : (f : Bool) → letter_of (either (frame.flag f) 49 48) ≡ flagged f 49 48
truncate_is true = refl
truncate_is false = refl

colour_is : (c : LineColor) → letter_of (colour_letter (frame.colour c)) ≡ line_letter c ∷ []
colour_is Black = refl
colour_is White = refl
colour_is Xor = refl

level_is : (l : QrErrorCorrectionLevel) → letter_of (frame.level l) ≡ level_letter l ∷ []
level_is H = refl
level_is Q = refl
level_is M = refl
level_is L = refl

mode_is : (m : BarcodeMode) (t : List ℕ) → letter_of (mode_first (pos (frame.mode m))) ++ (letter_of (mode_second (pos (frame.mode m))) ++ t) ≡ type_of (Code128 m) ++ t
mode_is Ucc t = refl
mode_is Automatic t = refl
mode_is Ean t = refl

interleaved_is : (c : Bool) (t : List ℕ) → 50 ∷ (letter_of (either (frame.flag c) 67 0) ++ t) ≡ type_of (Interleaved c) ++ t
interleaved_is true t = refl
interleaved_is false t = refl

code39_is : (c : Bool) (t : List ℕ) → 51 ∷ (letter_of (either (frame.flag c) 67 0) ++ t) ≡ type_of (Code39 c) ++ t
code39_is true t = refl
code39_is false t = refl

whole_is : (z : ℤ) → le_z (pos 0) z ≡ true → decimal z ≡ digits (nat_abs z)
unfolding decimal
whole_is (pos n) h = refl
whole_is (negsuc n) h = absurd (true≢false (sym h))

-- lists one after the other

three : (x y a b c d : List ℕ)
    → 98 ∷ (x ++ 44 ∷ (y ++ 44 ∷ 68 ∷ 44 ∷ 104 ∷ (a ++ 44 ∷ 99 ∷ (b ++ 44 ∷ 114 ∷ (c ++ 44 ∷ 34 ∷ (d ++ 34 ∷ 10 ∷ []))))))
    ≡ (98 ∷ ((x ++ 44 ∷ (y ++ 44 ∷ 68 ∷ 44 ∷ 104 ∷ (a ++ 44 ∷ 99 ∷ (b ++ 44 ∷ 114 ∷ c)))) ++ 44 ∷ 34 ∷ (d ++ 34 ∷ []))) ++ 10 ∷ []
three x y a b c d = simp append_assoc

six : (x y o m h l r t d : List ℕ)
    → 98 ∷ (x ++ 44 ∷ (y ++ 44 ∷ 80 ∷ 44 ∷ 111 ∷ (o ++ 44 ∷ 120 ∷ (m ++ 44 ∷ 121 ∷ (h ++ 44 ∷ 108 ∷ (l ++ 44 ∷ 114 ∷ (r ++ 44 ∷ 116 ∷ (t ++ 44 ∷ 34 ∷ (d ++ 34 ∷ 10 ∷ [])))))))))
    ≡ (98 ∷ ((x ++ 44 ∷ (y ++ 44 ∷ 80 ∷ 44 ∷ 111 ∷ (o ++ 44 ∷ 120 ∷ (m ++ 44 ∷ 121 ∷ (h ++ 44 ∷ 108 ∷ (l ++ 44 ∷ 114 ∷ (r ++ 44 ∷ 116 ∷ t))))))) ++ 44 ∷ 34 ∷ (d ++ 34 ∷ []))) ++ 10 ∷ []
six x y o m h l r t d = simp append_assoc

seven : (x y o m h l r t s d : List ℕ)
    → 98 ∷ (x ++ 44 ∷ (y ++ 44 ∷ 80 ∷ 44 ∷ 111 ∷ (o ++ 44 ∷ 120 ∷ (m ++ 44 ∷ 121 ∷ (h ++ 44 ∷ 108 ∷ (l ++ 44 ∷ 114 ∷ (r ++ 44 ∷ 116 ∷ (t ++ 44 ∷ 115 ∷ (s ++ 44 ∷ 34 ∷ (d ++ 34 ∷ 10 ∷ []))))))))))
    ≡ (98 ∷ ((x ++ 44 ∷ (y ++ 44 ∷ 80 ∷ 44 ∷ 111 ∷ (o ++ 44 ∷ 120 ∷ (m ++ 44 ∷ 121 ∷ (h ++ 44 ∷ 108 ∷ (l ++ 44 ∷ 114 ∷ (r ++ 44 ∷ 116 ∷ (t ++ 44 ∷ 115 ∷ s)))))))) ++ 44 ∷ 34 ∷ (d ++ 34 ∷ []))) ++ 10 ∷ []
seven x y o m h l r t s d = simp append_assoc

bars : (x y o t n w h f d : List ℕ)
    → 66 ∷ (x ++ 44 ∷ (y ++ 44 ∷ (o ++ 44 ∷ (t ++ 44 ∷ (n ++ 44 ∷ (w ++ 44 ∷ (h ++ 44 ∷ (f ++ 44 ∷ 34 ∷ (d ++ 34 ∷ 10 ∷ [])))))))))
    ≡ (66 ∷ ((x ++ 44 ∷ (y ++ 44 ∷ (o ++ 44 ∷ (t ++ 44 ∷ (n ++ 44 ∷ (w ++ 44 ∷ (h ++ 44 ∷ f))))))) ++ 44 ∷ 34 ∷ (d ++ 34 ∷ []))) ++ 10 ∷ []
bars x y o t n w h f d = simp append_assoc

-- texts and bar codes

text_command : (s : List ℕ) (e : TextField) → fill (flat_element (element.Text e)) (part s e.text) (template 1) ≡ spell s (element.Text e)
unfolding fill template quoted_line text_params numbers_then
text_command s e = simp (turn_is e.font.rotation, reverse_is e.reverse_print) (simp append_assoc)

code128_command : (s : List ℕ) (e : Barcode128WithData) → fill (flat_element (element.Barcode128 e)) (part s e.«data») (template 5) ≡ spell s (element.Barcode128 e)
unfolding fill template quoted_line bar_params numbers_then
code128_command s e = simp (two_is, turn_is e.barcode.orientation, line_is e.barcode.line, mode_is e.barcode.mode) (simp append_assoc)

ean13_command : (s : List ℕ) (e : BarcodeEan13WithData) → fill (flat_element (element.BarcodeEan13 e)) (part s e.«data») (template 6) ≡ spell s (element.BarcodeEan13 e)
unfolding fill template quoted_line bar_params numbers_then
ean13_command s e = simp (two_is, turn_is e.barcode.orientation, line_is e.barcode.line) (simp append_assoc)

ean8_command : (s : List ℕ) (e : BarcodeEan8WithData) → fill (flat_element (element.BarcodeEan8 e)) (part s e.«data») (template 7) ≡ spell s (element.BarcodeEan8 e)
unfolding fill template quoted_line bar_params numbers_then
ean8_command s e = simp (two_is, turn_is e.barcode.orientation, line_is e.barcode.line) (simp append_assoc)

upca_command : (s : List ℕ) (e : BarcodeUcaWithData) → fill (flat_element (element.BarcodeUca e)) (part s e.«data») (template 8) ≡ spell s (element.BarcodeUca e)
unfolding fill template quoted_line bar_params numbers_then
upca_command s e = simp (two_is, turn_is e.barcode.orientation, line_is e.barcode.line) (simp append_assoc)

upce_command : (s : List ℕ) (e : BarcodeUcpeWithData) → fill (flat_element (element.BarcodeUcpe e)) (part s e.«data») (template 16) ≡ spell s (element.BarcodeUcpe e)
unfolding fill template quoted_line bar_params numbers_then
upce_command s e = simp (two_is, turn_is e.barcode.orientation, line_is e.barcode.line) (simp append_assoc)

interleaved_command : (s : List ℕ) (e : Barcode2of5WithData) → fill (flat_element (element.Barcode2of5 e)) (part s e.«data») (template 9) ≡ spell s (element.Barcode2of5 e)
unfolding fill template quoted_line bar_params numbers_then
interleaved_command s e =
    let b = e.barcode in
    simp (turn_is b.orientation, line_is b.line, interleaved_is b.check_digit)
    (bars (decimal e.position.x) (decimal e.position.y) (decimal (turns b.orientation)) (type_of (Interleaved b.check_digit)) (decimal e.width) (decimal e.wide) (decimal b.height) (flagged b.line 66 78) (part s e.«data»))

code39_command : (s : List ℕ) (e : Barcode39WithData) → fill (flat_element (element.Barcode39 e)) (part s e.«data») (template 10) ≡ spell s (element.Barcode39 e)
unfolding fill template quoted_line bar_params numbers_then
code39_command s e =
    let b = e.barcode in
    simp (turn_is b.orientation, line_is b.line, code39_is b.check_digit)
    (bars (decimal e.position.x) (decimal e.position.y) (decimal (turns b.orientation)) (type_of (Code39 b.check_digit)) (decimal e.width) (decimal e.wide) (decimal b.height) (flagged b.line 66 78) (part s e.«data»))

-- 2D bar codes

aztec_command : (s : List ℕ) (e : BarcodeAztecWithData) → fine_aztec e.barcode ≡ true → fill (flat_element (element.BarcodeAztec e)) (part s e.«data») (template 12) ≡ spell s (element.BarcodeAztec e)
unfolding fill template quoted_line params2d aztec_options options numbers_then fine_aztec
aztec_command s e h =
    let b = e.barcode in
    let k = and_both (between (pos 1) (pos 55) b.magnification) (eq_z (aztec_size b.size) b.size) h in
    simp (whole_is b.magnification (limited 1 (pos 55) b.magnification k.0), whole_is b.size (size_whole b.size (eq_z_true (aztec_size b.size) b.size k.1))) (simp append_assoc)

datamatrix_command : (s : List ℕ) (e : BarcodeDatamatrixWithData) → fine_datamatrix e.barcode ≡ true → fill (flat_element (element.BarcodeDatamatrix e)) (part s e.«data») (template 13) ≡ spell s (element.BarcodeDatamatrix e)
unfolding fill template quoted_line params2d datamatrix_options options numbers_then fine_datamatrix
datamatrix_command s e h =
    let b = e.barcode in
    let k = and_both (between (pos 1) (pos 40) b.height && le_z (pos 0) b.columns) (le_z (pos 0) b.rows) h in
    let j = and_both (between (pos 1) (pos 40) b.height) (le_z (pos 0) b.columns) k.0 in
    simp (whole_is b.height (limited 1 (pos 40) b.height j.0), whole_is b.columns j.1, whole_is b.rows k.1)
    (three (decimal e.position.x) (decimal e.position.y) (digits (nat_abs b.height)) (digits (nat_abs b.columns)) (digits (nat_abs b.rows)) (part s e.«data»))

qr_command : (s : List ℕ) (e : BarcodeQrWithData) → fine_qr e.barcode ≡ true → fill (flat_element (element.BarcodeQr e)) (part s e.«data») (template 14) ≡ spell s (element.BarcodeQr e)
unfolding fill template quoted_line params2d qr_options options numbers_then fine_qr
qr_command s e h =
    let b = e.barcode in
    simp (whole_is b.magnification (limited 1 (pos 100) b.magnification h), level_is e.error_correction) (simp append_assoc)

maxicode_command : (s : List ℕ) (e : MaxicodeWithData) → is_mode e.code.mode ≡ true → fill (flat_element (element.Maxicode e)) (part s e.«data») (template 15) ≡ spell s (element.Maxicode e)
unfolding fill template quoted_line params2d maxicode_options options numbers_then
maxicode_command s e h = simp (whole_is e.code.mode (mode_whole e.code.mode h)) (simp append_assoc)

pdf417_command : (s : List ℕ) (e : BarcodePdf417WithData) → fine_pdf417 e.barcode ≡ true → fill (flat_element (element.BarcodePdf417 e)) (part s e.«data») (template (which_of (flat_element (element.BarcodePdf417 e)))) ≡ spell s (element.BarcodePdf417 e)
unfolding fill template quoted_line params2d pdf417_options options numbers_then
pdf417_command s e h =
    let b = e.barcode in
    let l = limits b h in
    let t = turn_is b.orientation ∙ whole_is (turns b.orientation) (turn_whole b.orientation) in
    let x = whole_is b.module_width (from_one b.module_width 2 l.module_low) in
    let y = whole_is b.row_height (from_one b.row_height 4 l.row_low) in
    let c = whole_is b.columns l.columns in
    let r = whole_is b.rows l.rows in
    test (eq_z b.security (negsuc 0))
    (λ n. simp (n, t, x, y, c, r, truncate_is b.truncate)
    (six (decimal e.position.x) (decimal e.position.y) (digits (nat_abs (turns b.orientation))) (digits (nat_abs b.module_width)) (digits (nat_abs b.row_height)) (digits (nat_abs b.columns)) (digits (nat_abs b.rows)) (flagged b.truncate 49 48) (part s e.«data»)))
    (λ n. simp (n, t, x, y, c, r, truncate_is b.truncate, whole_is b.security (secure_whole b.security n l.secure))
    (seven (decimal e.position.x) (decimal e.position.y) (digits (nat_abs (turns b.orientation))) (digits (nat_abs b.module_width)) (digits (nat_abs b.row_height)) (digits (nat_abs b.columns)) (digits (nat_abs b.rows)) (flagged b.truncate 49 48) (digits (nat_abs b.security)) (part s e.«data»)))
  where
    turn_whole : (o : FieldOrientation) → le_z (pos 0) (turns o) ≡ true
    turn_whole Normal = refl
    turn_whole Rotated90 = refl
    turn_whole Rotated180 = refl
    turn_whole Rotated270 = refl

    secure_whole : (z : ℤ) → eq_z z (negsuc 0) ≡ false → (eq_z z (negsuc 0) || between (pos 1) (pos 8) z) ≡ true → le_z (pos 0) z ≡ true
    secure_whole z n h = limited 1 (pos 8) z (rw n at h)

-- boxes and diagonals

module _ (p : LabelPosition) (x : Extent) (h : is_cornered p x ≡ true) where
  far_x : in32 (p.x +ℤ x.width) ≡ true
  unfolding is_cornered
  far_x =
      let e4 = and_both (le_z (pos 0) x.width && le_z (pos 0) x.height && le_z (pos 1) x.thickness && in32 (p.x +ℤ x.width)) (in32 (p.y +ℤ x.height)) h in
      (and_both (le_z (pos 0) x.width && le_z (pos 0) x.height && le_z (pos 1) x.thickness) (in32 (p.x +ℤ x.width)) e4.0).1

  far_y : in32 (p.y +ℤ x.height) ≡ true
  unfolding is_cornered
  far_y = (and_both (le_z (pos 0) x.width && le_z (pos 0) x.height && le_z (pos 1) x.thickness && in32 (p.x +ℤ x.width)) (in32 (p.y +ℤ x.height)) h).1

box_command : (s : List ℕ) (e : GraphicBox) → fine_box e.position (extent e.width e.height e.border_thickness) e.line_color ≡ true
    → fill (flat_element (element.GraphicBox e)) [] (template (which_of (flat_element (element.GraphicBox e)))) ≡ spell s (element.GraphicBox e)
unfolding fill template spell_box fine_box numbers
box_command s e h =
    let p = e.position in let x = extent e.width e.height e.border_thickness in let c = e.line_color in
    test (is_line x)
    (λ l. simp (l, colour_is c) (simp append_assoc))
    (λ l.
    let k = and_both (is_black c) (is_cornered p x) (rw l at h) in
    simp (l, far_x p x k.1, far_y p x k.1) (simp append_assoc))

diagonal_by : (s : List ℕ) (p : LabelPosition) (x : Extent) (d : Bool) → is_cornered p x ≡ true
    → let e = element.DiagonalLine (record { position = p; width = x.width; height = x.height; border_thickness = x.thickness; top_to_bottom = d }) in
    fill (flat_element e) [] (template (which_of (flat_element e))) ≡ spell s e
unfolding fill template spell_diagonal numbers
diagonal_by s p x true h = simp (far_x p x h, far_y p x h) (simp append_assoc)
diagonal_by s p x false h = simp (far_x p x h, far_y p x h) (simp append_assoc)

diagonal_command : (s : List ℕ) (e : GraphicDiagonalLine) → fine_diagonal e.position (extent e.width e.height e.border_thickness) e.top_to_bottom ≡ true
    → fill (flat_element (element.DiagonalLine e)) [] (template (which_of (flat_element (element.DiagonalLine e)))) ≡ spell s (element.DiagonalLine e)
unfolding fine_diagonal
diagonal_command s e h =
    let x = extent e.width e.height e.border_thickness in
    diagonal_by s e.position x e.top_to_bottom (and_both (is_cornered e.position x) (slopes e.top_to_bottom (lt_z (pos 0) e.width) (lt_z (pos 0) e.height)) h).0

-- a graphic

lines_are : (len : ℕ) (row : ℤ) → len < 2147483648 → le_z (pos 0) row ≡ true → lines len row ≡ pos (lines_of len (nat_abs row))
lines_are len (pos zero) h l = refl
lines_are len (pos (suc n)) h l =
    let k : len / suc n ≤ len = div-le_self len (suc n) in
    simp (le-ltb (suc n) 1 (omega arith), le-ltb 2147483647 (len / suc n) (omega arith), ne_eqb (suc n) 0 (λ e. omega arith))
lines_are len (negsuc n) h l = absurd (true≢false (sym l))

graphic_command : (s : List ℕ) (e : GraphicField) → length s ≤ longest → inside s e.«data» ≡ true → le_z (pos 0) e.row_bytes ≡ true
    → fill (flat_element (element.GraphicField e)) (part s e.«data») (template 4) ≡ spell s (element.GraphicField e)
unfolding fill template graphic_line numbers_then
graphic_command s e short i l =
    let d = e.«data» in
    let a : d.start + d.len ≤ length s = leb-true (d.start + d.len) (length s) i in
    let k : length (part s d) ≡ d.len = simp (length-take, length-drop) (omega arith) in
    let j : d.len < 2147483648 = omega arith in
    simp (k, lines_are d.len e.row_bytes j l) (simp append_assoc)

-- every kind

pub command_is : (s : List ℕ) (e : LabelElement) → length s ≤ longest → writable s e ≡ true
    → fill (flat_element e) (bytes_in s (plain_of e).«data») (template (which_of (flat_element e))) ≡ spell s e
unfolding writable
command_is s (element.Text e) l h = text_command s e
command_is s (element.GraphicBox e) l h = box_command s e h
command_is s (element.DiagonalLine e) l h = diagonal_command s e h
command_is s (element.GraphicField e) l h =
    let k = and_both (inside s e.«data») (le_z (pos 0) e.row_bytes && whole_rows (length (part s e.«data»)) (nat_abs e.row_bytes)) h in
    graphic_command s e l k.0 (and_both (le_z (pos 0) e.row_bytes) (whole_rows (length (part s e.«data»)) (nat_abs e.row_bytes)) k.1).0
command_is s (element.Barcode128 e) l h = code128_command s e
command_is s (element.BarcodeEan13 e) l h = ean13_command s e
command_is s (element.BarcodeEan8 e) l h = ean8_command s e
command_is s (element.BarcodeUca e) l h = upca_command s e
command_is s (element.Barcode2of5 e) l h = interleaved_command s e
command_is s (element.Barcode39 e) l h = code39_command s e
command_is s (element.BarcodePdf417 e) l h = pdf417_command s e (and_both (fine_data s (plain_of (element.BarcodePdf417 e)).«data») (fine_pdf417 e.barcode) h).1
command_is s (element.BarcodeAztec e) l h = aztec_command s e (and_both (fine_data s (plain_of (element.BarcodeAztec e)).«data») (fine_aztec e.barcode) h).1
command_is s (element.BarcodeDatamatrix e) l h = datamatrix_command s e (and_both (fine_data s (plain_of (element.BarcodeDatamatrix e)).«data») (fine_datamatrix e.barcode) h).1
command_is s (element.BarcodeQr e) l h =
    let t = part s e.«data» in
    qr_command s e (and_both (fine_qr e.barcode) (leb (length (decode t)) 9999) (and_both (fine_data s (plain_of (element.BarcodeQr e)).«data») (fine_qr e.barcode && leb (length (decode t)) 9999) h).1).0
command_is s (element.Maxicode e) l h = maxicode_command s e (and_both (fine_data s (plain_of (element.Maxicode e)).«data») (is_mode e.code.mode) h).1
command_is s (element.BarcodeUcpe e) l h = upce_command s e
