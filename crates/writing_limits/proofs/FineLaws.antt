-- What the tests on a flat element say is what `writable` says. Assumes nothing.
use mathlib.Core.Path.{◌≡◌, refl, sym, ap, ◌∙◌}
use mathlib.Core.Bool.{Bool, true, false, cond, ◌&&◌, ◌||◌}
use mathlib.Core.List.{List}
use Prim.Native.Nat.{ℕ, zero, suc, ◌≤◌, min}
use native.Mathlib.Omega.{arith}
use lib.Dec.{eqb, leb, ltb}
use lib.IntN.{ℤ, pos, negsuc, nat_abs, ◌*ℤ◌, ◌+ℤ◌}
use lib.ListN.{length}
use lib.Signed.{le_z, lt_z}
use borrow.Author.Tests.{eqb-true, eqb-false, ne_eqb, ltb-true, ltb-false, lt-ltb, le-ltb, leb-true, leb-false, le-leb, lt-leb}
use Rattle.text.specs.Utf8.{decode}
use Rattle.text.proofs.BoolLaws.{test}
use Rattle.numbers.specs.Int.{in32, eq_z, min_z}
use Rattle.elements.specs.declared.FontInfo.{FontInfo}
use Rattle.elements.specs.declared.FontScale.{FontScale}
use Rattle.elements.specs.declared.LabelElement.{LabelElement}
use Rattle.elements.specs.declared.LabelElement.TheVariants as element
use Rattle.elements.specs.declared.LineColor.{LineColor}
use Rattle.elements.specs.declared.LineColor.TheVariants.{Black, White, Xor}
use Rattle.elements.specs.Plain.{plain_of}
use Rattle.frame_bytes.specs.Frame as frame
use Rattle.structs.specs.Flat.{flat_element}
use Rattle.texts.specs.Font.{cell_of, font_of}
use Rattle.barcodes_2d.specs.Barcode2d.{aztec_size, is_mode}
use Rattle.barcodes_2d.specs.Barcode2d as two
use Rattle.spellings.specs.Draws.{is_black, is_line, is_cornered, fine_box, slopes, fine_diagonal}
use Rattle.spellings.specs.Codes.{turns}
use Rattle.spellings.specs.Codes2d.{fine_aztec, fine_datamatrix, fine_pdf417, fine_qr}
use Rattle.spellings.specs.Fonts.{same_font, fine_font, fine_ratio}
use Rattle.spellings.specs.Spelled.{bytes_in}
use Rattle.spellings.specs.Writable.{whole_rows, fine_fields, writable}
use Rattle.spellings.proofs.BoundLaws.{not_lt_le}
use Rattle.spellings.proofs.DrawLaws.{eq_z_refl}
use Rattle.writing_limits.specs.Fine.{between, sized, rows_at, same, fine_numbers, fine_bytes}

-- limits

lt_not : (z : ℤ) (n : ℕ) → lt_z z (pos n) ≡ true → le_z (pos n) z ≡ false
lt_not (pos m) n h = lt-leb n m (ltb-true m n h)
lt_not (negsuc m) n h = refl

pub low_is : (z : ℤ) (lo : ℕ) → between z lo 255 ≡ le_z (pos lo) z
low_is z lo = test (lt_z z (pos lo)) (λ e. simp (e, lt_not z lo e)) (λ e. simp (e, not_lt_le z (pos lo) e))

range_is : (z : ℤ) (lo hi : ℕ) → eqb hi 255 ≡ false → between z lo hi ≡ two.between (pos lo) (pos hi) z
range_is z lo hi n = test (lt_z z (pos lo)) (λ e. simp (e, lt_not z lo e)) (λ e. simp (e, n, not_lt_le z (pos lo) e))

one_up : (z : ℤ) → le_z (pos 1) z ≡ lt_z (pos 0) z
one_up (pos n) = test (leb 1 n) (λ e. e ∙ sym (lt-ltb 0 n (leb-true 1 n e))) (λ e. e ∙ sym (le-ltb 0 n (let k = leb-false 1 n e in omega arith)))
one_up (negsuc n) = refl

-- Bool

and_assoc : (a b c : Bool) → (a && (b && c)) ≡ (a && b && c)
and_assoc true b c = refl
and_assoc false b c = refl

slopes_is : (d w h : Bool) → cond (eqb (frame.flag d) 1) (same w h) (w || h) ≡ slopes d w h
slopes_is true true true = refl
slopes_is true true false = refl
slopes_is true false true = refl
slopes_is true false false = refl
slopes_is false w h = refl

black_is : (c : LineColor) → eqb (frame.colour c) 0 ≡ is_black c
black_is Black = refl
black_is White = refl
black_is Xor = refl

-- fonts: the rotation changes no size

font_is : (f : FontScale) (i : FontInfo) (e : LabelElement) → (flat_element e).text_height ≡ i.height → (flat_element e).text_width ≡ i.width
    → sized (font_of f.font f.horizontal f.vertical (pos 0)) (flat_element e) ≡ same_font (font_of f.font f.horizontal f.vertical (turns i.rotation)) i
unfolding font_of
font_is f i e a b =
    let n = f.font in let h = f.horizontal in let v = f.vertical in
    test (in32 ((cell_of n).height *ℤ v))
    (λ p. test (eq_z h v)
    (λ q. simp (p, q, a, b))
    (λ q. test (in32 (h *ℤ (cell_of n).width)) (λ r. simp (p, q, r, a, b)) (λ r. simp (p, q, r))))
    (λ p. simp p)

-- rows

rows_are : (len : ℕ) (row : ℤ) → (le_z (pos 0) row && rows_at len row) ≡ (le_z (pos 0) row && whole_rows len (nat_abs row))
rows_are len (pos zero) = test (eqb len 0) (λ e. simp e) (λ e. simp e)
rows_are len (pos (suc n)) = test (eqb len 0) (λ e. simp e) (λ e. simp (e, le-ltb (suc n) 1 (omega arith), lt-ltb 0 (suc n) (omega arith)))
rows_are len (negsuc n) = refl

-- sizes and modes

most_is : (n : ℕ) → leb (min 10000 n) 9999 ≡ leb n 9999
most_is n =
    test (leb n 9999)
    (λ e. let k = leb-true n 9999 e in le-leb (min 10000 n) 9999 (omega arith) ∙ sym e)
    (λ e. let k = leb-false n 9999 e in lt-leb (min 10000 n) 9999 (omega arith) ∙ sym e)

mode_is : (m : ℤ) → (two.between (pos 2) (pos 4) m || two.between (pos 6) (pos 6) m) ≡ is_mode m
mode_is (pos n) =
    test (eqb n 2) (λ e. rw (eqb-true n 2 e))
    (λ a. test (eqb n 3) (λ e. rw (eqb-true n 3 e))
    (λ b. test (eqb n 4) (λ e. rw (eqb-true n 4 e))
    (λ c. test (eqb n 6) (λ e. rw (eqb-true n 6 e))
    (λ d.
    let a1 = eqb-false n 2 a in let b1 = eqb-false n 3 b in let c1 = eqb-false n 4 c in let d1 = eqb-false n 6 d in
    simp (a, b, c, d)
    (test (leb 2 n)
    (λ p. test (leb n 4)
    (λ q. absurd (outside n (leb-true 2 n p) (leb-true n 4 q) a1 b1 c1))
    (λ q. simp (p, q) (six n d1)))
    (λ p. simp p (six n d1)))))))
  where
    outside : (n : ℕ) → 2 ≤ n → n ≤ 4 → (n ≡ 2 → ⊥) → (n ≡ 3 → ⊥) → (n ≡ 4 → ⊥) → ⊥
    outside n l h a b c = test (ltb n 3) (λ e. a (omega (arith, ltb-true n 3 e))) (λ e. test (ltb n 4) (λ g. b (omega (arith, ltb-false n 3 e, ltb-true n 4 g))) (λ g. c (omega (arith, ltb-false n 4 g))))

    six : (n : ℕ) → (n ≡ 6 → ⊥) → (leb 6 n && leb n 6) ≡ false
    six n h = test (leb 6 n) (λ p. test (leb n 6) (λ q. absurd (h (omega (arith, leb-true 6 n p, leb-true n 6 q)))) (λ q. simp (p, q))) (λ p. simp p)
mode_is (negsuc n) = refl

size_is : (z : ℤ) → (two.between (pos 0) (pos 99) z || two.between (pos 101) (pos 104) z || two.between (pos 201) (pos 232) z || eq_z z (pos 300)) ≡ eq_z (aztec_size z) z
unfolding aztec_size
size_is (pos zero) = refl
size_is (pos (suc n)) =
    let t = two.between (pos 1) (pos 99) (pos (suc n)) || two.between (pos 101) (pos 104) (pos (suc n)) || two.between (pos 201) (pos 232) (pos (suc n)) || eq_z (pos (suc n)) (pos 300) in
    let k : two.between (pos 0) (pos 99) (pos (suc n)) ≡ two.between (pos 1) (pos 99) (pos (suc n)) = simp (le-leb 0 (suc n) (omega arith), le-leb 1 (suc n) (omega arith)) in
    rw k (test t (λ e. simp e (sym (eq_z_refl (pos (suc n))))) (λ e. simp e (sym (ne_eqb 0 (suc n) (λ o. omega arith)))))
size_is (negsuc n) = refl

-- every kind

pub numbers_are : (e : LabelElement) (t : List ℕ) → fine_numbers (flat_element e) t ≡ fine_fields (plain_of e).position t (plain_of e).fields
unfolding fine_font fine_box fine_diagonal is_line is_cornered fine_ratio fine_aztec fine_datamatrix fine_pdf417 fine_qr
numbers_are (element.Text e) t = rw (low_is e.scale.horizontal 1, low_is e.scale.vertical 1, font_is e.scale e.font (element.Text e) refl refl) refl
numbers_are (element.GraphicBox e) t =
    rw (low_is e.width 1, low_is e.height 1, low_is e.width 0, low_is e.height 0, low_is e.border_thickness 1, black_is e.line_color)
    (ap (λ (b : Bool). (le_z (pos 1) e.width && le_z (pos 1) e.height && eq_z e.border_thickness (min_z e.width e.height)) || (is_black e.line_color && b)) (and_assoc (le_z (pos 0) e.width && le_z (pos 0) e.height && le_z (pos 1) e.border_thickness) (in32 (e.position.x +ℤ e.width)) (in32 (e.position.y +ℤ e.height))))
numbers_are (element.DiagonalLine e) t =
    rw (low_is e.width 1, low_is e.height 1, low_is e.width 0, low_is e.height 0, low_is e.border_thickness 1, one_up e.width, one_up e.height, slopes_is e.top_to_bottom (lt_z (pos 0) e.width) (lt_z (pos 0) e.height))
    (ap (λ (b : Bool). b && slopes e.top_to_bottom (lt_z (pos 0) e.width) (lt_z (pos 0) e.height)) (and_assoc (le_z (pos 0) e.width && le_z (pos 0) e.height && le_z (pos 1) e.border_thickness) (in32 (e.position.x +ℤ e.width)) (in32 (e.position.y +ℤ e.height))))
numbers_are (element.GraphicField e) t = rw (low_is e.row_bytes 0) (rows_are (length t) e.row_bytes)
numbers_are (element.Barcode128 e) t = rw (low_is e.width 1, low_is e.barcode.height 1) refl
numbers_are (element.BarcodeEan13 e) t = rw (low_is e.width 1, low_is e.barcode.height 1) refl
numbers_are (element.BarcodeEan8 e) t = rw (low_is e.width 1, low_is e.barcode.height 1) refl
numbers_are (element.BarcodeUca e) t = rw (low_is e.width 1, low_is e.barcode.height 1) refl
numbers_are (element.Barcode2of5 e) t = rw (low_is e.width 1, low_is e.barcode.height 1) refl
numbers_are (element.Barcode39 e) t = rw (low_is e.width 1, low_is e.barcode.height 1) refl
numbers_are (element.BarcodePdf417 e) t = let b = e.barcode in rw (range_is b.row_height 4 99 refl, range_is b.security 1 8 refl, low_is b.columns 0, low_is b.rows 0, range_is b.module_width 2 9 refl) refl
numbers_are (element.BarcodeAztec e) t = let b = e.barcode in rw (range_is b.magnification 1 55 refl, range_is b.size 0 99 refl, range_is b.size 101 104 refl, range_is b.size 201 232 refl, size_is b.size) refl
numbers_are (element.BarcodeDatamatrix e) t = let b = e.barcode in rw (range_is b.height 1 40 refl, low_is b.columns 0, low_is b.rows 0) refl
numbers_are (element.BarcodeQr e) t = rw (range_is e.barcode.magnification 1 100 refl, most_is (length (decode t))) refl
numbers_are (element.Maxicode e) t = rw (range_is e.code.mode 2 4 refl, range_is e.code.mode 6 6 refl) (mode_is e.code.mode)
numbers_are (element.BarcodeUcpe e) t = rw (low_is e.width 1, low_is e.barcode.height 1) refl

pub writable_is : (s : List ℕ) (e : LabelElement) → (fine_bytes (length s) (flat_element e) (bytes_in s (plain_of e).«data») && fine_numbers (flat_element e) (bytes_in s (plain_of e).«data»)) ≡ writable s e
unfolding writable
writable_is s (element.Text e) = rw (numbers_are (element.Text e) (bytes_in s (plain_of (element.Text e)).«data»)) refl
writable_is s (element.GraphicBox e) = rw (numbers_are (element.GraphicBox e) (bytes_in s (plain_of (element.GraphicBox e)).«data»)) refl
writable_is s (element.DiagonalLine e) = rw (numbers_are (element.DiagonalLine e) (bytes_in s (plain_of (element.DiagonalLine e)).«data»)) refl
writable_is s (element.GraphicField e) = rw (numbers_are (element.GraphicField e) (bytes_in s (plain_of (element.GraphicField e)).«data»)) refl
writable_is s (element.Barcode128 e) = rw (numbers_are (element.Barcode128 e) (bytes_in s (plain_of (element.Barcode128 e)).«data»)) refl
writable_is s (element.BarcodeEan13 e) = rw (numbers_are (element.BarcodeEan13 e) (bytes_in s (plain_of (element.BarcodeEan13 e)).«data»)) refl
writable_is s (element.BarcodeEan8 e) = rw (numbers_are (element.BarcodeEan8 e) (bytes_in s (plain_of (element.BarcodeEan8 e)).«data»)) refl
writable_is s (element.BarcodeUca e) = rw (numbers_are (element.BarcodeUca e) (bytes_in s (plain_of (element.BarcodeUca e)).«data»)) refl
writable_is s (element.Barcode2of5 e) = rw (numbers_are (element.Barcode2of5 e) (bytes_in s (plain_of (element.Barcode2of5 e)).«data»)) refl
writable_is s (element.Barcode39 e) = rw (numbers_are (element.Barcode39 e) (bytes_in s (plain_of (element.Barcode39 e)).«data»)) refl
writable_is s (element.BarcodePdf417 e) = rw (numbers_are (element.BarcodePdf417 e) (bytes_in s (plain_of (element.BarcodePdf417 e)).«data»)) refl
writable_is s (element.BarcodeAztec e) = rw (numbers_are (element.BarcodeAztec e) (bytes_in s (plain_of (element.BarcodeAztec e)).«data»)) refl
writable_is s (element.BarcodeDatamatrix e) = rw (numbers_are (element.BarcodeDatamatrix e) (bytes_in s (plain_of (element.BarcodeDatamatrix e)).«data»)) refl
writable_is s (element.BarcodeQr e) = rw (numbers_are (element.BarcodeQr e) (bytes_in s (plain_of (element.BarcodeQr e)).«data»)) refl
writable_is s (element.Maxicode e) = rw (numbers_are (element.Maxicode e) (bytes_in s (plain_of (element.Maxicode e)).«data»)) refl
writable_is s (element.BarcodeUcpe e) = rw (numbers_are (element.BarcodeUcpe e) (bytes_in s (plain_of (element.BarcodeUcpe e)).«data»)) refl
