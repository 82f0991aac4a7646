-- Texts and bar codes that lines yield have the numbers of writable ones. Assumes nothing.
use mathlib.Core.Path.{◌≡◌, refl, sym}
use mathlib.Core.Bool.{Bool, true, false, true≢false, ◌&&◌, ◌||◌}
use mathlib.Core.List.{List, [], ◌∷◌}
use mathlib.Core.Option.{Option, none, some}
use Prim.Native.Nat.{ℕ, ◌*◌}
use native.Mathlib.Omega.{arith}
use lib.Dec.{eqb, leb, ltb}
use lib.ListN.{length, take}
use lib.IntN.{ℤ, pos, negsuc, ◌*ℤ◌}
use lib.Signed.{le_z}
use borrow.Author.Tests.{le-leb, leb-true, ne_eqb}
use Rattle.text.specs.Blank.{front, trim}
use Rattle.text.specs.Class.{is_digit, is_letter}
use Rattle.text.specs.Fields.{field, fields}
use Rattle.text.specs.Utf8.{within, decode}
use Rattle.text.proofs.BoolLaws.{test, and_both, or_cases, within_low}
use Rattle.numbers.specs.Int.{in32, eq_z}
use Rattle.numbers.specs.Number.{digits_of, ranged, signed, number_spelled, number_or, field_or}
use Rattle.elements.specs.declared.DataSpan.{DataSpan}
use Rattle.elements.specs.declared.LabelPosition.{LabelPosition}
use Rattle.parameters.specs.declared.position.Placed.{Placed}
use Rattle.parameters.specs.declared.position.Placed.TheVariants as placing
use Rattle.parameters.specs.FieldValues.{fields_from}
use Rattle.parameters.specs.Position.{placed}
use Rattle.texts.specs.declared.fonts.Scaled.{Scaled}
use Rattle.texts.specs.declared.fonts.Scaled.TheVariants as scaled
use Rattle.texts.specs.Font.{font_of}
use Rattle.texts.specs.Text.{text_fields, text_of, text_element, text_reading}
use Rattle.barcodes.specs.declared.barcode.Barcode.{Barcode}
use Rattle.barcodes.specs.declared.barcode.BarcodeFields.{BarcodeFields}
use Rattle.barcodes.specs.declared.barcode.Symbology.{Symbology}
use Rattle.barcodes.specs.declared.barcode.Symbology.TheVariants.{Code128, Interleaved, Code39, Ean13, Ean8, UpcA, UpcE, Unlisted}
use Rattle.barcodes.specs.Barcode.{code128, interleaved, code39, ean13, ean8, upc_a, upc_e, is_listed, barcode_fields, barcode_element, barcode_placed, barcode_at, barcode_reading}
use Rattle.barcodes_2d.specs.declared.options.Wanted.{Wanted}
use Rattle.barcodes_2d.specs.declared.options.Wanted.TheVariants as wanted
use Rattle.barcodes_2d.specs.declared.barcode_2d.Symbology2d.{Symbology2d}
use Rattle.barcodes_2d.specs.declared.barcode_2d.Symbology2d.TheVariants as two
use Rattle.barcodes_2d.specs.Maxicode.{header_place, postal, auto_mode}
use Rattle.barcodes_2d.specs.Options.{Setting, options_of, accepted, values_of, last_or, last_of, last_count, last_number, clamped, last_clamped}
use Rattle.barcodes_2d.specs.Barcode2d.{between, symbology_of, aztec_size, aztec_of, datamatrix_of, is_mode, mode_of, pdf417_module_width, pdf417_row_height, pdf417_of, qr_of, aztec_reading, datamatrix_reading, maxicode_reading, pdf417_reading, qr_reading, barcode2d_at, barcode2d_reading}
use Rattle.spellings.specs.Codes2d.{fine_aztec, fine_datamatrix, fine_pdf417, fine_qr}
use Rattle.spellings.proofs.FontLaws.{font_exact, ratio_same}
use Rattle.spellings.proofs.DrawLaws.{eq_z_refl}
use Rattle.spellings.proofs.BoundLaws.{both, size_ge, clamp_between, clamped_or_lem}
use Rattle.spellings.proofs.YieldDraws.{fine_of, Fine, yields_by}

-- `A`

text_of_lem : (t s : List ℕ) (d : DataSpan) (q : Placed) (i : Scaled)
    → font_of (text_fields s).scale.font (text_fields s).scale.horizontal (text_fields s).scale.vertical (text_fields s).rotation ≡ i → Fine t (text_of (text_fields s) d q i)
text_of_lem t s d (placing.At p) (scaled.Font i) e = font_exact s i e
text_of_lem t s d (placing.At p) scaled.Outside e = tt
text_of_lem t s d placing.Outside i e = tt

pub text_yields : (t s : List ℕ) (d : DataSpan) (r : LabelPosition) → Fine t (text_reading s d r)
unfolding text_reading text_element
text_yields t s d r =
    let f = text_fields s in
    test (ltb (length (fields s)) 7)
    (λ e. simp e tt)
    (λ e. simp e (text_of_lem t s d (placed f.at.x f.at.y r) (font_of f.scale.font f.scale.horizontal f.scale.vertical f.rotation) refl))

-- `B`

element_good : (t : List ℕ) (y : Symbology) (b : Barcode) → (le_z (pos 1) b.bars.narrow && le_z (pos 1) b.bars.height) ≡ true → Fine t (barcode_element y b)
unfolding code128 interleaved code39 ean13 ean8 upc_a upc_e
element_good t (Code128 m) b h = h
element_good t (Interleaved c) b h = both h (ratio_same b.bars.wide b.bars.narrow)
element_good t (Code39 c) b h = both h (ratio_same b.bars.wide b.bars.narrow)
element_good t Ean13 b h = h
element_good t Ean8 b h = h
element_good t UpcA b h = h
element_good t UpcE b h = h
element_good t Unlisted b h = tt

bar_placed : (t : List ℕ) (f : BarcodeFields) (d : DataSpan) (q : Placed) → (le_z (pos 1) f.bars.narrow && le_z (pos 1) f.bars.height) ≡ true → Fine t (barcode_placed f d q)
bar_placed t f d (placing.At p) h = element_good t f.symbology _ h
bar_placed t f d placing.Outside h = tt

bars_good : (s : List ℕ) → (le_z (pos 1) (barcode_fields s).bars.narrow && le_z (pos 1) (barcode_fields s).bars.height) ≡ true
unfolding barcode_fields
bars_good s = both (size_ge (pos 1) (field s 4)) (size_ge (pos 10) (field s 6))

pub bar_yields : (t s : List ℕ) (d : DataSpan) (r : LabelPosition) → Fine t (barcode_reading s d r)
unfolding barcode_reading barcode_at
bar_yields t s d r =
    let f = barcode_fields s in
    test (ltb (length (fields s)) 8)
    (λ e. simp e tt)
    (λ e. simp e (test (is_listed f.symbology) (λ g. simp g (bar_placed t f d (placed f.at.x f.at.y r) (bars_good s))) (λ g. simp g tt)))

-- the options of `b` have no sign

-- no `-` first
abbrev NoMinus : List ℕ → Type 0
NoMinus [] = Unit
NoMinus (b ∷ s) = eqb b 45 ≡ false

pub data NoneMinus : List Setting → Type 0 where
  no_more : NoneMinus []
  and_more : {o : Setting} {os : List Setting} → NoMinus o.value → NoneMinus os → NoneMinus (o ∷ os)

front_minus : (s : List ℕ) → NoMinus (front is_digit s)
front_minus [] = tt
front_minus (b ∷ s) = test (is_digit b) (λ e. simp e (ne_eqb b 45 (λ k. omega (arith, within_low 48 57 b e)))) (λ e. simp e tt)

letter_minus : (b : ℕ) → is_letter b ≡ true → eqb b 45 ≡ false
letter_minus b h = ne_eqb b 45 (λ k. or_cases (within 65 90 b) (within 97 122 b) (λ e. omega (arith, within_low 65 90 b e)) (λ e. omega (arith, within_low 97 122 b e)) h)

options_minus : (s : List ℕ) → NoneMinus (options_of s)
unfolding options_of
options_minus [] = no_more
options_minus (x ∷ []) = test (is_letter x) (λ e. simp e (and_more tt no_more)) (λ e. simp e no_more)
options_minus (x ∷ y ∷ s) =
    let a = options_minus s in
    let b = options_minus (y ∷ s) in
    test (is_letter x)
    (λ e. test (is_letter y) (λ f. simp (e, f) (and_more (letter_minus y f) a)) (λ f. simp (e, f) (and_more (front_minus (y ∷ s)) b)))
    (λ e. simp e b)

last_minus : (w : Wanted) (p : ℕ) (v : List ℕ) (os : List Setting) → NoMinus v → NoneMinus os → NoMinus (last_or v (values_of w p os))
last_minus w p v [] h no_more = h
last_minus w p v (o ∷ os) h (and_more g gs) =
    test (eqb o.letter p && accepted w o.value)
    (λ e. simp e (last_minus w p o.value os g gs))
    (λ e. simp e (last_minus w p v os h gs))

-- so their numbers are not below 0

whole_ranged : (v : ℕ) → le_z (pos 0) (number_or (pos 0) (ranged (pos v))) ≡ true
whole_ranged v = test (in32 (pos v)) (λ e. simp e (le-leb 0 v (omega arith))) (λ e. simp e)

whole_signed : (o : Option ℕ) → le_z (pos 0) (number_or (pos 0) (signed false o)) ≡ true
whole_signed none = refl
whole_signed (some v) = whole_ranged v

whole_spelled : (s : List ℕ) → NoMinus s → le_z (pos 0) (number_or (pos 0) (number_spelled s)) ≡ true
unfolding number_spelled
whole_spelled [] h = refl
whole_spelled (b ∷ s) h = simp h (test (eqb b 43) (λ e. simp e (whole_signed (digits_of s))) (λ e. simp e (whole_signed (digits_of (b ∷ s)))))

count_whole : (p : ℕ) (s : List ℕ) → le_z (pos 0) (last_count p (options_of s)) ≡ true
unfolding last_count
count_whole p s = whole_spelled (last_of wanted.Any p (options_of s)) (last_minus wanted.Any p [] (options_of s) tt (options_minus s))

-- the five types

clamp_good : (p : ℕ) (d lo hi : ℤ) (os : List Setting) → between lo hi d ≡ true → le_z lo hi ≡ true → between lo hi (last_clamped p d lo hi os) ≡ true
unfolding last_clamped
clamp_good p d lo hi os h l = clamped_or_lem (λ z. between lo hi z ≡ true) d lo hi (number_spelled (last_of wanted.Number p os)) h (λ z. clamp_between lo hi z l)

size_good : (n : ℤ) → eq_z (aztec_size (aztec_size n)) (aztec_size n) ≡ true
unfolding aztec_size
size_good n =
    let t = between (pos 1) (pos 99) n || between (pos 101) (pos 104) n || between (pos 201) (pos 232) n || eq_z n (pos 300) in
    test t (λ e. simp e (eq_z_refl n)) (λ e. simp e)

aztec_good : (s : List ℕ) → fine_aztec (aztec_of s) ≡ true
unfolding fine_aztec aztec_of
aztec_good s = both (clamp_good 100 (pos 3) (pos 1) (pos 55) (options_of s) refl refl) (size_good (last_number 101 (pos 0) (options_of s)))

datamatrix_good : (s : List ℕ) → fine_datamatrix (datamatrix_of s) ≡ true
unfolding fine_datamatrix datamatrix_of
datamatrix_good s = both (both (clamp_good 104 (pos 5) (pos 1) (pos 40) (options_of s) refl refl) (count_whole 99 s)) (count_whole 114 s)

auto_mode_lem : (d : List ℕ) → is_mode (auto_mode d) ≡ true
unfolding auto_mode
auto_mode_lem d =
    test (ltb (header_place d) (length d) && leb 6 (header_place d))
    (λ e. simp e (test (postal (take (header_place d) d)) (λ f. simp f) (λ f. simp f)))
    (λ e. simp e)

mode_good : (s d : List ℕ) → is_mode (mode_of s d) ≡ true
unfolding mode_of
mode_good s d = test (is_mode (last_count 109 (options_of s))) (λ e. simp e) (λ e. simp e (auto_mode_lem (decode d)))

qr_good : (s : List ℕ) → fine_qr (qr_of s) ≡ true
unfolding fine_qr qr_of
qr_good s = clamp_good 115 (pos 3) (pos 1) (pos 100) (options_of s) refl refl

-- 4 module widths are a row height
four_modules : (m : ℤ) → between (pos 2) (pos 9) m ≡ true → between (pos 4) (pos 99) (pos 4 *ℤ m) ≡ true
four_modules (pos n) h =
    let k = and_both (leb 2 n) (leb n 9) h in
    let lo = leb-true 2 n k.0 in let hi = leb-true n 9 k.1 in
    both (le-leb 4 (4 * n) (omega arith)) (le-leb (4 * n) 99 (omega arith))
four_modules (negsuc n) h = absurd (true≢false (sym h))

secure_good : (os : List Setting) → (eq_z (last_clamped 115 (negsuc 0) (pos 1) (pos 8) os) (negsuc 0) || between (pos 1) (pos 8) (last_clamped 115 (negsuc 0) (pos 1) (pos 8) os)) ≡ true
unfolding last_clamped
secure_good os =
    clamped_or_lem (λ z. (eq_z z (negsuc 0) || between (pos 1) (pos 8) z) ≡ true) (negsuc 0) (pos 1) (pos 8) (number_spelled (last_of wanted.Number 115 os)) refl
    (λ z. or_right (eq_z (clamped (pos 1) (pos 8) z) (negsuc 0)) (clamp_between (pos 1) (pos 8) z refl))
  where
    or_right : (x : Bool) {y : Bool} → y ≡ true → (x || y) ≡ true
    or_right true h = refl
    or_right false h = h

pdf417_good : (s : List ℕ) → fine_pdf417 (pdf417_of s) ≡ true
unfolding fine_pdf417 pdf417_of pdf417_row_height pdf417_module_width
pdf417_good s =
    let m = clamp_good 120 (pos 6) (pos 2) (pos 9) (options_of s) refl refl in
    both (both (both (both
    (clamp_good 121 (pos 4 *ℤ last_clamped 120 (pos 6) (pos 2) (pos 9) (options_of s)) (pos 4) (pos 99) (options_of s) (four_modules (last_clamped 120 (pos 6) (pos 2) (pos 9) (options_of s)) m) refl)
    (secure_good (options_of s))) (count_whole 108 s)) (count_whole 114 s)) m

at_good : (y : Symbology2d) (s t : List ℕ) (q : Placed) (d : DataSpan) → Fine t (barcode2d_at y s t q d)
unfolding aztec_reading datamatrix_reading maxicode_reading pdf417_reading qr_reading
at_good two.Aztec s t q d = yields_by (λ e. fine_of t e ≡ true) q _ (λ p. aztec_good s)
at_good two.Datamatrix s t q d = yields_by (λ e. fine_of t e ≡ true) q _ (λ p. datamatrix_good s)
at_good two.Maxicode s t q d = yields_by (λ e. fine_of t e ≡ true) q _ (λ p. mode_good s t)
at_good two.Pdf417 s t q d = yields_by (λ e. fine_of t e ≡ true) q _ (λ p. pdf417_good s)
at_good two.Qr s t q d = test (leb (length (decode t)) 9999) (λ e. simp e (yields_by (λ e. fine_of t e ≡ true) q _ (λ p. both (qr_good s) e))) (λ e. simp e tt)
at_good two.Unlisted s t q d = tt

pub code2d_yields : (s t : List ℕ) (d : DataSpan) (r : LabelPosition) → Fine t (barcode2d_reading s t d r)
unfolding barcode2d_reading
code2d_yields s t d r =
    test (ltb (length (fields s)) 3)
    (λ e. simp e tt)
    (λ e. simp e (at_good (symbology_of (trim (field s 2))) (fields_from 3 s) t (placed (field_or (pos 0) (field s 0)) (field_or (pos 0) (field s 1)) r) d))
