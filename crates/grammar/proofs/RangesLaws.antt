-- A unit is refused as 13 exactly where one of its sums leaves 32 bits (`position_outside`), as 19 exactly where they
-- fit and one of its sizes does (`size_outside`), with any other number never (`outside_numbers`); so as either exactly
-- where one of its numbers does (`out_of_range`). Where all fit it does what its role says (`in_range`). Assumes
-- nothing.
use mathlib.Core.Path.{◌≡◌, refl, sym, ap, subst, ◌∙◌}
use mathlib.Core.Bool.{Bool, true, false, cond, not, ◌&&◌, ◌||◌, false≢true}
use mathlib.Core.List.{List, [], ◌∷◌, ◌++◌}
use mathlib.Core.Logic.{◌⊎◌, inl, inr, ◌↔◌}
use Prim.Native.Nat.{ℕ, suc}
use native.Mathlib.Omega.{arith}
use lib.Dec.{eqb, leb, ltb}
use lib.IntN.{ℤ, pos, negsuc, ◌+ℤ◌, ◌-ℤ◌, ◌*ℤ◌}
use lib.ListN.{length, drop}
use borrow.Author.Tests.{ltb-true, ltb-false, leb-true, le-ltb, eq-eqb, ne_eqb, eqb-true, eqb-false}
use Rattle.text.specs.Blank.{trim}
use Rattle.text.specs.Fields.{index_of, after, fields, field, quoted}
use Rattle.text.specs.Utf8.{decode}
use Rattle.text.proofs.BoolLaws.{test, and_both}
use Rattle.numbers.specs.Int.{in32, min_z, abs_z, eq_z}
use Rattle.elements.specs.declared.DataSpan.{DataSpan}
use Rattle.elements.specs.declared.LabelElement.{LabelElement}
use Rattle.elements.specs.declared.LabelPosition.{LabelPosition}
use Rattle.elements.specs.declared.LineColor.{LineColor}
use Rattle.elements.specs.declared.refusal.Refusal as refusal_of
use Rattle.elements.specs.declared.refusal.Refusal.TheVariants as refusal
use Rattle.parameters.specs.declared.position.Placed.{Placed}
use Rattle.parameters.specs.declared.position.Placed.TheVariants as placing
use Rattle.parameters.specs.declared.reading.LineReading.{LineReading}
use Rattle.parameters.specs.declared.reading.LineReading.TheVariants as reading
use Rattle.parameters.specs.FieldValues.{point_of, fields_from}
use Rattle.parameters.specs.Position.{placed}
use Rattle.parameters.specs.Position as position
use Rattle.texts.specs.declared.epl_text.TextFields.{TextFields}
use Rattle.texts.specs.declared.fonts.Scaled.{Scaled}
use Rattle.texts.specs.declared.fonts.Scaled.TheVariants as scaled
use Rattle.texts.specs.Font.{cell_of, font_of}
use Rattle.texts.specs.Text.{text_fields, text_of, text_element, text_reading}
use Rattle.draws.specs.declared.draw.Corners.{Corners}
use Rattle.draws.specs.declared.draw.Cornered.{Cornered}
use Rattle.draws.specs.declared.draw.Drawn.{Drawn}
use Rattle.draws.specs.declared.draw.Cornered.TheVariants as cornered
use Rattle.draws.specs.Draw.{line_fields, line_element, line_reading, corners_at, direction, if_placed, sized_at, drawn_at, diagonal_of, diagonal_reading, box_of, box_reading}
use Rattle.barcodes.specs.declared.barcode.Barcode.{Barcode}
use Rattle.barcodes.specs.declared.barcode.BarcodeFields.{BarcodeFields}
use Rattle.barcodes.specs.declared.barcode.Symbology.{Symbology}
use Rattle.barcodes.specs.declared.barcode.Symbology.TheVariants.{Code128, Interleaved, Code39, Ean13, Ean8, UpcA, UpcE, Unlisted}
use Rattle.barcodes.specs.Barcode.{is_listed, barcode_fields, code128, interleaved, code39, ean13, ean8, upc_a, upc_e, barcode_element, barcode_placed, barcode_at, barcode_reading}
use Rattle.barcodes.proofs.BarcodeLaws.{listed_is}
use Rattle.barcodes_2d.specs.declared.barcode_2d.Symbology2d.{Symbology2d}
use Rattle.barcodes_2d.specs.declared.barcode_2d.Symbology2d.TheVariants as two
use Rattle.barcodes_2d.specs.Barcode2d.{symbology_of, aztec_reading, datamatrix_reading, maxicode_reading, pdf417_reading, qr_reading, barcode2d_at, barcode2d_reading}
use Rattle.command_letters.specs.declared.command.DataCommand.{DataCommand}
use Rattle.command_letters.specs.declared.command.DataCommand.TheVariants as command
use Rattle.command_letters.specs.declared.command.Command.{Command}
use Rattle.command_letters.specs.declared.command.Command.TheVariants.{Clear, Reference, Data, Line, Diagonal, Box, Print, Other}
use Rattle.command_letters.specs.Command.{command_of}
use Rattle.command_letters.specs.Print.{counts_of}
use Rattle.command_letters.specs.Reference.{reference_of}
use Rattle.commands.specs.Line.{params_of, with_data, span_of, quoted_reading, command_reading, lead_of, read_line}
use Rattle.walk_theory.specs.Language.{keep, outside}
use Rattle.grammar.specs.Units.{EplUnit, block, line, last, number, Stands}
use Rattle.grammar.specs.Ranges as ranges
use Rattle.grammar.specs.WellFormed.{is_read, at_least, data_counted, data_typed, data_sized, well_formed_as, well_formed}
use Rattle.grammar.specs.Epl.{EplAct, act_of, acts}
use Rattle.grammar.specs.Ranges.{Signed32, AllFit, OneOut, sums, cell, products, differences, numbers_as, numbers_of, corner_sums, sums_as, sums_of, data_sizes, corner_sizes, sizes_as, sizes_of, Beyond, y_of, ref_as, ref_after, Role, passes, clears, yields, prints, role_as, role_of, Does}
use Rattle.grammar.proofs.LineFaultsLaws.{faultless}
use Rattle.grammar.proofs.Barcode2dTypeLaws.{is_listed2d, is_qr, typed_2d}

-- ---- one number, some numbers
pub fit : (z : ℤ) → in32 z ≡ true → Signed32 z
fit (pos n) e = ltb-true n 2147483648 e
fit (negsuc n) e = ltb-true n 2147483648 e

pub unfit : (z : ℤ) → in32 z ≡ false → Signed32 z → ⊥
unfit (pos n) e h = let k = ltb-false n 2147483648 e in omega arith
unfit (negsuc n) e h = let k = ltb-false n 2147483648 e in omega arith

-- all of some numbers fit, and then P; or one does not, and then Q
abbrev pub Either : List ℤ → Type 0 → Type 0 → Type 0
Either zs P Q = (AllFit zs × P) ⊎ (OneOut zs × Q)

-- the sums xs and the sizes ys fit, and then P; or a sum does not, and then Q; or a size does not, and then R
pub data Ranges (xs ys : List ℤ) (P Q R : Type 0) : Type 0 where
  all : AllFit xs → AllFit ys → P → Ranges xs ys P Q R
  sum : OneOut xs → Q → Ranges xs ys P Q R
  size : AllFit xs → OneOut ys → R → Ranges xs ys P Q R

clash : (zs : List ℤ) → AllFit zs → OneOut zs → ⊥
clash [] a o = o
clash (z ∷ zs) a (inl o) = o a.0
clash (z ∷ zs) a (inr o) = clash zs a.1 o

all_append : (xs ys : List ℤ) → AllFit xs → AllFit ys → AllFit (xs ++ ys)
all_append [] ys a b = b
all_append (x ∷ xs) ys a b = (a.0, all_append xs ys a.1 b)

out_left : (xs ys : List ℤ) → OneOut xs → OneOut (xs ++ ys)
out_left [] ys o = absurd o
out_left (x ∷ xs) ys (inl o) = inl o
out_left (x ∷ xs) ys (inr o) = inr (out_left xs ys o)

out_right : (xs ys : List ℤ) → OneOut ys → OneOut (xs ++ ys)
out_right [] ys o = o
out_right (x ∷ xs) ys o = inr (out_right xs ys o)

-- ---- a position
abbrev PlacedBy : List ℤ → Placed → Type 0
PlacedBy zs p = Either zs ((at : LabelPosition) × (p ≡ placing.At at)) (p ≡ placing.Outside)

pub place : (x y : ℤ) (r : LabelPosition) → PlacedBy (sums x y r) (placed x y r)
unfolding placed
place x y r =
    let a = x +ℤ r.x in let b = y +ℤ r.y in
    test (in32 a)
    (λ h. test (in32 b)
    (λ k. inl ((fit a h, (fit b k, tt)), (record { x = a; y = b }, simp (h, k))))
    (λ k. inr (inr (inl (unfit b k)), simp (h, k))))
    (λ h. inr (inl (unfit a h), simp h))

-- an element where the numbers fit, else 13 or 19
abbrev Ranged : List ℤ → List ℤ → LineReading → Type 0
Ranged xs ys x = Ranges xs ys ((e : LabelElement) × (x ≡ reading.Element e)) (x ≡ reading.Refused refusal.OutOfRange) (x ≡ reading.Refused refusal.SizeOutside)

ranged_yields : (xs : List ℤ) (p : Placed) (f : LabelPosition → LabelElement) → PlacedBy xs p → Ranged xs [] (position.yields p f)
ranged_yields xs p f (inl h) = all h.0 tt (f h.1.0, rw h.1.1)
ranged_yields xs p f (inr h) = sum h.0 (rw h.1)

-- ---- `A`: the font products
cell_is : {A : Type 0} (n : ℤ) (go : ℤ → ℤ → A) → cell n go ≡ go (cell_of n).width (cell_of n).height
unfolding cell_of
cell_is n go =
    test (eq_z n (pos 2)) (λ a. simp a)
    (λ a. test (eq_z n (pos 3)) (λ b. simp (a, b))
    (λ b. test (eq_z n (pos 4)) (λ c. simp (a, b, c))
    (λ c. test (eq_z n (pos 5)) (λ d. simp (a, b, c, d))
    (λ d. simp (a, b, c, d)))))

abbrev IsFont : Scaled → Type 0
IsFont (scaled.Font i) = Unit
IsFont scaled.Outside = ⊥

abbrev NoFont : Scaled → Type 0
NoFont (scaled.Font i) = ⊥
NoFont scaled.Outside = Unit

abbrev ScaledBy : List ℤ → Scaled → Type 0
ScaledBy zs s = Either zs (IsFont s) (NoFont s)

scale : (n h v r : ℤ) → ScaledBy (products n h v) (font_of n h v r)
unfolding font_of
scale n h v r =
    rw (cell_is n (λ width height. (height *ℤ v) ∷ cond (eq_z h v) [] ((h *ℤ width) ∷ [])))
    (let a = (cell_of n).height *ℤ v in let b = h *ℤ (cell_of n).width in
    test (in32 a)
    (λ p. test (eq_z h v)
    (λ e. simp (p, e) (inl ((fit a p, tt), tt)))
    (λ e. test (in32 b)
    (λ q. simp (p, e, q) (inl ((fit a p, (fit b q, tt)), tt)))
    (λ q. simp (p, e, q) (inr (inr (inl (unfit b q)), tt)))))
    (λ p. simp p (inr (inl (unfit a p), tt))))

-- a text: its position, then its products
ranged_text : (xs ys : List ℤ) (f : TextFields) (d : DataSpan) (p : Placed) (s : Scaled) → PlacedBy xs p → ScaledBy ys s → Ranged xs ys (text_of f d p s)
ranged_text xs ys f d p s (inr h) k = sum h.0 (rw h.1)
ranged_text xs ys f d p (scaled.Font i) (inl h) (inl k) = all h.0 k.0 (_, ap (λ (q : Placed). text_of f d q (scaled.Font i)) h.1.1)
ranged_text xs ys f d p scaled.Outside (inl h) (inl k) = absurd k.1
ranged_text xs ys f d p (scaled.Font i) (inl h) (inr k) = absurd k.1
ranged_text xs ys f d p scaled.Outside (inl h) (inr k) = size h.0 k.0 (rw h.1.1)

-- ---- `LS` and `X`
abbrev SizedBy : List ℤ → Cornered → Type 0
SizedBy ys c = Either ys ((d : Drawn) × (c ≡ cornered.At d)) (c ≡ cornered.SizeOutside)

sized : (c : Corners) (p : LabelPosition) → SizedBy (differences c.first.x c.first.y c.second.x c.second.y) (sized_at c p)
unfolding sized_at
sized c p =
    let x = c.second.x -ℤ c.first.x in let y = c.second.y -ℤ c.first.y in
    test (in32 x)
    (λ a. test (in32 (abs_z x))
    (λ b. test (in32 y)
    (λ e. test (in32 (abs_z y))
    (λ f. inl ((fit x a, (fit y e, (fit (abs_z x) b, (fit (abs_z y) f, tt)))), (record { position = p; width = abs_z x; height = abs_z y; same_way = direction x y }, simp (a, b, e, f))))
    (λ f. inr (inr (inr (inr (inl (unfit (abs_z y) f)))), simp (a, b, e, f))))
    (λ e. inr (inr (inl (unfit y e)), simp (a, b, e))))
    (λ b. inr (inr (inr (inl (unfit (abs_z x) b))), simp (a, b))))
    (λ a. inr (inl (unfit x a), simp a))

-- what is made of corners, as g makes it: its position, then its differences
ranged_drawn : (xs ys : List ℤ) (c : Corners) (p : Placed) (g : Cornered → LineReading) (made : Drawn → LabelElement) → PlacedBy xs p → ((at : LabelPosition) → SizedBy ys (sized_at c at))
    → ((d : Drawn) → g (cornered.At d) ≡ reading.Element (made d)) → g cornered.Outside ≡ reading.Refused refusal.OutOfRange → g cornered.SizeOutside ≡ reading.Refused refusal.SizeOutside
    → Ranged xs ys (g (if_placed p (sized_at c)))
ranged_drawn xs ys c p g made (inr h) k i j l = sum h.0 (ap (λ (q : Placed). g (if_placed q (sized_at c))) h.1 ∙ j)
ranged_drawn xs ys c p g made (inl h) k i j l = by (k h.1.0)
  where
    on : g (if_placed p (sized_at c)) ≡ g (sized_at c h.1.0)
    on = ap (λ (q : Placed). g (if_placed q (sized_at c))) h.1.1

    by : SizedBy ys (sized_at c h.1.0) → Ranged xs ys (g (if_placed p (sized_at c)))
    by (inl a) = all h.0 a.0 (made a.1.0, on ∙ ap g a.1.1 ∙ i a.1.0)
    by (inr a) = size h.0 a.0 (on ∙ ap g a.1 ∙ l)

-- ---- each command that draws or has data, its tests past
enough : (m k : ℕ) (n : refusal_of.Refusal) (x : LineReading) (xs ys : List ℤ) → leb k m ≡ true → Ranged xs ys x → Ranged xs ys (cond (ltb m k) (reading.Refused n) x)
enough m k n x xs ys e h = rw (le-ltb m k (leb-true k m e)) h

drawn_enough : (k : ℕ) (s : List ℕ) → (at_least k s && true && true) ≡ true → at_least k s ≡ true
drawn_enough k s e = (and_both (at_least k s) true (and_both (at_least k s && true) true e).0).0

ranged_line : (s : List ℕ) (c : LineColor) (r : LabelPosition) → at_least 4 s ≡ true → Ranged (sums (number (field s 0)) (number (field s 1)) r) [] (line_reading s c r)
unfolding line_reading line_element line_fields point_of
ranged_line s c r e =
    let x = number (field s 0) in let y = number (field s 1) in
    enough (length (fields s)) 4 refusal.LineFields _ (sums x y r) [] e (ranged_yields (sums x y r) (placed x y r) _ (place x y r))

ranged_ls : (s : List ℕ) (r : LabelPosition) → at_least 5 s ≡ true → Ranged (corner_sums s r) (corner_sizes s) (diagonal_reading s r)
unfolding diagonal_reading drawn_at corners_at point_of
ranged_ls s r e =
    let c = corners_at s in
    let u = min_z c.first.x c.second.x in let v = min_z c.first.y c.second.y in
    enough (length (fields s)) 5 refusal.DiagonalFields _ (corner_sums s r) (corner_sizes s) e
    (ranged_drawn (corner_sums s r) (corner_sizes s) c (placed u v r) (diagonal_of c.thickness) _ (place u v r) (sized c) (λ d. refl) refl refl)

ranged_x : (s : List ℕ) (r : LabelPosition) → at_least 5 s ≡ true → Ranged (corner_sums s r) (corner_sizes s) (box_reading s r)
unfolding box_reading drawn_at corners_at point_of
ranged_x s r e =
    let c = corners_at s in
    let u = min_z c.first.x c.second.x in let v = min_z c.first.y c.second.y in
    enough (length (fields s)) 5 refusal.BoxFields _ (corner_sums s r) (corner_sizes s) e
    (ranged_drawn (corner_sums s r) (corner_sizes s) c (placed u v r) (box_of c.thickness) _ (place u v r) (sized c) (λ d. refl) refl refl)

-- the sums of a command with data: its first two fields
abbrev data_sums : List ℕ → LabelPosition → List ℤ
data_sums s r = sums (number (field s 0)) (number (field s 1)) r

ranged_a : (s : List ℕ) (d : DataSpan) (r : LabelPosition) → at_least 7 s ≡ true → Ranged (data_sums s r) (data_sizes command.Text s) (text_reading s d r)
unfolding text_reading text_element text_fields point_of
ranged_a s d r e =
    let f = text_fields s in
    let q = products f.scale.font f.scale.horizontal f.scale.vertical in
    enough (length (fields s)) 7 refusal.TextFields _ (data_sums s r) q e
    (ranged_text (data_sums s r) q f d (placed f.at.x f.at.y r) (font_of f.scale.font f.scale.horizontal f.scale.vertical f.rotation)
    (place f.at.x f.at.y r) (scale f.scale.font f.scale.horizontal f.scale.vertical f.rotation))

-- `B` and `b`, their types listed
ranged_barcode : (zs : List ℤ) (y : Symbology) (b : Barcode) → is_listed y ≡ true → AllFit zs → Ranged zs [] (barcode_element y b)
unfolding code128 interleaved code39 ean13 ean8 upc_a upc_e
ranged_barcode zs (Code128 m) b h a = all a tt (_, refl)
ranged_barcode zs (Interleaved c) b h a = all a tt (_, refl)
ranged_barcode zs (Code39 c) b h a = all a tt (_, refl)
ranged_barcode zs Ean13 b h a = all a tt (_, refl)
ranged_barcode zs Ean8 b h a = all a tt (_, refl)
ranged_barcode zs UpcA b h a = all a tt (_, refl)
ranged_barcode zs UpcE b h a = all a tt (_, refl)
ranged_barcode zs Unlisted b h a = absurd (false≢true h)

ranged_bars : (zs : List ℤ) (f : BarcodeFields) (d : DataSpan) (p : Placed) → is_listed f.symbology ≡ true → PlacedBy zs p → Ranged zs [] (barcode_placed f d p)
ranged_bars zs f d p h (inl k) = rw k.1.1 (ranged_barcode zs f.symbology _ h k.0)
ranged_bars zs f d p h (inr k) = sum k.0 (rw k.1)

ranged_b : (s : List ℕ) (d : DataSpan) (r : LabelPosition) → at_least 8 s ≡ true → data_typed command.Barcode s ≡ true → Ranged (data_sums s r) [] (barcode_reading s d r)
unfolding barcode_reading barcode_at barcode_fields point_of
ranged_b s d r e t =
    let f = barcode_fields s in
    let l : is_listed f.symbology ≡ true = listed_is (trim (field s 3)) ∙ t in
    enough (length (fields s)) 8 refusal.BarcodeFields _ (data_sums s r) [] e
    (rw l (ranged_bars (data_sums s r) f d (placed f.at.x f.at.y r) l (place f.at.x f.at.y r)))

ranged_2d : (zs : List ℤ) (y : Symbology2d) (s t : List ℕ) (p : Placed) (d : DataSpan) → is_listed2d y ≡ true → (not (is_qr y) || leb (length (decode t)) 9999) ≡ true → PlacedBy zs p → Ranged zs [] (barcode2d_at y s t p d)
unfolding aztec_reading datamatrix_reading maxicode_reading pdf417_reading qr_reading
ranged_2d zs two.Aztec s t p d l q h = ranged_yields zs p _ h
ranged_2d zs two.Datamatrix s t p d l q h = ranged_yields zs p _ h
ranged_2d zs two.Maxicode s t p d l q h = ranged_yields zs p _ h
ranged_2d zs two.Pdf417 s t p d l q h = ranged_yields zs p _ h
ranged_2d zs two.Qr s t p d l q h = rw q (ranged_yields zs p _ h)
ranged_2d zs two.Unlisted s t p d l q h = absurd (false≢true l)

ranged_b2 : (s t : List ℕ) (d : DataSpan) (r : LabelPosition) → at_least 3 s ≡ true → data_typed command.Barcode2d s ≡ true → data_sized command.Barcode2d s t ≡ true → Ranged (data_sums s r) [] (barcode2d_reading s t d r)
unfolding barcode2d_reading
ranged_b2 s t d r e l q =
    let f = trim (field s 2) in
    let x = number (field s 0) in let y = number (field s 1) in
    enough (length (fields s)) 3 refusal.Barcode2dFields _ (sums x y r) [] e
    (ranged_2d (sums x y r) (symbology_of f) (fields_from 3 s) t (placed x y r) d
    ((typed_2d f).0 ∙ l) (rw (typed_2d f).1 q) (place x y r))

ranged_data : (c : DataCommand) (s t : List ℕ) (d : DataSpan) (r : LabelPosition) → data_counted c s ≡ true → data_typed c s ≡ true → data_sized c s t ≡ true → Ranged (data_sums s r) (data_sizes c s) (with_data c s t d r)
ranged_data command.Text s t d r e l q = ranged_a s d r e
ranged_data command.Barcode s t d r e l q = ranged_b s d r e l
ranged_data command.Barcode2d s t d r e l q = ranged_b2 s t d r e l q

-- ---- `R`
eqb_suc : (a b : ℕ) → eqb (suc a) (suc b) ≡ eqb a b
eqb_suc a b =
    test (eqb a b)
    (λ e. eq-eqb (suc a) (suc b) (ap suc (eqb-true a b e)) ∙ sym e)
    (λ e. ne_eqb (suc a) (suc b) (λ h. eqb-false a b e (omega arith)) ∙ sym e)

y_is : (s : List ℕ) (y : ℤ) → cond (eqb (index_of 44 s) (length s)) y (number (after 44 s)) ≡ y_of s y
unfolding after
y_is [] y = refl
y_is (b ∷ s) y =
    test (eqb b 44)
    (λ e. rw (e, ne_eqb 0 (suc (length s)) (λ h. omega arith)))
    (λ e. rw (e, eqb_suc (index_of 44 s) (length s)) (y_is s y))

-- ---- a line, a unit
-- where the numbers fit, an act of that role, after which the reference is q; else 13 or 19
abbrev Acts : List ℤ → List ℤ → Role → LabelPosition → LabelPosition → EplAct → Type 0
Acts xs ys k r q a = Ranges xs ys (Does k r q a) (a ≡ outside 13) (a ≡ outside 19)

acted : (xs ys : List ℤ) (r : LabelPosition) (x : LineReading) → Ranged xs ys x → Acts xs ys yields r r (act_of r x)
acted xs ys r x (all a b h) = all a b (h.0, ap (act_of r) h.1, refl)
acted xs ys r x (sum a h) = sum a (ap (act_of r) h)
acted xs ys r x (size a b h) = size a b (ap (act_of r) h)

acts_command : (c : Command) (lead : ℕ) (t : List ℕ) (r : LabelPosition) → well_formed_as c t ≡ true → Acts (sums_as c t r) (sizes_as c t) (role_as c t) r (ref_as c t r) (act_of r (command_reading c lead t r))
unfolding quoted_reading reference_of counts_of
acts_command Clear lead t r w = all tt tt refl
acts_command Reference lead t r w = all tt tt (ap (λ (y : ℤ). keep (record { x = number (field (drop 1 t) 0); y = y })) (y_is (drop 1 t) r.y))
acts_command (Data c) lead t r w =
    test (eqb (length (quoted t)) 0)
    (λ e. simp e (all tt tt refl))
    (λ e.
    let s = params_of t in
    let k = and_both (data_counted c s && data_typed c s) (data_sized c s (quoted t)) (simp e at w) in
    let j = and_both (data_counted c s) (data_typed c s) k.0 in
    simp e (acted (data_sums s r) (data_sizes c s) r _ (ranged_data c s (quoted t) (span_of lead t) r j.0 j.1 k.1)))
acts_command (Line c) lead t r w = acted (sums_as (Line c) t r) [] r _ (ranged_line (drop 2 t) c r (drawn_enough 4 (drop 2 t) w))
acts_command Diagonal lead t r w = acted (sums_as Diagonal t r) (sizes_as Diagonal t) r _ (ranged_ls (drop 2 t) r (drawn_enough 5 (drop 2 t) w))
acts_command Box lead t r w = acted (sums_as Box t r) (sizes_as Box t) r _ (ranged_x (drop 1 t) r (drawn_enough 5 (drop 1 t) w))
acts_command Print lead t r w = all tt tt (refl, refl)
acts_command Other lead t r w = all tt tt refl

acts_line : (t : List ℕ) (r : LabelPosition) → well_formed (trim t) ≡ true → Acts (sums_of r (line t)) (sizes_of (line t)) (role_of (line t)) r (ref_after r (line t)) (acts r (line t))
unfolding well_formed read_line
acts_line t r w = acts_command (command_of (trim t)) (lead_of t) (trim t) r w

-- a well-formed line whose numbers are in range does what its command says
pub line_acts : (t : List ℕ) (r : LabelPosition) → well_formed (trim t) ≡ true → ((n : ℕ) → acts r (line t) ≡ outside n → ⊥) → Does (role_of (line t)) r (ref_after r (line t)) (acts r (line t))
line_acts t r w inside = by (acts_line t r w)
  where
    by : Acts (sums_of r (line t)) (sizes_of (line t)) (role_of (line t)) r (ref_after r (line t)) (acts r (line t)) → Does (role_of (line t)) r (ref_after r (line t)) (acts r (line t))
    by (all a b h) = h
    by (sum a h) = absurd (inside 13 h)
    by (size a b h) = absurd (inside 19 h)

decided : (r : LabelPosition) (u : EplUnit) (rest : List ℕ) → Stands u rest → Acts (sums_of r u) (sizes_of u) (role_of u) r (ref_after r u) (acts r u)
decided r (block bs h p) rest st =
    let x = number h.x in let y = number h.y in
    acted (sums x y r) [] r _ (ranged_yields (sums x y r) (placed x y r) _ (place x y r))
decided r (line t) rest st = acts_line t r (faultless (trim t) st.is_well_formed)
decided r (last t) rest st = acts_line t r (faultless (trim t) st.0.is_well_formed)

-- ---- a unit's numbers are its sums and its sizes
numbers_data : (b : Bool) (c : DataCommand) (s : List ℕ) (r : LabelPosition) → cond b (ranges.data_numbers c s r) [] ≡ cond b (data_sums s r) [] ++ cond b (data_sizes c s) []
numbers_data true command.Text s r = refl
numbers_data true command.Barcode s r = refl
numbers_data true command.Barcode2d s r = refl
numbers_data false c s r = refl

numbers_as_lem : (c : Command) (t : List ℕ) (r : LabelPosition) → numbers_as c t r ≡ sums_as c t r ++ sizes_as c t
numbers_as_lem (Data c) t r = numbers_data (is_read t) c (params_of t) r
numbers_as_lem (Line c) t r = refl
numbers_as_lem Diagonal t r = refl
numbers_as_lem Box t r = refl
numbers_as_lem Clear t r = refl
numbers_as_lem Reference t r = refl
numbers_as_lem Print t r = refl
numbers_as_lem Other t r = refl

numbers_are : (r : LabelPosition) (u : EplUnit) → numbers_of r u ≡ sums_of r u ++ sizes_of u
numbers_are r (block bs h p) = refl
numbers_are r (line t) = numbers_as_lem (command_of (trim t)) (trim t) r
numbers_are r (last t) = numbers_as_lem (command_of (trim t)) (trim t) r

module _ (r : LabelPosition) (u : EplUnit) where
  both_fit : AllFit (sums_of r u) → AllFit (sizes_of u) → AllFit (numbers_of r u)
  both_fit a b = subst AllFit (sym (numbers_are r u)) (all_append (sums_of r u) (sizes_of u) a b)

  -- 13 or 19 is where one of the numbers does not fit
  pub beyond_out : {n : ℕ} → Beyond r u n → OneOut (numbers_of r u)
  beyond_out (ranges.position o) = subst OneOut (sym (numbers_are r u)) (out_left (sums_of r u) (sizes_of u) o)
  beyond_out (ranges.size a o) = subst OneOut (sym (numbers_are r u)) (out_right (sums_of r u) (sizes_of u) o)

  pub beyond_unfit : {n : ℕ} → Beyond r u n → AllFit (numbers_of r u) → ⊥
  beyond_unfit b a = clash (numbers_of r u) a (beyond_out b)

  -- not both
  pub one_beyond : {m n : ℕ} → Beyond r u m → Beyond r u n → m ≡ n
  one_beyond (ranges.position o) (ranges.position q) = refl
  one_beyond (ranges.position o) (ranges.size a q) = absurd (clash (sums_of r u) a o)
  one_beyond (ranges.size a o) (ranges.position q) = absurd (clash (sums_of r u) a q)
  one_beyond (ranges.size a o) (ranges.size b q) = refl

  pub beyond_number : {n : ℕ} → Beyond r u n → (n ≡ 13) ⊎ (n ≡ 19)
  beyond_number (ranges.position o) = inl refl
  beyond_number (ranges.size a o) = inr refl

-- u does at r what its role and the reference after it say, or is refused as its numbers say
abbrev pub ActsAs : LabelPosition → EplUnit → Type 0
ActsAs r u = (AllFit (numbers_of r u) × Does (role_of u) r (ref_after r u) (acts r u)) ⊎ ((n : ℕ) × Beyond r u n × (acts r u ≡ outside n))

pub acts_unit : (r : LabelPosition) (u : EplUnit) (rest : List ℕ) → Stands u rest → ActsAs r u
acts_unit r u rest st = by (decided r u rest st)
  where
    by : Acts (sums_of r u) (sizes_of u) (role_of u) r (ref_after r u) (acts r u) → ActsAs r u
    by (all a b h) = inl (both_fit r u a b, h)
    by (sum a h) = inr (13, ranges.position a, h)
    by (size a b h) = inr (19, ranges.size a b, h)

-- ---- the laws
outside_inj : {m n : ℕ} → ◌≡◌ {A = EplAct} (outside m) (outside n) → m ≡ n
outside_inj e = cc

does_inside : (k : Role) (r q : LabelPosition) (a : EplAct) (n : ℕ) → Does k r q a → a ≡ outside n → ⊥
does_inside passes r q a n d e = let z : ◌≡◌ {A = ℕ} 0 1 = cc in omega arith
does_inside clears r q a n d e = let z : ◌≡◌ {A = ℕ} 0 1 = cc in omega arith
does_inside yields r q a n d e = let k = d.1 in let z : ◌≡◌ {A = ℕ} 0 1 = cc in omega arith
does_inside (prints c) r q a n d e = let k = d.0 in let z : ◌≡◌ {A = ℕ} 0 1 = cc in omega arith

module _ (r : LabelPosition) (u : EplUnit) (rest : List ℕ) (st : Stands u rest) where
  -- all numbers fit: the unit does what its role says
  pub in_range : AllFit (numbers_of r u) → Does (role_of u) r (ref_after r u) (acts r u)
  in_range a = by (acts_unit r u rest st)
    where
      by : ActsAs r u → Does (role_of u) r (ref_after r u) (acts r u)
      by (inl h) = h.1
      by (inr h) = absurd (beyond_unfit r u h.1 a)

  -- refused only so
  pub outside_only : (n : ℕ) → acts r u ≡ outside n → Beyond r u n
  outside_only n e = by (acts_unit r u rest st)
    where
      by : ActsAs r u → Beyond r u n
      by (inl h) = absurd (does_inside (role_of u) r (ref_after r u) (acts r u) n h.1 e)
      by (inr h) = subst (Beyond r u) (outside_inj (sym h.2 ∙ e)) h.1

  beyond_outside : {n : ℕ} → Beyond r u n → acts r u ≡ outside n
  beyond_outside {n} b = by (acts_unit r u rest st)
    where
      by : ActsAs r u → acts r u ≡ outside n
      by (inl h) = absurd (beyond_unfit r u b h.0)
      by (inr h) = h.2 ∙ ap outside (one_beyond r u h.1 b)

  -- one of the numbers does not fit: it is one of the two
  pub out_beyond : OneOut (numbers_of r u) → (n : ℕ) × Beyond r u n
  out_beyond o = by (acts_unit r u rest st)
    where
      by : ActsAs r u → (n : ℕ) × Beyond r u n
      by (inl h) = absurd (clash (numbers_of r u) h.0 o)
      by (inr h) = (h.0, h.1)

  -- 13 exactly where a sum does not fit, 19 exactly where they do and a size does not, no other number; one of the two
  -- exactly where one of all numbers does not
  pub position_outside : (acts r u ≡ outside 13) ↔ OneOut (sums_of r u)
  position_outside = ((λ e. by (outside_only 13 e) refl), λ o. beyond_outside (ranges.position o))
    where
      by : {n : ℕ} → Beyond r u n → n ≡ 13 → OneOut (sums_of r u)
      by (ranges.position o) e = o
      by (ranges.size a o) e = absurd (omega arith)

  pub size_outside : (acts r u ≡ outside 19) ↔ (AllFit (sums_of r u) × OneOut (sizes_of u))
  size_outside = ((λ e. by (outside_only 19 e) refl), λ o. beyond_outside (ranges.size o.0 o.1))
    where
      by : {n : ℕ} → Beyond r u n → n ≡ 19 → AllFit (sums_of r u) × OneOut (sizes_of u)
      by (ranges.position o) e = absurd (omega arith)
      by (ranges.size a o) e = (a, o)

  pub outside_numbers : (n : ℕ) → acts r u ≡ outside n → (n ≡ 13) ⊎ (n ≡ 19)
  outside_numbers n e = beyond_number r u (outside_only n e)

  pub out_of_range : ((acts r u ≡ outside 13) ⊎ (acts r u ≡ outside 19)) ↔ OneOut (numbers_of r u)
  out_of_range = (out, λ o. let k = out_beyond o in refused (beyond_number r u k.1) (beyond_outside k.1))
    where
      out : (acts r u ≡ outside 13) ⊎ (acts r u ≡ outside 19) → OneOut (numbers_of r u)
      out (inl e) = beyond_out r u (outside_only 13 e)
      out (inr e) = beyond_out r u (outside_only 19 e)

      refused : {n : ℕ} → (n ≡ 13) ⊎ (n ≡ 19) → acts r u ≡ outside n → (acts r u ≡ outside 13) ⊎ (acts r u ≡ outside 19)
      refused (inl i) e = inl (e ∙ ap outside i)
      refused (inr i) e = inr (e ∙ ap outside i)
