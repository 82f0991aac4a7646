-- Texts and bar codes as they are written, read back at reference 0,0.
-- Assumes nothing.
use mathlib.Core.Path.{◌≡◌, refl, sym, ap, ◌∙◌}
use mathlib.Core.Bool.{Bool, true, false, true≢false, ◌&&◌}
use mathlib.Core.List.{List, [], ◌∷◌}
use Prim.Native.Nat.{ℕ, ◌+◌, ◌<◌, ◌≤◌}
use native.Mathlib.Omega.{arith}
use lib.Dec.{leb}
use lib.ListN.{length}
use lib.IntN.{ℤ, pos}
use lib.Signed.{le_z}
use borrow.Author.Tests.{lt-leb, leb-true}
use Rattle.text.proofs.BoolLaws.{and_both}
use Rattle.text.specs.Blank.{trim}
use Rattle.text.specs.Fields.{before, after, fields}
use Rattle.elements.specs.declared.DataSpan.{DataSpan}
use Rattle.elements.specs.declared.FieldOrientation.{FieldOrientation}
use Rattle.elements.specs.declared.FieldOrientation.TheVariants.{Normal, Rotated90, Rotated180, Rotated270}
use Rattle.elements.specs.declared.BarcodeMode.TheVariants.{Ucc, Automatic, Ean}
use Rattle.elements.specs.declared.LabelPosition.{LabelPosition}
use Rattle.parameters.specs.FieldValues.{exactly}
use Rattle.parameters.specs.Rotation.{rotation_of}
use Rattle.texts.specs.Text.{text_fields, text_element, text_reading}
use Rattle.elements.specs.declared.FontScale.{FontScale}
use Rattle.elements.specs.declared.plain.Bars.{Bars}
use Rattle.barcodes.specs.declared.barcode.Barcode.{Barcode as BarcodeRead}
use Rattle.barcodes.specs.declared.barcode.Symbology.{Symbology}
use Rattle.barcodes.specs.declared.barcode.Symbology.TheVariants.{Code128, Interleaved, Code39, Ean13, Ean8, UpcA, UpcE, Unlisted}
use Rattle.barcodes.specs.Barcode.{symbology_of, is_listed, barcode_fields, barcode_element, barcode_at, barcode_reading}
use Rattle.command_letters.specs.declared.command.DataCommand.TheVariants.{Text, Barcode}
use Rattle.commands.specs.Line.{read_line}
use Rattle.decimals.specs.Decimal.{decimal}
use Rattle.decimals.specs.Joined.{Without, closed}
use Rattle.decimals.proofs.JoinedLaws.{before_here, after_here, without_append, without_cons, without_nil, fields_closed, fields_all}
use Rattle.decimals.proofs.ReadLaws.{Ends, ends_append, plain, decimal_without, field_decimal}
use Rattle.spellings.specs.Quoted.{quoted_line, span_in, numbers_then}
use Rattle.spellings.specs.Codes.{turns, flagged, text_params, type_of, bar_params}
use Rattle.spellings.proofs.FieldLaws.{In32, origin, before_closed, after_closed, size_decimal, point_decimal, placed_origin}
use Rattle.spellings.proofs.QuotedLaws.{numbers_without, then_ends, fields_then, quoted_read}

-- numbers, each closed, read one by one

pub before_then : (z : ℤ) (zs : List ℤ) (s : List ℕ) → before 44 (numbers_then (z ∷ zs) s) ≡ decimal z
unfolding numbers_then
before_then z zs s = before_closed z (numbers_then zs s)

pub after_then : (z : ℤ) (zs : List ℤ) (s : List ℕ) → after 44 (numbers_then (z ∷ zs) s) ≡ numbers_then zs s
unfolding numbers_then
after_then z zs s = after_closed z (numbers_then zs s)

pub none_then : (s : List ℕ) → numbers_then [] s ≡ s
unfolding numbers_then
none_then s = refl

pub quote_free : (z : ℤ) → Without 34 (decimal z)
quote_free z = decimal_without 34 refl (λ e. omega arith) z

-- rotations, flags

pub turns_in : (o : FieldOrientation) → In32 (turns o)
turns_in Normal = omega arith
turns_in Rotated90 = omega arith
turns_in Rotated180 = omega arith
turns_in Rotated270 = omega arith

pub turned : (o : FieldOrientation) → rotation_of (turns o) ≡ o
unfolding rotation_of
turned Normal = refl
turned Rotated90 = refl
turned Rotated180 = refl
turned Rotated270 = refl

reverse_flag : (f : Bool) → exactly 82 (before 44 (flagged f 82 78)) ≡ f
unfolding exactly before
reverse_flag true = refl
reverse_flag false = refl

line_flag : (f : Bool) → exactly 66 (before 44 (flagged f 66 78)) ≡ f
unfolding exactly before
line_flag true = refl
line_flag false = refl

-- a last field of one letter
one_ends : (b : ℕ) → 45 ≤ b → b < 127 → Ends (b ∷ [])
one_ends b h g = record { rest = []; last = b; is = refl; plain = plain b (omega arith) g; no_comma = λ e. omega arith }

flag_ends : (f : Bool) (a b : ℕ) → 45 ≤ a → a < 127 → 45 ≤ b → b < 127 → Ends (flagged f a b)
flag_ends true a b p q r s = one_ends a p q
flag_ends false a b p q r s = one_ends b r s

flag_without : (x : ℕ) (f : Bool) (a b : ℕ) → (a ≡ x → ⊥) → (b ≡ x → ⊥) → Without x (flagged f a b)
flag_without x true a b p q = without_cons x a [] p (without_nil x)
flag_without x false a b p q = without_cons x b [] q (without_nil x)

-- no byte below the comma is in the parameters: no quote, no LF

pub decimal_low : (b : ℕ) → b < 44 → (z : ℤ) → Without b (decimal z)
decimal_low b h z = decimal_without b (simp (lt-leb 48 b (omega arith))) (λ e. omega arith) z

above : List ℕ → Bool
above [] = true
above (x ∷ s) = leb 44 x && above s

above_free : (b : ℕ) → b < 44 → (s : List ℕ) → above s ≡ true → Without b s
unfolding above
above_free b h [] a = refl
above_free b h (x ∷ s) a = let k = and_both (leb 44 x) (above s) a in without_cons b x s (λ e. omega (arith, leb-true 44 x k.0)) (above_free b h s k.1)

type_above : (y : Symbology) → above (type_of y) ≡ true
unfolding above
type_above (Code128 Ucc) = refl
type_above (Code128 Automatic) = refl
type_above (Code128 Ean) = refl
type_above (Interleaved false) = refl
type_above (Interleaved true) = refl
type_above (Code39 false) = refl
type_above (Code39 true) = refl
type_above Ean13 = refl
type_above Ean8 = refl
type_above UpcA = refl
type_above UpcE = refl
type_above Unlisted = refl

flag_low : (b : ℕ) → b < 44 → (f : Bool) (x y : ℕ) → 44 ≤ x → 44 ≤ y → Without b (flagged f x y)
flag_low b h f x y p q = flag_without b f x y (λ e. omega arith) (λ e. omega arith)

pub text_low : (b : ℕ) → b < 44 → (p : LabelPosition) (o : FieldOrientation) (f : FontScale) (reverse : Bool) → Without b (text_params p o f reverse)
unfolding text_params
text_low b l p o f reverse =
    numbers_without b (p.x ∷ p.y ∷ turns o ∷ f.font ∷ f.horizontal ∷ f.vertical ∷ []) (flagged reverse 82 78) (λ k. omega arith) (decimal_low b l) (flag_low b l reverse 82 78 (omega arith) (omega arith))

pub text_ends : (p : LabelPosition) (o : FieldOrientation) (f : FontScale) (reverse : Bool) → Ends (text_params p o f reverse)
unfolding text_params
text_ends p o f reverse = then_ends (p.x ∷ p.y ∷ turns o ∷ f.font ∷ f.horizontal ∷ f.vertical ∷ []) (flagged reverse 82 78) (flag_ends reverse 82 78 (omega arith) (omega arith) (omega arith) (omega arith))

pub bar_low : (x : ℕ) → x < 44 → (p : LabelPosition) (b : Bars) (y : Symbology) (w : ℤ) → Without x (bar_params p b y w)
unfolding bar_params
bar_low x l p b y w =
    let e : List ℕ = flagged b.line 66 78 in
    let t : List ℕ = numbers_then (b.narrow ∷ w ∷ b.height ∷ []) e in
    numbers_without x (p.x ∷ p.y ∷ turns b.orientation ∷ []) (closed (type_of y) t) (λ k. omega arith) (decimal_low x l)
    (without_append x (type_of y) (44 ∷ t) (above_free x l (type_of y) (type_above y))
    (without_cons x 44 t (λ k. omega arith) (numbers_without x (b.narrow ∷ w ∷ b.height ∷ []) e (λ k. omega arith) (decimal_low x l) (flag_low x l b.line 66 78 (omega arith) (omega arith)))))

pub bar_ends : (p : LabelPosition) (b : Bars) (y : Symbology) (w : ℤ) → Ends (bar_params p b y w)
unfolding bar_params
bar_ends p b y w =
    let e : List ℕ = flagged b.line 66 78 in
    let t : List ℕ = numbers_then (b.narrow ∷ w ∷ b.height ∷ []) e in
    then_ends (p.x ∷ p.y ∷ turns b.orientation ∷ []) (closed (type_of y) t)
    (ends_append (type_of y) (44 ∷ t) (ends_append (44 ∷ []) t (then_ends (b.narrow ∷ w ∷ b.height ∷ []) e (flag_ends b.line 66 78 (omega arith) (omega arith) (omega arith) (omega arith)))))

-- `A`

module _ (p : LabelPosition) (o : FieldOrientation) (f : FontScale) (reverse : Bool) (hx : In32 p.x) (hy : In32 p.y) (hf : In32 f.font) (hh : In32 f.horizontal) (hv : In32 f.vertical) (lh : le_z (pos 1) f.horizontal ≡ true) (lv : le_z (pos 1) f.vertical ≡ true) where
  text_fields_lem : text_fields (text_params p o f reverse) ≡ record { at = p; rotation = turns o; scale = f; reverse = reverse }
  unfolding text_params text_fields
  text_fields_lem =
      let n = f.font in let h = f.horizontal in let v = f.vertical in
      let e : List ℕ = flagged reverse 82 78 in
      simp (
        before_then p.x (p.y ∷ turns o ∷ n ∷ h ∷ v ∷ []) e,
        after_then p.x (p.y ∷ turns o ∷ n ∷ h ∷ v ∷ []) e,
        before_then p.y (turns o ∷ n ∷ h ∷ v ∷ []) e,
        after_then p.y (turns o ∷ n ∷ h ∷ v ∷ []) e,
        before_then (turns o) (n ∷ h ∷ v ∷ []) e,
        after_then (turns o) (n ∷ h ∷ v ∷ []) e,
        before_then n (h ∷ v ∷ []) e,
        after_then n (h ∷ v ∷ []) e,
        before_then h (v ∷ []) e,
        after_then h (v ∷ []) e,
        before_then v [] e,
        after_then v [] e,
        none_then e,
        point_decimal p.x p.y hx hy,
        field_decimal (pos 0) (turns o) (turns_in o),
        field_decimal (pos 1) n hf,
        size_decimal (pos 1) h hh lh,
        size_decimal (pos 1) v hv lv,
        reverse_flag reverse,
      )

  text_count : length (fields (text_params p o f reverse)) ≡ 7
  unfolding text_params
  text_count =
      fields_then (p.x ∷ p.y ∷ turns o ∷ f.font ∷ f.horizontal ∷ f.vertical ∷ []) (flagged reverse 82 78)
      ∙ ap (λ (l : List (List ℕ)). 6 + length l) (fields_all (flagged reverse 82 78) (flag_without 44 reverse 82 78 (λ e. omega arith) (λ e. omega arith)))

  text_read : (d : DataSpan) (r : LabelPosition) → text_reading (text_params p o f reverse) d r ≡ text_element (record { at = p; rotation = turns o; scale = f; reverse = reverse }) d r
  unfolding text_reading
  text_read d r = rw (text_count, text_fields_lem) refl

  -- the whole line
  pub text_line_lem : (d : List ℕ) (r : LabelPosition) → 0 < length d → read_line (quoted_line Text (text_params p o f reverse) d) r
      ≡ text_element (record { at = p; rotation = turns o; scale = f; reverse = reverse }) (span_in (text_params p o f reverse) d) r
  text_line_lem d r l =
      quoted_read Text (text_params p o f reverse) d (text_low 34 (omega arith) p o f reverse) (text_ends p o f reverse) r l
      ∙ text_read (span_in (text_params p o f reverse) d) r

-- `B`

-- its type
type_read : (y : Symbology) → is_listed y ≡ true → symbology_of (trim (type_of y)) ≡ y
unfolding symbology_of
type_read (Code128 Ucc) e = refl
type_read (Code128 Automatic) e = refl
type_read (Code128 Ean) e = refl
type_read (Interleaved false) e = refl
type_read (Interleaved true) e = refl
type_read (Code39 false) e = refl
type_read (Code39 true) e = refl
type_read Ean13 e = refl
type_read Ean8 e = refl
type_read UpcA e = refl
type_read UpcE e = refl
type_read Unlisted e = absurd (true≢false (sym e))

-- no comma, no quote in it
type_no_comma : (y : Symbology) → Without 44 (type_of y)
type_no_comma (Code128 Ucc) = refl
type_no_comma (Code128 Automatic) = refl
type_no_comma (Code128 Ean) = refl
type_no_comma (Interleaved false) = refl
type_no_comma (Interleaved true) = refl
type_no_comma (Code39 false) = refl
type_no_comma (Code39 true) = refl
type_no_comma Ean13 = refl
type_no_comma Ean8 = refl
type_no_comma UpcA = refl
type_no_comma UpcE = refl
type_no_comma Unlisted = refl

module _ (p : LabelPosition) (b : Bars) (y : Symbology) (w : ℤ) (hx : In32 p.x) (hy : In32 p.y) (hn : In32 b.narrow) (hw : In32 w) (hh : In32 b.height) (ln : le_z (pos 1) b.narrow ≡ true) (lh : le_z (pos 1) b.height ≡ true) (ly : is_listed y ≡ true) where
  -- the bars as they are read
  abbrev pub bars_read : DataSpan → BarcodeRead
  bars_read d = record { orientation = b.orientation; bars = record { narrow = b.narrow; wide = w; height = b.height; line = b.line }; position = p; «data» = d }

  bar_fields : barcode_fields (bar_params p b y w) ≡ record { at = p; rotation = turns b.orientation; symbology = y; bars = record { narrow = b.narrow; wide = w; height = b.height; line = b.line } }
  unfolding bar_params barcode_fields
  bar_fields =
      let o = turns b.orientation in let n = b.narrow in let h = b.height in
      let e : List ℕ = flagged b.line 66 78 in
      let t : List ℕ = closed (type_of y) (numbers_then (n ∷ w ∷ h ∷ []) e) in
      simp (
        before_then p.x (p.y ∷ o ∷ []) t,
        after_then p.x (p.y ∷ o ∷ []) t,
        before_then p.y (o ∷ []) t,
        after_then p.y (o ∷ []) t,
        before_then o [] t,
        after_then o [] t,
        none_then t,
        before_here 44 (type_of y) (numbers_then (n ∷ w ∷ h ∷ []) e) (type_no_comma y),
        after_here 44 (type_of y) (numbers_then (n ∷ w ∷ h ∷ []) e) (type_no_comma y),
        before_then n (w ∷ h ∷ []) e,
        after_then n (w ∷ h ∷ []) e,
        before_then w (h ∷ []) e,
        after_then w (h ∷ []) e,
        before_then h [] e,
        after_then h [] e,
        none_then e,
        point_decimal p.x p.y hx hy,
        field_decimal (pos 0) o (turns_in b.orientation),
        type_read y ly,
        size_decimal (pos 1) n hn ln,
        field_decimal (pos 2) w hw,
        size_decimal (pos 10) h hh lh,
        line_flag b.line,
      )

  bar_count : length (fields (bar_params p b y w)) ≡ 8
  unfolding bar_params
  bar_count =
      let e : List ℕ = flagged b.line 66 78 in
      let t : List ℕ = numbers_then (b.narrow ∷ w ∷ b.height ∷ []) e in
      omega (
        arith,
        fields_then (p.x ∷ p.y ∷ turns b.orientation ∷ []) (closed (type_of y) t),
        ap length (fields_closed (type_of y) t (type_no_comma y)),
        fields_then (b.narrow ∷ w ∷ b.height ∷ []) e,
        ap length (fields_all e (flag_without 44 b.line 66 78 (λ k. omega arith) (λ k. omega arith))),
      )

  bar_read : (d : DataSpan) → barcode_reading (bar_params p b y w) d origin ≡ barcode_element y (bars_read d)
  unfolding barcode_reading barcode_at
  bar_read d = rw (bar_count, bar_fields) (rw (ly, placed_origin p.x p.y hx hy, turned b.orientation) refl)

  pub bar_line : (d : List ℕ) → 0 < length d → read_line (quoted_line Barcode (bar_params p b y w) d) origin ≡ barcode_element y (bars_read (span_in (bar_params p b y w) d))
  bar_line d l =
      quoted_read Barcode (bar_params p b y w) d (bar_low 34 (omega arith) p b y w) (bar_ends p b y w) origin l
      ∙ bar_read (span_in (bar_params p b y w) d)
