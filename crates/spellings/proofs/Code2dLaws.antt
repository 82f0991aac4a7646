-- 2D bar codes as they are written, read back at reference 0,0: their options, then the whole line.
-- Assumes nothing.
use mathlib.Core.Path.{◌≡◌, refl, sym, ap, ◌∙◌}
use mathlib.Core.Bool.{Bool, true, false, true≢false, ◌&&◌, ◌||◌}
use mathlib.Core.List.{List, [], ◌∷◌}
use Prim.Native.Nat.{ℕ, ◌<◌, ◌≤◌}
use native.Mathlib.Omega.{arith}
use lib.ListN.{length}
use lib.IntN.{ℤ, pos, negsuc}
use lib.Signed.{le_z}
use borrow.Author.Tests.{le-leb, le-ltb}
use Rattle.text.specs.Blank.{trim}
use Rattle.text.specs.Fields.{same, before, after, fields}
use Rattle.text.proofs.BoolLaws.{test, and_both}
use Rattle.numbers.specs.Int.{eq_z}
use Rattle.numbers.proofs.NumberLaws.{number_none}
use Rattle.elements.specs.declared.BarcodeAztec.{BarcodeAztec}
use Rattle.elements.specs.declared.BarcodeDatamatrix.{BarcodeDatamatrix}
use Rattle.elements.specs.declared.BarcodePdf417.{BarcodePdf417}
use Rattle.elements.specs.declared.BarcodeQr.{BarcodeQr}
use Rattle.elements.specs.declared.FieldOrientation.{FieldOrientation}
use Rattle.elements.specs.declared.FieldOrientation.TheVariants.{Normal, Rotated90, Rotated180, Rotated270}
use Rattle.elements.specs.declared.QrErrorCorrectionLevel.{QrErrorCorrectionLevel}
use Rattle.elements.specs.declared.QrErrorCorrectionLevel.TheVariants.{H, Q, M, L}
use Rattle.elements.specs.declared.DataSpan.{DataSpan}
use Rattle.elements.specs.declared.LabelPosition.{LabelPosition}
use Rattle.parameters.specs.declared.position.Placed.TheVariants as placing
use Rattle.command_letters.specs.declared.command.DataCommand.TheVariants.{Barcode2d}
use Rattle.commands.specs.Line.{read_line}
use Rattle.barcodes_2d.specs.declared.barcode_2d.Symbology2d.{Symbology2d}
use Rattle.barcodes_2d.specs.declared.barcode_2d.Symbology2d.TheVariants.{Aztec, Datamatrix, Maxicode, Pdf417, Qr, Unlisted}
use Rattle.decimals.specs.Decimal.{decimal}
use Rattle.decimals.specs.Joined.{Without, closed}
use Rattle.decimals.proofs.JoinedLaws.{before_here, after_here, without_append, without_cons, fields_closed}
use Rattle.decimals.proofs.ReadLaws.{Ends, ends_append, field_decimal}
use Rattle.spellings.specs.Quoted.{quoted_line, span_in}
use Rattle.spellings.proofs.QuotedLaws.{numbers_without, then_ends, fields_then, quoted_read}
use Rattle.barcodes_2d.specs.Options.{Setting, last_of, last_count, last_number, last_clamped}
use Rattle.barcodes_2d.specs.Barcode2d.{between, aztec_size, aztec_of, datamatrix_of, is_mode, mode_of, pdf417_module_width, pdf417_row_height, pdf417_truncate, pdf417_of, qr_of, level_first, level_of, symbology_of, barcode2d_at, barcode2d_reading}
use Rattle.barcodes_2d.specs.declared.options.Wanted.TheVariants as wanted
use Rattle.spellings.specs.Codes.{turns, flagged}
use Rattle.spellings.specs.Codes2d.{type_letter, is_listed2d, params2d, setting, options, aztec_options, datamatrix_options, maxicode_options, secured, pdf417_options, level_letter, qr_options, fine_aztec, fine_datamatrix, fine_pdf417, fine_qr}
use Rattle.spellings.proofs.FieldLaws.{In32, origin, placed_origin}
use Rattle.spellings.proofs.DrawLaws.{eq_z_true}
use Rattle.spellings.proofs.CodeLaws.{before_then, after_then, none_then, quote_free, turns_in, turned}
use Rattle.spellings.proofs.OptionLaws.{Fine, numbered, lettered, AllFine, none, some, options_read, fine_number, number_setting, clamp_within, from_one, options_ends, options_free}

pub within : (lo hi z : ℤ) → between lo hi z ≡ true → (le_z lo z ≡ true) × (le_z z hi ≡ true)
within lo hi z h = and_both (le_z lo z) (le_z z hi) h

-- a number between whole limits, as it is spelled
pub limited : (k : ℕ) (hi z : ℤ) → between (pos k) hi z ≡ true → le_z (pos 0) z ≡ true
limited k hi z h = from_one z k (within (pos k) hi z h).0

-- Aztec

pub size_whole : (z : ℤ) → aztec_size z ≡ z → le_z (pos 0) z ≡ true
unfolding aztec_size
size_whole (pos n) e = le-leb 0 n (omega arith)
size_whole (negsuc n) e = let k : ◌≡◌ {A = ℕ} 0 1 = cc in absurd (omega arith)

pub aztec_read : (b : BarcodeAztec) → In32 b.magnification → In32 b.size → fine_aztec b ≡ true → aztec_of (aztec_options b) ≡ b
unfolding aztec_of aztec_options fine_aztec last_clamped last_number
aztec_read b hm hs e =
    let k = and_both (between (pos 1) (pos 55) b.magnification) (eq_z (aztec_size b.size) b.size) e in
    let w = within (pos 1) (pos 55) b.magnification k.0 in
    let z = eq_z_true (aztec_size b.size) b.size k.1 in
    let o = options_read (setting 100 b.magnification) (setting 101 b.size ∷ []) (fine_number 100 b.magnification refl) (some (fine_number 101 b.size refl) none) in
    simp
    (o, number_setting b.magnification (from_one b.magnification 1 w.0) hm, number_setting b.size (size_whole b.size z) hs, clamp_within (pos 1) (pos 55) b.magnification w.0 w.1, z)

-- Data Matrix

pub datamatrix_read : (b : BarcodeDatamatrix) → In32 b.height → In32 b.columns → In32 b.rows → fine_datamatrix b ≡ true → datamatrix_of (datamatrix_options b) ≡ b
unfolding datamatrix_of datamatrix_options fine_datamatrix last_clamped last_count
datamatrix_read b hh hc hr e =
    let k = and_both (between (pos 1) (pos 40) b.height && le_z (pos 0) b.columns) (le_z (pos 0) b.rows) e in
    let j = and_both (between (pos 1) (pos 40) b.height) (le_z (pos 0) b.columns) k.0 in
    let w = within (pos 1) (pos 40) b.height j.0 in
    let o = options_read (setting 104 b.height) (setting 99 b.columns ∷ setting 114 b.rows ∷ [])
    (fine_number 104 b.height refl) (some (fine_number 99 b.columns refl) (some (fine_number 114 b.rows refl) none)) in
    simp
    (o, number_setting b.height (from_one b.height 1 w.0) hh, number_setting b.columns j.1 hc, number_setting b.rows k.1 hr, clamp_within (pos 1) (pos 40) b.height w.0 w.1)

-- MaxiCode, whatever its data

pub mode_whole : (m : ℤ) → is_mode m ≡ true → le_z (pos 0) m ≡ true
mode_whole (pos n) e = le-leb 0 n (omega arith)
mode_whole (negsuc n) e = absurd (true≢false (sym e))

pub maxicode_read : (m : ℤ) (d : List ℕ) → In32 m → is_mode m ≡ true → mode_of (maxicode_options m) d ≡ m
unfolding mode_of maxicode_options last_count
maxicode_read m d h e =
    let o = options_read (setting 109 m) [] (fine_number 109 m refl) none in
    simp (o, number_setting m (mode_whole m e) h, e)

-- QR

qr_fine : (b : BarcodeQr) (l : QrErrorCorrectionLevel) → AllFine (record { letter = 101; value = level_letter l ∷ [] } ∷ [])
qr_fine b H = some (lettered 72 refl refl refl) none
qr_fine b Q = some (lettered 81 refl refl refl) none
qr_fine b M = some (lettered 77 refl refl refl) none
qr_fine b L = some (lettered 76 refl refl refl) none

pub qr_read : (b : BarcodeQr) (l : QrErrorCorrectionLevel) → In32 b.magnification → fine_qr b ≡ true → qr_of (qr_options b l) ≡ b
unfolding qr_of qr_options fine_qr last_clamped
qr_read b l h e =
    let w = within (pos 1) (pos 100) b.magnification e in
    let o = options_read (setting 115 b.magnification) (record { letter = 101; value = level_letter l ∷ [] } ∷ []) (fine_number 115 b.magnification refl) (qr_fine b l) in
    simp (o, number_setting b.magnification (from_one b.magnification 1 w.0) h, clamp_within (pos 1) (pos 100) b.magnification w.0 w.1)

pub level_read : (b : BarcodeQr) (l : QrErrorCorrectionLevel) → level_of (qr_options b l) ≡ l
unfolding level_of qr_options
level_read b l =
    rw (options_read (setting 115 b.magnification) (record { letter = 101; value = level_letter l ∷ [] } ∷ []) (fine_number 115 b.magnification refl) (qr_fine b l)) (by_level l)
  where
    by_level : (l : QrErrorCorrectionLevel) → level_first (last_of wanted.Level 101 (setting 115 b.magnification ∷ record { letter = 101; value = level_letter l ∷ [] } ∷ [])) ≡ l
    by_level H = refl
    by_level Q = refl
    by_level M = refl
    by_level L = refl

-- PDF417

turn_whole : (o : FieldOrientation) → le_z (pos 0) (turns o) ≡ true
turn_whole Normal = refl
turn_whole Rotated90 = refl
turn_whole Rotated180 = refl
turn_whole Rotated270 = refl

-- what the test says
pub record Limits (b : BarcodePdf417) : Type 0 where
  pub row_low : le_z (pos 4) b.row_height ≡ true
  pub row_high : le_z b.row_height (pos 99) ≡ true
  pub columns : le_z (pos 0) b.columns ≡ true
  pub rows : le_z (pos 0) b.rows ≡ true
  pub module_low : le_z (pos 2) b.module_width ≡ true
  pub module_high : le_z b.module_width (pos 9) ≡ true
  pub secure : (eq_z b.security (negsuc 0) || between (pos 1) (pos 8) b.security) ≡ true

pub limits : (b : BarcodePdf417) → fine_pdf417 b ≡ true → Limits b
unfolding fine_pdf417
limits b e =
    let a = between (pos 4) (pos 99) b.row_height in
    let s = eq_z b.security (negsuc 0) || between (pos 1) (pos 8) b.security in
    let e4 = and_both (a && s && le_z (pos 0) b.columns && le_z (pos 0) b.rows) (between (pos 2) (pos 9) b.module_width) e in
    let e3 = and_both (a && s && le_z (pos 0) b.columns) (le_z (pos 0) b.rows) e4.0 in
    let e2 = and_both (a && s) (le_z (pos 0) b.columns) e3.0 in
    let e1 = and_both a s e2.0 in
    let r = within (pos 4) (pos 99) b.row_height e1.0 in
    let m = within (pos 2) (pos 9) b.module_width e4.1 in
    record { row_low = r.0; row_high = r.1; columns = e2.1; rows = e3.1; module_low = m.0; module_high = m.1; secure = e1.1 }

pub record Sizes (b : BarcodePdf417) : Type 0 where
  pub row : In32 b.row_height
  pub secure : In32 b.security
  pub columns : In32 b.columns
  pub rows : In32 b.rows
  pub modules : In32 b.module_width

-- the settings behind the first
abbrev rest : BarcodePdf417 → List Setting → List Setting
rest b os =
    setting 120 b.module_width ∷ setting 121 b.row_height ∷ setting 108 b.columns ∷ setting 114 b.rows
    ∷ record { letter = 116; value = flagged b.truncate 49 48 } ∷ os

flag_fine : (f : Bool) → Fine (record { letter = 116; value = flagged f 49 48 })
flag_fine true = numbered refl refl (omega arith)
flag_fine false = numbered refl refl (omega arith)

rest_fine : (b : BarcodePdf417) (os : List Setting) → AllFine os → AllFine (rest b os)
rest_fine b os f =
    some (fine_number 120 b.module_width refl)
    (some (fine_number 121 b.row_height refl)
    (some (fine_number 108 b.columns refl)
    (some (fine_number 114 b.rows refl)
    (some (flag_fine b.truncate) f))))

truncated : (f : Bool) → same (flagged f 49 48) (49 ∷ []) ≡ f
truncated true = refl
truncated false = refl

module _ (b : BarcodePdf417) (f : Sizes b) (l : Limits b) where
  -- b with another security
  abbrev with_security : ℤ → BarcodePdf417
  with_security z = record { orientation = b.orientation; row_height = b.row_height; security = z; columns = b.columns; rows = b.rows; truncate = b.truncate; module_width = b.module_width }

  pdf_plain : pdf417_of (options (setting 111 (turns b.orientation)) (rest b [])) ≡ with_security (negsuc 0)
  unfolding pdf417_of pdf417_module_width pdf417_row_height pdf417_truncate last_clamped last_count last_number
  pdf_plain =
      simp (
        options_read (setting 111 (turns b.orientation)) (rest b []) (fine_number 111 (turns b.orientation) refl) (rest_fine b [] none),
        number_setting (turns b.orientation) (turn_whole b.orientation) (turns_in b.orientation),
        number_setting b.module_width (from_one b.module_width 2 l.module_low) f.modules,
        number_setting b.row_height (from_one b.row_height 4 l.row_low) f.row,
        number_setting b.columns l.columns f.columns,
        number_setting b.rows l.rows f.rows,
        clamp_within (pos 2) (pos 9) b.module_width l.module_low l.module_high,
        clamp_within (pos 4) (pos 99) b.row_height l.row_low l.row_high,
        truncated b.truncate,
        turned b.orientation,
        number_none [] refl,
      )

  pdf_secure : between (pos 1) (pos 8) b.security ≡ true → pdf417_of (options (setting 111 (turns b.orientation)) (rest b (setting 115 b.security ∷ []))) ≡ b
  unfolding pdf417_of pdf417_module_width pdf417_row_height pdf417_truncate last_clamped last_count last_number
  pdf_secure e =
      let w = within (pos 1) (pos 8) b.security e in
      simp (
        options_read (setting 111 (turns b.orientation)) (rest b (setting 115 b.security ∷ [])) (fine_number 111 (turns b.orientation) refl) (rest_fine b (setting 115 b.security ∷ []) (some (fine_number 115 b.security refl) none)),
        number_setting (turns b.orientation) (turn_whole b.orientation) (turns_in b.orientation),
        number_setting b.module_width (from_one b.module_width 2 l.module_low) f.modules,
        number_setting b.row_height (from_one b.row_height 4 l.row_low) f.row,
        number_setting b.columns l.columns f.columns,
        number_setting b.rows l.rows f.rows,
        number_setting b.security (from_one b.security 1 w.0) f.secure,
        clamp_within (pos 2) (pos 9) b.module_width l.module_low l.module_high,
        clamp_within (pos 4) (pos 99) b.row_height l.row_low l.row_high,
        clamp_within (pos 1) (pos 8) b.security w.0 w.1,
        truncated b.truncate,
        turned b.orientation,
      )

pub pdf417_read : (b : BarcodePdf417) → Sizes b → fine_pdf417 b ≡ true → pdf417_of (pdf417_options b) ≡ b
unfolding pdf417_options
pdf417_read b f e =
    let l = limits b e in
    test (eq_z b.security (negsuc 0))
    (λ t. simp t (pdf_plain b f l ∙ ap (with_security b f l) (sym (eq_z_true b.security (negsuc 0) t))))
    (λ t. simp t (pdf_secure b f l (rw t at l.secure)))

-- the whole line

type_read : (y : Symbology2d) → is_listed2d y ≡ true → symbology_of (trim (type_letter y ∷ [])) ≡ y
unfolding symbology_of
type_read Aztec e = refl
type_read Datamatrix e = refl
type_read Maxicode e = refl
type_read Pdf417 e = refl
type_read Qr e = refl
type_read Unlisted e = absurd (true≢false (sym e))

pub type_free : (b : ℕ) (y : Symbology2d) → b < 63 → Without b (type_letter y ∷ [])
type_free b Aztec h = without_cons b 65 [] (λ e. omega arith) refl
type_free b Datamatrix h = without_cons b 68 [] (λ e. omega arith) refl
type_free b Maxicode h = without_cons b 77 [] (λ e. omega arith) refl
type_free b Pdf417 h = without_cons b 80 [] (λ e. omega arith) refl
type_free b Qr h = without_cons b 81 [] (λ e. omega arith) refl
type_free b Unlisted h = without_cons b 63 [] (λ e. omega arith) refl

module _ (p : LabelPosition) (y : Symbology2d) (os : List ℕ) (hx : In32 p.x) (hy : In32 p.y) (ly : is_listed2d y ≡ true) where
  enough : 3 ≤ length (fields (params2d p (type_letter y) os))
  unfolding params2d
  enough =
      omega (
        arith,
        fields_then (p.x ∷ p.y ∷ []) (closed (type_letter y ∷ []) os),
        ap length (fields_closed (type_letter y ∷ []) os (type_free 44 y (omega arith))),
      )

  -- x, y, type, and what follows
  first_is : before 44 (params2d p (type_letter y) os) ≡ decimal p.x
  unfolding params2d
  first_is = before_then p.x (p.y ∷ []) (closed (type_letter y ∷ []) os)

  second_is : before 44 (after 44 (params2d p (type_letter y) os)) ≡ decimal p.y
  unfolding params2d
  second_is = ap (before 44) (after_then p.x (p.y ∷ []) (closed (type_letter y ∷ []) os)) ∙ before_then p.y [] (closed (type_letter y ∷ []) os)

  behind_point : after 44 (after 44 (params2d p (type_letter y) os)) ≡ closed (type_letter y ∷ []) os
  unfolding params2d
  behind_point =
      let t : List ℕ = closed (type_letter y ∷ []) os in
      ap (after 44) (after_then p.x (p.y ∷ []) t) ∙ after_then p.y [] t ∙ none_then t

  code2d_read : (t : List ℕ) (d : DataSpan) → barcode2d_reading (params2d p (type_letter y) os) t d origin ≡ barcode2d_at y os t (placing.At p) d
  unfolding barcode2d_reading
  code2d_read t d =
      let w = type_free 44 y (omega arith) in
      rw (le-ltb (length (fields (params2d p (type_letter y) os))) 3 enough, first_is, second_is, behind_point)
      (rw (field_decimal (pos 0) p.x hx, field_decimal (pos 0) p.y hy, before_here 44 (type_letter y ∷ []) os w, after_here 44 (type_letter y ∷ []) os w, type_read y ly, placed_origin p.x p.y hx hy) refl)

  -- with options that end with no blank and no comma, and have no quote
  pub code2d_line : (d : List ℕ) → 0 < length d → Without 34 os → Ends os → read_line (quoted_line Barcode2d (params2d p (type_letter y) os) d) origin
      ≡ barcode2d_at y os d (placing.At p) (span_in (params2d p (type_letter y) os) d)
  unfolding params2d
  code2d_line d l w e =
      let t : List ℕ = closed (type_letter y ∷ []) os in
      quoted_read Barcode2d (params2d p (type_letter y) os) d
      (numbers_without 34 (p.x ∷ p.y ∷ []) t (λ k. omega arith) quote_free (without_append 34 (type_letter y ∷ []) (44 ∷ os) (type_free 34 y (omega arith)) (without_cons 34 44 os (λ k. omega arith) w)))
      (then_ends (p.x ∷ p.y ∷ []) t (ends_append (type_letter y ∷ []) (44 ∷ os) (ends_append (44 ∷ []) os e)))
      origin l
      ∙ code2d_read d (span_in (params2d p (type_letter y) os) d)

-- the options of each type end with no blank, and have no quote and no LF

pub record Tidy (os : List ℕ) : Type 0 where
  pub ends : Ends os
  pub free : (b : ℕ) → b < 44 → Without b os

tidy : (o : Setting) (os : List Setting) → Fine o → AllFine os → Tidy (options o os)
tidy o os f fs = record { ends = options_ends o os f fs; free = λ b h. options_free b h o os f fs }

pub aztec_tidy : (b : BarcodeAztec) → Tidy (aztec_options b)
unfolding aztec_options
aztec_tidy b = tidy (setting 100 b.magnification) (setting 101 b.size ∷ []) (fine_number 100 b.magnification refl) (some (fine_number 101 b.size refl) none)

pub datamatrix_tidy : (b : BarcodeDatamatrix) → Tidy (datamatrix_options b)
unfolding datamatrix_options
datamatrix_tidy b =
    tidy (setting 104 b.height) (setting 99 b.columns ∷ setting 114 b.rows ∷ [])
    (fine_number 104 b.height refl) (some (fine_number 99 b.columns refl) (some (fine_number 114 b.rows refl) none))

pub maxicode_tidy : (m : ℤ) → Tidy (maxicode_options m)
unfolding maxicode_options
maxicode_tidy m = tidy (setting 109 m) [] (fine_number 109 m refl) none

pub qr_tidy : (b : BarcodeQr) (l : QrErrorCorrectionLevel) → Tidy (qr_options b l)
unfolding qr_options
qr_tidy b l = tidy (setting 115 b.magnification) (record { letter = 101; value = level_letter l ∷ [] } ∷ []) (fine_number 115 b.magnification refl) (qr_fine b l)

secured_fine : (z : ℤ) → AllFine (secured z)
secured_fine z = test (eq_z z (negsuc 0)) (λ e. simp e none) (λ e. simp e (some (fine_number 115 z refl) none))

pub pdf417_tidy : (b : BarcodePdf417) → Tidy (pdf417_options b)
unfolding pdf417_options
pdf417_tidy b = tidy (setting 111 (turns b.orientation)) (rest b (secured b.security)) (fine_number 111 (turns b.orientation) refl) (rest_fine b (secured b.security) (secured_fine b.security))
