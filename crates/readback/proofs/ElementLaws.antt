-- Every writable element: its units stand, and make it pending (`element_makes`). Assumes nothing.
use mathlib.Core.Path.{◌≡◌, refl, ap}
use mathlib.Core.Bool.{true, ◌&&◌, false}
use mathlib.Core.List.{List, [], ◌∷◌, ◌++◌}
use Prim.Native.Nat.{ℕ, ◌<◌, ◌≤◌}
use native.Mathlib.Omega.{arith}
use lib.Dec.{leb}
use lib.Ieee.{Float}
use lib.IntN.{pos, nat_abs}
use Rattle.parameters.specs.declared.reading.LineReading.TheVariants as reading
use lib.ListN.{length}
use lib.Signed.{le_z}
use Rattle.text.specs.Utf8.{decode}
use Rattle.text.proofs.BoolLaws.{and_both}
use Rattle.elements.specs.declared.DataSpan.{DataSpan}
use Rattle.elements.specs.declared.GraphicField.{GraphicField}
use Rattle.elements.specs.declared.LabelElement.{LabelElement}
use Rattle.elements.specs.declared.LabelElement.TheVariants as element
use Rattle.elements.specs.Given.{longest}
use Rattle.elements.specs.Plain.{extent, bars, plain_of}
use Rattle.elements.specs.Spans.{In}
use Rattle.frame_bytes.specs.Frame.{part}
use Rattle.graphics.specs.Block.{opens_gw}
use Rattle.command_letters.specs.Command.{is_reference, is_print, command_of}
use Rattle.command_letters.specs.declared.command.DataCommand.TheVariants.{Text}
use Rattle.barcodes.specs.declared.barcode.Symbology.TheVariants.{Code128, Interleaved, Code39, Ean13, Ean8, UpcA, UpcE}
use Rattle.barcodes.specs.Barcode.{code128, interleaved, code39, ean13, ean8, upc_a, upc_e}
use Rattle.barcodes_2d.specs.declared.barcode_2d.Symbology2d.TheVariants as two
use Rattle.barcodes_2d.specs.Barcode2d.{aztec_reading, datamatrix_reading, maxicode_reading, pdf417_reading, qr_reading}
use Rattle.commands.specs.Line.{read_line}
use Rattle.walk_theory.specs.Language.{keep}
use Rattle.walk_theory.specs.Labels.{goes, run}
use Rattle.walk_theory.specs.Normal.{Solid, none_left, and_solid}
use Rattle.grammar.specs.WellFormed.{well_formed}
use Rattle.grammar.specs.Units.{EplUnit, block, line, all_nil, Command}
use Rattle.grammar.specs.Epl.{origin, act_of, acts, epl}
use Rattle.grammar.proofs.LineFaultsLaws.{well_faultless}
use Rattle.grammar.proofs.UnitsOpensLaws.{opens_not}
use Rattle.spellings.specs.Codes.{text_params}
use Rattle.spellings.specs.Codes2d.{fine_qr, aztec_options, datamatrix_options, maxicode_options, pdf417_options, qr_options}
use Rattle.spellings.specs.Fonts.{fine_ratio}
use Rattle.spellings.specs.Writable.{fine_bars, whole_rows, fine_fields, inside, line_text, writable}
use Rattle.spellings.proofs.LineLaws.{box_written, diagonal_written}
use Rattle.spellings.proofs.CodeLaws.{text_low, text_ends}
use Rattle.spellings.proofs.Code2dLaws.{aztec_read, datamatrix_read, maxicode_read, qr_read, level_read, pdf417_read, aztec_tidy, datamatrix_tidy, maxicode_tidy, qr_tidy, pdf417_tidy}
use Rattle.spellings.proofs.FontLaws.{text_written, ratio_is}
use Rattle.readback.specs.Shown.{Shown, shown}
use Rattle.readback.specs.Fits.{Fits}
use Rattle.readback.specs.Exact.{Yieldable}
use Rattle.readback.specs.Written.{header_for, units_of}
use Rattle.readback.proofs.UnitLaws.{Yielding, command_of_lem, LineData, line_data, box_lf, box_gw, diagonal_lf, diagonal_gw, data_yielding, bars_yielding, code_yielding}
use Rattle.readback.proofs.GraphicLaws.{there, block_stands, block_acts, block_same, block_it}

-- units that stand, and make the element pending
pub record Makes (us : List EplUnit) (s : List ℕ) (e : LabelElement) : Type 0 where
  pub yieldable : Yieldable s e
  pub behind : List EplUnit
  pub front : us ≡ yieldable.unit ∷ behind
  pub solid : Solid epl us
  pub runs : (p : List Shown) → run epl Shown shown origin p us ≡ goes [] origin (p ++ (shown s e ∷ []))

line_makes : {t s : List ℕ} {e : LabelElement} → In (length s) e → Yielding t s e → Makes (line t ∷ []) s e
line_makes {t} {s} {e} i y =
    record {
      yieldable = record { within = i; unit = line t; rest = []; stands = command_of_lem y; it = y.it; yields = ap (act_of origin) y.reads; same = y.same };
      behind = [];
      front = refl;
      solid = and_solid (λ rest. command_of_lem y) none_left;
      runs = λ p. rw (y.reads, y.same) refl;
    }

-- the LF behind a block is an empty line

empty_well : well_formed [] ≡ true
unfolding well_formed command_of is_reference is_print
empty_well = refl

empty_gw : opens_gw [] ≡ false
unfolding opens_gw
empty_gw = refl

empty_command : Command []
empty_command = record { one_line = all_nil; no_graphic = opens_not [] empty_gw; is_well_formed = well_faultless [] empty_well }

empty_keeps : acts origin (line []) ≡ keep origin
unfolding read_line command_of is_reference is_print
empty_keeps = refl

module _ (s : List ℕ) (short : length s ≤ longest) where
  block_makes : (g : GraphicField) → Fits (element.GraphicField g) → inside s g.«data» ≡ true → le_z (pos 0) g.row_bytes ≡ true
      → whole_rows (length (part s g.«data»)) (nat_abs g.row_bytes) ≡ true
      → Makes (units_of s (element.GraphicField g)) s (element.GraphicField g)
  block_makes g f i v w =
      let hs : length s < 2147483648 = omega arith in
      let hr = f.numbers.0 in
      let st = block_stands s g f.across f.down hr hs i v w in
      let ac = block_acts s g f.across f.down hr hs i v w in
      let sa = block_same s g f.across f.down hr hs i v w in
      record {
        yieldable = record { within = (there s g f.across f.down hr hs i v w, tt); unit = block [] (header_for g.position g.row_bytes (part s g.«data»)) (part s g.«data»); rest = []; stands = st; it = block_it s g f.across f.down hr hs i v w; yields = ac; same = sa };
        behind = line [] ∷ [];
        front = refl;
        solid = and_solid (λ rest. st) (and_solid (λ rest. empty_command) none_left);
        runs = λ p. rw ac (rw empty_keeps (ap (λ (x : Shown). goes [] origin (p ++ (x ∷ []))) sa));
      }

  -- the two tests of an element with the data d
  both_of : (d : DataSpan) (e : LabelElement) → (inside s d && line_text (part s d) && fine_fields (plain_of e).position (part s d) (plain_of e).fields) ≡ true
      → LineData s d × (fine_fields (plain_of e).position (part s d) (plain_of e).fields ≡ true)
  both_of d e h = let k = and_both (inside s d && line_text (part s d)) (fine_fields (plain_of e).position (part s d) (plain_of e).fields) h in (line_data s d k.0, k.1)

  pub element_makes : (e : LabelElement) → Fits e → writable s e ≡ true → Makes (units_of s e) s e
  unfolding writable code128 interleaved code39 ean13 ean8 upc_a upc_e aztec_reading datamatrix_reading maxicode_reading pdf417_reading qr_reading
  element_makes (element.Text e) f h =
      let k = both_of e.text (element.Text e) h in
      let o = e.font.rotation in let ps = text_params e.position o e.scale e.reverse_print in
      line_makes (k.0.there, tt)
      (data_yielding (λ q. element.Text (record { position = e.position; reverse_print = e.reverse_print; scale = e.scale; font = e.font; text = q })) (λ q d. refl) (λ q. refl)
      Text ps s e.text k.0 (text_low 34 (omega arith) e.position o e.scale e.reverse_print) (text_low 10 (omega arith) e.position o e.scale e.reverse_print) (text_ends e.position o e.scale e.reverse_print)
      (text_written e.position e.scale e.reverse_print e.font (part s e.text) f.across f.down f.numbers.0 f.numbers.1.0 f.numbers.1.1.0 (record { height = f.floats.0; width = f.floats.1.0 }) k.1 k.0.some))
  element_makes (element.GraphicBox e) f h =
      let p = e.position in let x = extent e.width e.height e.border_thickness in
      line_makes tt (record { it = element.GraphicBox e; reads = box_written p x (record { across = f.across; down = f.down; width = f.numbers.0; height = f.numbers.1.0; thick = f.numbers.1.1.0 }) e.line_color h; same = refl; no_lf = box_lf p x e.line_color; no_graphic = box_gw p x e.line_color })
  element_makes (element.DiagonalLine e) f h =
      let p = e.position in let x = extent e.width e.height e.border_thickness in
      line_makes tt (record { it = element.DiagonalLine e; reads = diagonal_written p x (record { across = f.across; down = f.down; width = f.numbers.0; height = f.numbers.1.0; thick = f.numbers.1.1.0 }) e.top_to_bottom h; same = refl; no_lf = diagonal_lf p x e.top_to_bottom; no_graphic = diagonal_gw p x e.top_to_bottom })
  element_makes (element.GraphicField e) f h =
      let k = and_both (inside s e.«data») (le_z (pos 0) e.row_bytes && whole_rows (length (part s e.«data»)) (nat_abs e.row_bytes)) h in
      let j = and_both (le_z (pos 0) e.row_bytes) (whole_rows (length (part s e.«data»)) (nat_abs e.row_bytes)) k.1 in
      block_makes e f k.0 j.0 j.1
  element_makes (element.Barcode128 e) f h =
      let k = both_of e.«data» (element.Barcode128 e) h in
      line_makes (k.0.there, tt)
      (bars_yielding (λ q. element.Barcode128 (record { barcode = e.barcode; width = e.width; position = e.position; «data» = q })) (λ q d. refl) (λ q. refl)
      s e.position (bars e.barcode.orientation e.width e.barcode.height e.barcode.line) (pos 2) e.«data» (Code128 e.barcode.mode) refl f.across f.down f.numbers.0 f.numbers.1.0 (omega arith) k.1 k.0 (λ q. refl))
  element_makes (element.BarcodeEan13 e) f h =
      let k = both_of e.«data» (element.BarcodeEan13 e) h in
      line_makes (k.0.there, tt)
      (bars_yielding (λ q. element.BarcodeEan13 (record { barcode = e.barcode; width = e.width; position = e.position; «data» = q })) (λ q d. refl) (λ q. refl)
      s e.position (bars e.barcode.orientation e.width e.barcode.height e.barcode.line) (pos 2) e.«data» (Ean13) refl f.across f.down f.numbers.0 f.numbers.1.0 (omega arith) k.1 k.0 (λ q. refl))
  element_makes (element.BarcodeEan8 e) f h =
      let k = both_of e.«data» (element.BarcodeEan8 e) h in
      line_makes (k.0.there, tt)
      (bars_yielding (λ q. element.BarcodeEan8 (record { barcode = e.barcode; width = e.width; position = e.position; «data» = q })) (λ q d. refl) (λ q. refl)
      s e.position (bars e.barcode.orientation e.width e.barcode.height e.barcode.line) (pos 2) e.«data» (Ean8) refl f.across f.down f.numbers.0 f.numbers.1.0 (omega arith) k.1 k.0 (λ q. refl))
  element_makes (element.BarcodeUca e) f h =
      let k = both_of e.«data» (element.BarcodeUca e) h in
      line_makes (k.0.there, tt)
      (bars_yielding (λ q. element.BarcodeUca (record { barcode = e.barcode; width = e.width; position = e.position; «data» = q })) (λ q d. refl) (λ q. refl)
      s e.position (bars e.barcode.orientation e.width e.barcode.height e.barcode.line) (pos 2) e.«data» (UpcA) refl f.across f.down f.numbers.0 f.numbers.1.0 (omega arith) k.1 k.0 (λ q. refl))
  element_makes (element.BarcodeUcpe e) f h =
      let k = both_of e.«data» (element.BarcodeUcpe e) h in
      line_makes (k.0.there, tt)
      (bars_yielding (λ q. element.BarcodeUcpe (record { barcode = e.barcode; width = e.width; position = e.position; «data» = q })) (λ q d. refl) (λ q. refl)
      s e.position (bars e.barcode.orientation e.width e.barcode.height e.barcode.line) (pos 2) e.«data» (UpcE) refl f.across f.down f.numbers.0 f.numbers.1.0 (omega arith) k.1 k.0 (λ q. refl))
  element_makes (element.Barcode2of5 e) f h =
      let k = both_of e.«data» (element.Barcode2of5 e) h in
      let b = bars e.barcode.orientation e.width e.barcode.height e.barcode.line in
      let j = and_both (fine_bars b) (fine_ratio e.wide e.width e.width_ratio) k.1 in
      line_makes (k.0.there, tt)
      (bars_yielding (λ q. element.Barcode2of5 (record { barcode = e.barcode; width = e.width; wide = e.wide; width_ratio = e.width_ratio; position = e.position; «data» = q })) (λ q d. refl) (λ q. refl)
      s e.position b e.wide e.«data» (Interleaved e.barcode.check_digit) refl f.across f.down f.numbers.0 f.numbers.1.0 f.numbers.1.1.0 j.0 k.0
      (λ q. ap (λ (x : Float). reading.Element (element.Barcode2of5 (record { barcode = e.barcode; width = e.width; wide = e.wide; width_ratio = x; position = e.position; «data» = q }))) (ratio_is e.wide e.width e.width_ratio f.floats.0 j.1)))
  element_makes (element.Barcode39 e) f h =
      let k = both_of e.«data» (element.Barcode39 e) h in
      let b = bars e.barcode.orientation e.width e.barcode.height e.barcode.line in
      let j = and_both (fine_bars b) (fine_ratio e.wide e.width e.width_ratio) k.1 in
      line_makes (k.0.there, tt)
      (bars_yielding (λ q. element.Barcode39 (record { barcode = e.barcode; width = e.width; wide = e.wide; width_ratio = e.width_ratio; position = e.position; «data» = q })) (λ q d. refl) (λ q. refl)
      s e.position b e.wide e.«data» (Code39 e.barcode.check_digit) refl f.across f.down f.numbers.0 f.numbers.1.0 f.numbers.1.1.0 j.0 k.0
      (λ q. ap (λ (x : Float). reading.Element (element.Barcode39 (record { barcode = e.barcode; width = e.width; wide = e.wide; width_ratio = x; position = e.position; «data» = q }))) (ratio_is e.wide e.width e.width_ratio f.floats.0 j.1)))
  element_makes (element.BarcodePdf417 e) f h =
      let k = both_of e.«data» (element.BarcodePdf417 e) h in
      line_makes (k.0.there, tt)
      (code_yielding (λ q. element.BarcodePdf417 (record { barcode = e.barcode; position = e.position; «data» = q })) (λ q d. refl) (λ q. refl)
      s e.position e.«data» two.Pdf417 (pdf417_options e.barcode) refl f.across f.down k.0 (pdf417_tidy e.barcode) (λ q. rw (pdf417_read e.barcode (record { row = f.numbers.0; secure = f.numbers.1.0; columns = f.numbers.1.1.0; rows = f.numbers.1.1.1.0; modules = f.numbers.1.1.1.1.0 }) k.1) refl))
  element_makes (element.BarcodeAztec e) f h =
      let k = both_of e.«data» (element.BarcodeAztec e) h in
      line_makes (k.0.there, tt)
      (code_yielding (λ q. element.BarcodeAztec (record { barcode = e.barcode; position = e.position; «data» = q })) (λ q d. refl) (λ q. refl)
      s e.position e.«data» two.Aztec (aztec_options e.barcode) refl f.across f.down k.0 (aztec_tidy e.barcode) (λ q. rw (aztec_read e.barcode f.numbers.0 f.numbers.1.0 k.1) refl))
  element_makes (element.BarcodeDatamatrix e) f h =
      let k = both_of e.«data» (element.BarcodeDatamatrix e) h in
      line_makes (k.0.there, tt)
      (code_yielding (λ q. element.BarcodeDatamatrix (record { barcode = e.barcode; position = e.position; «data» = q })) (λ q d. refl) (λ q. refl)
      s e.position e.«data» two.Datamatrix (datamatrix_options e.barcode) refl f.across f.down k.0 (datamatrix_tidy e.barcode) (λ q. rw (datamatrix_read e.barcode f.numbers.0 f.numbers.1.0 f.numbers.1.1.0 k.1) refl))
  element_makes (element.BarcodeQr e) f h =
      let k = both_of e.«data» (element.BarcodeQr e) h in
      let j = and_both (fine_qr e.barcode) (leb (length (decode (part s e.«data»))) 9999) k.1 in
      line_makes (k.0.there, tt)
      (code_yielding (λ q. element.BarcodeQr (record { barcode = e.barcode; error_correction = e.error_correction; position = e.position; «data» = q })) (λ q d. refl) (λ q. refl)
      s e.position e.«data» two.Qr (qr_options e.barcode e.error_correction) refl f.across f.down k.0 (qr_tidy e.barcode e.error_correction)
      (λ q. rw (j.1, qr_read e.barcode e.error_correction f.numbers.0 j.0, level_read e.barcode e.error_correction) refl))
  element_makes (element.Maxicode e) f h =
      let k = both_of e.«data» (element.Maxicode e) h in
      line_makes (k.0.there, tt)
      (code_yielding (λ q. element.Maxicode (record { code = e.code; position = e.position; «data» = q })) (λ q d. refl) (λ q. refl)
      s e.position e.«data» two.Maxicode (maxicode_options e.code.mode) refl f.across f.down k.0 (maxicode_tidy e.code.mode)
      (λ q. rw (maxicode_read e.code.mode (part s e.«data») f.numbers.0 k.1) refl))
