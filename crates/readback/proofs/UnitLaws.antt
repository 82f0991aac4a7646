-- One element that is written as a line: the line stands, and yields the element. Graphics are in GraphicLaws.
-- Assumes nothing.
use mathlib.Core.Path.{◌≡◌, refl, sym, ◌∙◌}
use mathlib.Core.Bool.{Bool, true, false, cond, ◌&&◌}
use mathlib.Core.List.{List, [], ◌∷◌, ◌++◌}
use Prim.Native.Nat.{ℕ, suc, ◌+◌, ◌<◌, ◌≤◌}
use native.Mathlib.Omega.{arith}
use lib.Dec.{eqb, ltb}
use lib.ListN.{length}
use lib.IntN.{ℤ, pos, ◌+ℤ◌}
use lib.Signed.{le_z}
use borrow.Author.Tests.{eqb-true, ltb-true, leb-true}
use Rattle.text.specs.Fields.{index_of}
use Rattle.text.proofs.BoolLaws.{test, and_both}
use Rattle.elements.specs.declared.DataSpan.{DataSpan}
use Rattle.elements.specs.Spans.{on_span, spans}
use Rattle.elements.specs.declared.LabelElement.{LabelElement}
use Rattle.elements.specs.declared.LabelPosition.{LabelPosition}
use Rattle.elements.specs.declared.LineColor.{LineColor}
use Rattle.elements.specs.declared.LineColor.TheVariants.{Black, White, Xor}
use Rattle.elements.specs.declared.plain.Bars.{Bars}
use Rattle.elements.specs.declared.plain.Extent.{Extent}
use Rattle.parameters.specs.declared.position.Placed.TheVariants as placing
use Rattle.parameters.specs.declared.reading.LineReading.TheVariants as reading
use Rattle.barcodes.specs.declared.barcode.Symbology.{Symbology}
use Rattle.barcodes.specs.Barcode.{is_listed, barcode_element}
use Rattle.barcodes_2d.specs.declared.barcode_2d.Symbology2d.{Symbology2d}
use Rattle.barcodes_2d.specs.Barcode2d.{barcode2d_at}
use Rattle.command_letters.specs.declared.command.DataCommand.{DataCommand}
use Rattle.command_letters.specs.declared.command.DataCommand.TheVariants.{Text, Barcode, Barcode2d}
use Rattle.graphics.specs.Block.{opens_gw}
use Rattle.commands.specs.Line.{read_line}
use Rattle.grammar.specs.Units.{All, all_nil, all_cons, not_lf, Command}
use Rattle.grammar.proofs.WellFormedLaws.{yielded}
use Rattle.grammar.proofs.LineFaultsLaws.{well_faultless}
use Rattle.grammar.proofs.UnitsOpensLaws.{opens_not}
use Rattle.text.specs.Blank.{trim}
use Rattle.decimals.specs.Decimal.{decimal}
use Rattle.decimals.specs.Joined.{Without, closed}
use Rattle.decimals.proofs.JoinedLaws.{without_append, without_cons}
use Rattle.decimals.proofs.ReadLaws.{Ends, ends_append}
use Rattle.frame_bytes.specs.Frame.{part}
use Rattle.spellings.specs.Draws.{numbers, line_letter, is_line, by_line, by_corners, by_corners_up, spell_box, spell_diagonal}
use Rattle.spellings.specs.Quoted.{quoted_line, span_in}
use Rattle.spellings.specs.Codes.{bar_params}
use Rattle.spellings.specs.Codes2d.{type_letter, is_listed2d, params2d}
use Rattle.spellings.specs.Spelled.{code_line}
use Rattle.spellings.specs.Writable.{inside, line_text, fine_bars}
use Rattle.spellings.proofs.FieldLaws.{In32, origin}
use Rattle.spellings.proofs.QuotedLaws.{numbers_without, then_ends, data_there, line_without}
use Rattle.spellings.proofs.CodeLaws.{decimal_low, bar_low, bar_ends, bar_line}
use Rattle.spellings.proofs.Code2dLaws.{Tidy, type_free, code2d_line}
use Rattle.readback.specs.Shown.{nowhere, shown}

-- a line t that yields e of s, its data by its bytes, and stands
pub record Yielding (t s : List ℕ) (e : LabelElement) : Type 0 where
  pub it : LabelElement
  pub reads : read_line t origin ≡ reading.Element it
  pub same : shown (t ++ (10 ∷ [])) it ≡ shown s e
  pub no_lf : Without 10 t
  pub no_graphic : opens_gw t ≡ false

pub without_all : (t : List ℕ) → Without 10 t → All not_lf t
without_all [] w = all_nil
without_all (x ∷ t) w =
    test (eqb x 10)
    (λ e. let k : 0 ≡ suc (length t) = simp e at w in absurd (omega arith))
    (λ e.
    let k : suc (index_of 10 t) ≡ suc (length t) = simp e at w in
    all_cons (simp e) (without_all t (omega arith)))

pub command_of_lem : {t s : List ℕ} {e : LabelElement} → Yielding t s e → Command t
command_of_lem {t} {s} {e} y =
    record {
      one_line = without_all t y.no_lf;
      no_graphic = opens_not t y.no_graphic;
      is_well_formed = well_faultless (trim t) (yielded t origin y.it y.reads).0;
    }

-- boxes and diagonals

numbers_low : (b : ℕ) → b < 44 → (z : ℤ) (zs : List ℤ) → Without b (numbers z zs)
unfolding numbers
numbers_low b h z [] = decimal_low b h z
numbers_low b h z (y ∷ zs) = without_append b (decimal z) (44 ∷ numbers y zs) (decimal_low b h z) (without_cons b 44 (numbers y zs) (λ e. omega arith) (numbers_low b h y zs))

letter_low : (c : LineColor) → line_letter c ≡ 10 → ⊥
letter_low Black e = omega arith
letter_low White e = omega arith
letter_low Xor e = omega arith

module _ (p : LabelPosition) (x : Extent) where
  corners_lf : Without 10 (by_corners p x)
  corners_lf = numbers_low 10 (omega arith) p.x (p.y ∷ x.thickness ∷ (p.x +ℤ x.width) ∷ (p.y +ℤ x.height) ∷ [])

  up_lf : Without 10 (by_corners_up p x)
  up_lf = numbers_low 10 (omega arith) p.x ((p.y +ℤ x.height) ∷ x.thickness ∷ (p.x +ℤ x.width) ∷ p.y ∷ [])

  pub box_lf : (c : LineColor) → Without 10 (spell_box p x c)
  unfolding spell_box
  box_lf c =
      test (is_line x)
      (λ e. simp e (without_cons 10 76 (line_letter c ∷ by_line p x) (λ k. omega arith) (without_cons 10 (line_letter c) (by_line p x) (letter_low c) (numbers_low 10 (omega arith) p.x (p.y ∷ x.width ∷ x.height ∷ [])))))
      (λ e. simp e (without_cons 10 88 (by_corners p x) (λ k. omega arith) corners_lf))

  pub box_gw : (c : LineColor) → opens_gw (spell_box p x c) ≡ false
  unfolding spell_box opens_gw
  box_gw c = test (is_line x) (λ e. simp e refl) (λ e. simp e refl)

  pub diagonal_lf : (d : Bool) → Without 10 (spell_diagonal p x d)
  unfolding spell_diagonal
  diagonal_lf d =
      without_cons 10 76 (83 ∷ cond d (by_corners p x) (by_corners_up p x)) (λ k. omega arith)
      (without_cons 10 83 (cond d (by_corners p x) (by_corners_up p x)) (λ k. omega arith) (either d (by_corners p x) (by_corners_up p x) corners_lf up_lf))
    where
      either : (d : Bool) (s u : List ℕ) → Without 10 s → Without 10 u → Without 10 (cond d s u)
      either true s u a b = a
      either false s u a b = b

  pub diagonal_gw : (d : Bool) → opens_gw (spell_diagonal p x d) ≡ false
  unfolding spell_diagonal opens_gw
  diagonal_gw d = refl

-- the data of a line

pub record LineData (s : List ℕ) (d : DataSpan) : Type 0 where
  pub there : d.start + d.len ≤ length s
  pub some : 0 < length (part s d)
  pub no_lf : Without 10 (part s d)

pub line_data : (s : List ℕ) (d : DataSpan) → (inside s d && line_text (part s d)) ≡ true → LineData s d
line_data s d h =
    let k = and_both (inside s d) (line_text (part s d)) h in
    let j = and_both (ltb 0 (length (part s d))) (eqb (index_of 10 (part s d)) (length (part s d))) k.1 in
    record {
      there = leb-true (d.start + d.len) (length s) k.0;
      some = ltb-true 0 (length (part s d)) j.0;
      no_lf = eqb-true (index_of 10 (part s d)) (length (part s d)) j.1;
    }

quoted_gw : (c : DataCommand) (s d : List ℕ) → opens_gw (quoted_line c s d) ≡ false
unfolding quoted_line opens_gw
quoted_gw Text s d = refl
quoted_gw Barcode s d = refl
quoted_gw Barcode2d s d = refl

code_low : (b : ℕ) → b < 44 → (p : LabelPosition) (y : Symbology2d) (os : List ℕ) → Tidy os → Without b (params2d p (type_letter y) os)
unfolding params2d
code_low b h p y os t =
    numbers_without b (p.x ∷ p.y ∷ []) (closed (type_letter y ∷ []) os) (λ k. omega arith) (decimal_low b h)
    (without_append b (type_letter y ∷ []) (44 ∷ os) (type_free b y (omega arith)) (without_cons b 44 os (λ k. omega arith) (t.free b h)))

code_ends : (p : LabelPosition) (y : Symbology2d) (os : List ℕ) → Tidy os → Ends (params2d p (type_letter y) os)
unfolding params2d
code_ends p y os t = then_ends (p.x ∷ p.y ∷ []) (closed (type_letter y ∷ []) os) (ends_append (type_letter y ∷ []) (44 ∷ os) (ends_append (44 ∷ []) os t.ends))

-- an element with data: the same but for where its data lies
module _ (mk : DataSpan → LabelElement) (bare-same : (q d : DataSpan) → on_span nowhere (mk q) ≡ on_span nowhere (mk d)) (span-one : (q : DataSpan) → spans (mk q) ≡ q ∷ []) where
  -- with parameters ps that have no quote and no LF, and end with no blank and no comma
  pub data_yielding : (c : DataCommand) (ps s : List ℕ) (d : DataSpan) → LineData s d → Without 34 ps → Without 10 ps → Ends ps
      → read_line (quoted_line c ps (part s d)) origin ≡ reading.Element (mk (span_in ps (part s d))) → Yielding (quoted_line c ps (part s d)) s (mk d)
  data_yielding c ps s d w w34 w10 en r =
      let t = quoted_line c ps (part s d) in
      let q = span_in ps (part s d) in
      let a : shown (t ++ (10 ∷ [])) (mk q) ≡ record { bare = on_span nowhere (mk d); parts = part s d ∷ [] } =
      rw (bare-same q d, span-one q, data_there c ps (part s d) w34 en (10 ∷ [])) refl in
      let b : shown s (mk d) ≡ record { bare = on_span nowhere (mk d); parts = part s d ∷ [] } = rw (span-one d) refl in
      record { it = mk q; reads = r; same = a ∙ sym b; no_lf = line_without c ps (part s d) w34 en w10 w.no_lf; no_graphic = quoted_gw c ps (part s d) }

  -- bar codes
  pub bars_yielding : (s : List ℕ) (p : LabelPosition) (b : Bars) (wide : ℤ) (d : DataSpan) (y : Symbology) → is_listed y ≡ true
      → In32 p.x → In32 p.y → In32 b.narrow → In32 b.height → In32 wide → fine_bars b ≡ true → LineData s d
      → ((q : DataSpan) → barcode_element y (record { orientation = b.orientation; bars = record { narrow = b.narrow; wide = wide; height = b.height; line = b.line }; position = p; «data» = q }) ≡ reading.Element (mk q))
      → Yielding (quoted_line Barcode (bar_params p b y wide) (part s d)) s (mk d)
  bars_yielding s p b wide d y l hx hy hn hh hw g w e =
      let k = and_both (le_z (pos 1) b.narrow) (le_z (pos 1) b.height) g in
      let ps = bar_params p b y wide in
      data_yielding Barcode ps s d w (bar_low 34 (omega arith) p b y wide) (bar_low 10 (omega arith) p b y wide) (bar_ends p b y wide)
      (bar_line p b y wide hx hy hn hw hh k.0 k.1 l (part s d) w.some ∙ e (span_in ps (part s d)))

  -- 2D bar codes
  pub code_yielding : (s : List ℕ) (p : LabelPosition) (d : DataSpan) (y : Symbology2d) (os : List ℕ) → is_listed2d y ≡ true
      → In32 p.x → In32 p.y → LineData s d → Tidy os → ((q : DataSpan) → barcode2d_at y os (part s d) (placing.At p) q ≡ reading.Element (mk q))
      → Yielding (code_line p y os (part s d)) s (mk d)
  code_yielding s p d y os l hx hy w t e =
      let ps = params2d p (type_letter y) os in
      data_yielding Barcode2d ps s d w (code_low 34 (omega arith) p y os t) (code_low 10 (omega arith) p y os t) (code_ends p y os t)
      (code2d_line p y os hx hy l (part s d) w.some (t.free 34 (omega arith)) t.ends ∙ e (span_in ps (part s d)))
