-- An element and a label that are written, read back: the text divides into its units (`read_back`, `reread`), and what
-- a call is due is such a text. Assumes nothing.
use mathlib.Core.Path.{◌≡◌, refl, sym, ap, ◌∙◌, subst}
use mathlib.Core.Bool.{Bool, true, false, ◌&&◌, ◌||◌, true≢false}
use mathlib.Core.List.{List, [], ◌∷◌, ◌++◌, map, append_assoc, append-nil}
use lib.ListN.{length, length-map}
use Prim.Native.Nat.{ℕ, suc, ◌+◌, ◌<◌, ◌≤◌}
use native.Mathlib.Omega.{arith}
use lib.Dec.{ltb}
use borrow.Author.Tests.{lt-ltb}
use lib.IntN.{ℤ, pos, negsuc}
use lib.Signed.{le_z, mag}
use Rattle.text.specs.Ascii.{ascii}
use Rattle.text.specs.Blank.{trim}
use Rattle.text.specs.Class.{all_digits}
use Rattle.text.specs.Fields.{before, after}
use Rattle.elements.specs.declared.LabelElement.{LabelElement}
use Rattle.elements.specs.declared.LabelElement.TheVariants as element
use Rattle.elements.specs.declared.PrintCounts.{PrintCounts}
use Rattle.elements.specs.Given.{longest}
use Rattle.elements.specs.Spans.{In, shifted}
use Rattle.frame_bytes.proofs.FramePartLaws.{part_local}
use Rattle.graphics.specs.Block.{opens_gw}
use Rattle.command_letters.specs.declared.command.Command.TheVariants.{Print}
use Rattle.command_letters.specs.Command.{is_reference, is_print, command_of}
use Rattle.command_letters.specs.Print.{is_counts, counts_of}
use Rattle.commands.specs.Line.{read_line}
use Rattle.walk_theory.specs.Language.{clear, print, yield}
use Rattle.walk_theory.specs.Division.{Division}
use Rattle.walk_theory.specs.Labels.{Label, goes, run, flush, closed, labels, labels_of}
use Rattle.walk_theory.specs.Labels as labelled
use Rattle.walk_theory.specs.Normal.{each, Solid, none_left, and_solid}
use Rattle.walk_theory.specs.Step.{state, handing}
use Rattle.walk_theory.specs.Reach.{Reach}
use Rattle.walk_theory.specs.Claims.{Local}
use Rattle.walk_theory.proofs.Whole.{whole}
use Rattle.walk_theory.proofs.RunLaws.{before_nil, run_goes}
use Rattle.walk_theory.proofs.SolidLaws.{each_append, solid_append, solid_divides}
use Rattle.walk_theory.proofs.StepLaws.{step_act}
use Rattle.grammar.specs.WellFormed.{well_formed}
use Rattle.grammar.specs.Units.{EplUnit, line, bytes, all_nil, all_cons, Command}
use Rattle.grammar.specs.Epl.{origin, acts, epl}
use Rattle.grammar.proofs.EplLaws.{inside}
use Rattle.grammar.proofs.FoundLaws.{reads}
use Rattle.grammar.proofs.LineFaultsLaws.{well_faultless}
use Rattle.grammar.proofs.UnitsOpensLaws.{opens_not}
use Rattle.decimals.specs.Decimal.{digits, decimal}
use Rattle.decimals.specs.Joined as joined
use Rattle.decimals.proofs.DecimalLaws.{digits_all, digits_some}
use Rattle.decimals.proofs.JoinedLaws.{without_cons, without_append, before_here, after_here, before_all}
use Rattle.decimals.proofs.ReadLaws.{plain, trim_ends, ends_append, decimal_ends, decimal_without, field_decimal}
use Rattle.spellings.specs.Quoted.{numbers_then}
use Rattle.spellings.specs.Spelled.{ended, command_for, graphic_line, spell, spell_all, print_line, spell_label}
use Rattle.spellings.specs.Writable.{writable}
use Rattle.spellings.proofs.CodeLaws.{decimal_low}
use Rattle.readback.specs.Shown.{Shown, shown}
use Rattle.readback.specs.Fits.{Fits}
use Rattle.readback.specs.Exact.{Yieldable}
use Rattle.readback.specs.Written.{units_of, label_units, ReadBack, label_of, Reread}
use Rattle.readback.proofs.UnitLaws.{without_all}
use Rattle.readback.proofs.ElementLaws.{Makes, element_makes}

-- a frame of this kind looks only at the bytes of its own unit

shown_local : (pre x post : List ℕ) (e : LabelElement) → In (length x) e → shown (pre ++ (x ++ post)) (shifted (length pre) e) ≡ shown x e
shown_local pre x post (element.Text e) h = rw (part_local pre x post e.text h.0)
shown_local pre x post (element.GraphicBox e) h = refl
shown_local pre x post (element.DiagonalLine e) h = refl
shown_local pre x post (element.GraphicField e) h = rw (part_local pre x post e.«data» h.0)
shown_local pre x post (element.Barcode128 e) h = rw (part_local pre x post e.«data» h.0)
shown_local pre x post (element.BarcodeEan13 e) h = rw (part_local pre x post e.«data» h.0)
shown_local pre x post (element.BarcodeEan8 e) h = rw (part_local pre x post e.«data» h.0)
shown_local pre x post (element.BarcodeUca e) h = rw (part_local pre x post e.«data» h.0)
shown_local pre x post (element.Barcode2of5 e) h = rw (part_local pre x post e.«data» h.0)
shown_local pre x post (element.Barcode39 e) h = rw (part_local pre x post e.«data» h.0)
shown_local pre x post (element.BarcodePdf417 e) h = rw (part_local pre x post e.«data» h.0)
shown_local pre x post (element.BarcodeAztec e) h = rw (part_local pre x post e.«data» h.0)
shown_local pre x post (element.BarcodeDatamatrix e) h = rw (part_local pre x post e.«data» h.0)
shown_local pre x post (element.BarcodeQr e) h = rw (part_local pre x post e.«data» h.0)
shown_local pre x post (element.Maxicode e) h = rw (part_local pre x post e.«data» h.0)
shown_local pre x post (element.BarcodeUcpe e) h = rw (part_local pre x post e.«data» h.0)

pub local : Local epl Shown shown
local r u e h pre post = shown_local pre (epl.bytes u) post e (inside r u e h)

-- the text of the units is what is written

line_text_lem : (t : List ℕ) → each bytes (line t ∷ []) ≡ ended t
line_text_lem t = append-nil (t ++ (10 ∷ []))

units_text : (s : List ℕ) (e : LabelElement) → each bytes (units_of s e) ≡ spell s e
unfolding graphic_line numbers_then
units_text s (element.Text e) = line_text_lem (command_for s (element.Text e))
units_text s (element.GraphicBox e) = line_text_lem (command_for s (element.GraphicBox e))
units_text s (element.DiagonalLine e) = line_text_lem (command_for s (element.DiagonalLine e))
units_text s (element.GraphicField e) = refl
units_text s (element.Barcode128 e) = line_text_lem (command_for s (element.Barcode128 e))
units_text s (element.BarcodeEan13 e) = line_text_lem (command_for s (element.BarcodeEan13 e))
units_text s (element.BarcodeEan8 e) = line_text_lem (command_for s (element.BarcodeEan8 e))
units_text s (element.BarcodeUca e) = line_text_lem (command_for s (element.BarcodeUca e))
units_text s (element.Barcode2of5 e) = line_text_lem (command_for s (element.Barcode2of5 e))
units_text s (element.Barcode39 e) = line_text_lem (command_for s (element.Barcode39 e))
units_text s (element.BarcodePdf417 e) = line_text_lem (command_for s (element.BarcodePdf417 e))
units_text s (element.BarcodeAztec e) = line_text_lem (command_for s (element.BarcodeAztec e))
units_text s (element.BarcodeDatamatrix e) = line_text_lem (command_for s (element.BarcodeDatamatrix e))
units_text s (element.BarcodeQr e) = line_text_lem (command_for s (element.BarcodeQr e))
units_text s (element.Maxicode e) = line_text_lem (command_for s (element.Maxicode e))
units_text s (element.BarcodeUcpe e) = line_text_lem (command_for s (element.BarcodeUcpe e))

all_text_lem : (s : List ℕ) (es : List LabelElement) → each bytes (each (units_of s) es) ≡ spell_all s es
all_text_lem s [] = refl
all_text_lem s (e ∷ es) = each_append bytes (units_of s e) (each (units_of s) es) ∙ rw (units_text s e, all_text_lem s es) refl

label_text_lem : (s : List ℕ) (es : List LabelElement) (q : PrintCounts) → each bytes (label_units s es q) ≡ spell_label s es q
unfolding label_units spell_label
label_text_lem s es q =
    ap (λ (t : List ℕ). 78 ∷ 10 ∷ t)
    (each_append bytes (each (units_of s) es) (line (print_line q) ∷ []) ∙ rw (all_text_lem s es, line_text_lem (print_line q)) refl)

-- one element

module _ (s : List ℕ) (short : length s ≤ longest) (e : LabelElement) (f : Fits e) (h : writable s e ≡ true) where
  abbrev made : Makes (units_of s e) s e
  made = element_makes s short e f h

  -- the unit that stands first, and what follows it
  text_is : spell s e ≡ bytes made.yieldable.unit ++ each bytes made.behind
  text_is = sym (units_text s e) ∙ ap (each bytes) made.front

  first_stands : (us : List EplUnit) (u : EplUnit) (vs : List EplUnit) → Solid epl us → us ≡ u ∷ vs → (rest : List ℕ) → epl.Stands u rest
  first_stands us u vs g k rest = go (subst (Solid epl) k g) rest
    where
      go : Solid epl (u ∷ vs) → (rest : List ℕ) → epl.Stands u rest
      go (and_solid st q) rest = st rest

  pub read_back : ReadBack s e
  unfolding handing
  read_back =
      let y = made.yieldable in
      let rest = each bytes made.behind in
      record {
        division = subst (λ (t : List ℕ). Division epl t (units_of s e)) (units_text s e) (solid_divides epl made.solid);
        pending = made.runs [];
        stepped = λ l. (
          shifted 0 y.it,
          state (0 + length (bytes y.unit)) origin 1,
          step_act epl reads (spell s e) l [] y.unit rest origin 0 (yield y.it) (record { whole = text_is; few = omega arith }) (first_stands (units_of s e) y.unit made.behind made.solid made.front rest) y.yields,
          ap (λ (t : List ℕ). shown t (shifted 0 y.it)) text_is ∙ local origin y.unit y.it y.yields [] rest ∙ y.same,
        );
      }

  -- and it is yielded by the line or block that it is written as
  pub writable_yieldable : Yieldable s e
  writable_yieldable = made.yieldable

-- elements one after the other

pub data AllWritable (s : List ℕ) : List LabelElement → Type 0 where
  no_more : AllWritable s []
  and_more : {e : LabelElement} {es : List LabelElement} → Fits e → writable s e ≡ true → AllWritable s es → AllWritable s (e ∷ es)

-- `N` and the print line

clear_well : well_formed (ascii "N") ≡ true
unfolding well_formed command_of
clear_well = refl

clear_gw : opens_gw (ascii "N") ≡ false
unfolding opens_gw
clear_gw = refl

clear_command : Command (ascii "N")
clear_command = record { one_line = all_cons refl all_nil; no_graphic = opens_not (ascii "N") clear_gw; is_well_formed = well_faultless (ascii "N") clear_well }

clear_acts : acts origin (line (ascii "N")) ≡ clear origin
unfolding read_line command_of
clear_acts = refl

-- a count that is not below 0, and has 32 bits
pub record Counts (q : PrintCounts) : Type 0 where
  pub sets_whole : le_z (pos 0) q.sets ≡ true
  pub copies_whole : le_z (pos 0) q.copies ≡ true
  pub sets_in : mag q.sets < 2147483648
  pub copies_in : mag q.copies < 2147483648

whole_digits : (z : ℤ) → le_z (pos 0) z ≡ true → (all_digits (decimal z) && ltb 0 (length (decimal z))) ≡ true
unfolding decimal
whole_digits (pos n) h = simp (digits_all n, lt-ltb 0 (length (digits n)) (digits_some n))
whole_digits (negsuc n) h = absurd (true≢false (sym h))

module _ (q : PrintCounts) (c : Counts q) where
  counts : List ℕ
  counts = joined.closed (decimal q.sets) (decimal q.copies)

  no_comma : (z : ℤ) → joined.Without 44 (decimal z)
  no_comma z = decimal_without 44 refl (λ e. omega arith) z

  before_is : before 44 counts ≡ decimal q.sets
  unfolding counts
  before_is = before_here 44 (decimal q.sets) (decimal q.copies) (no_comma q.sets)

  after_is : after 44 counts ≡ decimal q.copies
  unfolding counts
  after_is = after_here 44 (decimal q.sets) (decimal q.copies) (no_comma q.sets)

  counts_are : is_counts counts ≡ true
  unfolding is_counts
  counts_are = rw (before_is, after_is, whole_digits q.sets c.sets_whole, whole_digits q.copies c.copies_whole) (or_true (all_digits counts))
    where
      or_true : (x : Bool) → (x || true) ≡ true
      or_true true = refl
      or_true false = refl

  counts_read : counts_of counts ≡ q
  unfolding counts_of
  counts_read =
      rw (before_is, after_is, before_all 44 (decimal q.copies) (no_comma q.copies), field_decimal (pos 1) q.sets c.sets_in, field_decimal (pos 1) q.copies c.copies_in) refl

  trim_print : trim (print_line q) ≡ print_line q
  trim_print = trim_ends 80 (joined.closed (decimal q.sets) (decimal q.copies)) (plain 80 (omega arith) (omega arith)) (ends_append (decimal q.sets) (44 ∷ decimal q.copies) (ends_append (44 ∷ []) (decimal q.copies) (decimal_ends q.copies)))

  command_print : command_of (print_line q) ≡ Print
  unfolding command_of is_reference is_print counts
  command_print = simp counts_are

  print_well : well_formed (trim (print_line q)) ≡ true
  unfolding well_formed
  print_well = rw (trim_print, command_print) refl

  print_gw : opens_gw (print_line q) ≡ false
  unfolding opens_gw
  print_gw = refl

  print_command : Command (print_line q)
  print_command =
      record {
        one_line = without_all (print_line q) (without_cons 10 80 (joined.closed (decimal q.sets) (decimal q.copies)) (λ e. omega arith) (without_append 10 (decimal q.sets) (44 ∷ decimal q.copies) (decimal_low 10 (omega arith) q.sets) (without_cons 10 44 (decimal q.copies) (λ e. omega arith) (decimal_low 10 (omega arith) q.copies))));
        no_graphic = opens_not (print_line q) print_gw;
        is_well_formed = well_faultless (trim (print_line q)) print_well;
      }

  print_acts : acts origin (line (print_line q)) ≡ print q
  unfolding read_line counts
  print_acts = rw (trim_print, command_print) (ap print counts_read)

  print_runs : (p : List Shown) → run epl Shown shown origin p (line (print_line q) ∷ []) ≡ goes (flush q p) origin []
  print_runs p = rw print_acts (ap (λ (l : List (Label Shown PrintCounts)). goes l origin []) (append-nil (flush q p)))

module _ (s : List ℕ) (short : length s ≤ longest) where
  elements_solid : (es : List LabelElement) → AllWritable s es → Solid epl (each (units_of s) es)
  elements_solid [] no_more = none_left
  elements_solid (e ∷ es) (and_more f h a) = solid_append epl (element_makes s short e f h).solid (elements_solid es a)

  elements_run : (es : List LabelElement) → AllWritable s es → (p : List Shown) → run epl Shown shown origin p (each (units_of s) es) ≡ goes [] origin (p ++ map (shown s) es)
  elements_run [] no_more p = ap (goes [] origin) (sym (append-nil p))
  elements_run (e ∷ es) (and_more f h a) p =
      run_goes epl Shown shown (units_of s e) (each (units_of s) es) origin p ((element_makes s short e f h).runs p)
      ∙ before_nil (run epl Shown shown origin (p ++ (shown s e ∷ [])) (each (units_of s) es))
      ∙ elements_run es a (p ++ (shown s e ∷ []))
      ∙ ap (goes [] origin) (append_assoc p (shown s e ∷ []) (map (shown s) es))

  -- the label

  module _ (es : List LabelElement) (q : PrintCounts) (c : Counts q) (a : AllWritable s es) where
    label_solid : Solid epl (label_units s es q)
    unfolding label_units
    label_solid = and_solid (λ rest. clear_command) (solid_append epl (elements_solid es a) (and_solid (λ rest. print_command q c) none_left))

    -- its text divides into its units
    label_divides : Division epl (spell_label s es q) (label_units s es q)
    label_divides = subst (λ (t : List ℕ). Division epl t (label_units s es q)) (label_text_lem s es q) (solid_divides epl label_solid)

    elements_print : run epl Shown shown origin [] (each (units_of s) es ++ (line (print_line q) ∷ [])) ≡ goes (flush q (map (shown s) es)) origin []
    elements_print =
        run_goes epl Shown shown (each (units_of s) es) (line (print_line q) ∷ []) origin [] (elements_run es a [])
        ∙ before_nil (run epl Shown shown origin (map (shown s) es) (line (print_line q) ∷ []))
        ∙ print_runs q c (map (shown s) es)

    label_runs : run epl Shown shown origin [] (label_units s es q) ≡ goes (flush q (map (shown s) es)) origin []
    unfolding label_units
    label_runs = rw clear_acts (ap (labelled.before []) elements_print)

flush_one : (s : List ℕ) (es : List LabelElement) (q : PrintCounts) → 0 < length es → flush q (map (shown s) es) ≡ label_of s es q ∷ []
unfolding flush
flush_one s [] q h = absurd (omega arith)
flush_one s (e ∷ es) q h = ap (λ (k : ℕ). record { count = suc k; says = q; frames = shown s e ∷ map (shown s) es } ∷ []) (length-map es (shown s))

pub reread : (s : List ℕ) → length s ≤ longest → (es : List LabelElement) (q : PrintCounts) → Counts q → 0 < length es → AllWritable s es → Reread s es q
reread s short es q c h a =
    let d = label_divides s short es q c a in
    let l : labels_of epl Shown shown origin [] (label_units s es q) ≡ labels (label_of s es q ∷ []) 0 =
    ap closed (label_runs s short es q c a) ∙ ap (λ (ls : List (Label Shown PrintCounts)). labels ls 0) (flush_one s es q h) in
    record {
      division = d;
      one_label = l;
      walked = λ k.
          let w = whole epl reads Shown shown local (spell_label s es q) k origin in
          let r = w.divides→accepted (label_of s es q ∷ []) 0 (record { units = label_units s es q; division = d; range = l }) in
          (w.answers, subst (Reach epl (spell_label s es q) (state 0 origin 0) w.answers) r.0 w.ends, r.1);
    }
