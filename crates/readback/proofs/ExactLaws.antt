-- What a line or a block yields at reference 0,0 is writable: 23 is given for no other element
-- (`yieldable_writable`). Assumes nothing.
use mathlib.Core.Path.{◌≡◌, refl, sym, ap, ◌∙◌, subst}
use mathlib.Core.Bool.{Bool, true, false, ◌&&◌, ◌||◌, true≢false}
use mathlib.Core.List.{List, [], ◌∷◌, ◌++◌, map}
use Prim.Native.Nat.{ℕ, zero, suc, ◌+◌, ◌-◌, ◌*◌, ◌%◌, ◌<◌, ◌≤◌}
use native.Mathlib.Omega.{arith}
use native.Mathlib.Nat.{zero-mul, mul-mod_right}
use lib.Dec.{eqb, leb, ltb}
use lib.ListN.{length, take, drop, length-take, length-drop, take-append-drop, drop_of_length-le}
use lib.Seq.{drop-append-le, take-append-le, length-take-le}
use lib.IntN.{ℤ, pos, nat_abs}
use lib.Signed.{le_z}
use borrow.Author.Tests.{eq-eqb, lt-ltb, le-leb, leb-true}
use Rattle.text.specs.Blank.{trim_start, trim}
use Rattle.text.specs.Fields.{index_of, after, quoted, before_last}
use Rattle.text.proofs.BoolLaws.{test, and_both}
use Rattle.text.proofs.FieldsLaws.{before_last_le}
use Rattle.text.proofs.DropLaws.{drop_reverse}
use mathlib.Core.List.{reverse, reverse-reverse}
use lib.ListN.{length-reverse}
use borrow.Author.Tests.{leb-false}
use Rattle.text.proofs.BlankTrimLaws.{trim_start_is, trim_end_is}
use Rattle.elements.specs.declared.DataSpan.{DataSpan}
use Rattle.elements.specs.declared.GraphicField.{GraphicField}
use Rattle.elements.specs.declared.LabelElement.{LabelElement}
use Rattle.elements.specs.declared.LabelElement.TheVariants as element
use Rattle.elements.specs.declared.LabelPosition.{LabelPosition}
use Rattle.elements.specs.Spans.{on_span, spans, AllIn, In, spans_in}
use Rattle.frame_bytes.specs.Frame.{part}
use Rattle.frame_bytes.proofs.FramePartLaws.{part_local}
use Rattle.parameters.specs.declared.reading.LineReading.TheVariants as reading
use Rattle.command_letters.specs.declared.command.Command.{Command}
use Rattle.command_letters.specs.declared.command.Command.TheVariants.{Clear, Reference, Data, Line, Diagonal, Box, Print, Other}
use Rattle.command_letters.specs.Command.{command_of}
use Rattle.commands.specs.Line.{span_of, command_reading, lead_of, read_line}
use Rattle.commands.proofs.LineLaws.{lead_le}
use Rattle.walk_theory.specs.Language.{yield}
use Rattle.parameters.specs.declared.position.Placed.{Placed}
use Rattle.parameters.specs.declared.position.Placed.TheVariants as placing
use Rattle.parameters.specs.Position.{placed, yields}
use Rattle.grammar.specs.Units.{Header, EplUnit, block, line, last, gw, bytes, All, all_nil, all_cons, not_lf, number, Block, Stands}
use Rattle.grammar.specs.Epl.{origin, act_of, acts}
use Rattle.decimals.specs.Joined.{Without}
use Rattle.elements.specs.declared.plain.Data.{Data as DataAt}
use Rattle.elements.specs.declared.plain.Data.TheVariants as of
use Rattle.elements.specs.Plain.{plain_of}
use Rattle.grammar.proofs.EplLaws.{inside as in_unit, act_yields, read_some}
use Rattle.grammar.proofs.WellFormedLaws.{data_of, yielded}
use Rattle.grammar.proofs.FoundBlockLaws.{block_length}
use Rattle.spellings.specs.Spelled.{bytes_in}
use Rattle.spellings.specs.Writable.{inside, line_text, whole_rows, fine_data, writable}
use Rattle.spellings.proofs.YieldDraws.{Fine, fine_of}
use Rattle.spellings.proofs.YieldLines.{line_yields_fine}
use Rattle.spellings.proofs.BoundLaws.{both}
use Rattle.readback.specs.Shown.{Shown, nowhere, shown}
use Rattle.readback.specs.Exact.{Yieldable}

-- no LF in a part of a line

all_drop : (n : ℕ) (t : List ℕ) → All not_lf t → All not_lf (drop n t)
all_drop zero t a = a
all_drop (suc n) [] a = a
all_drop (suc n) (x ∷ t) (all_cons h a) = all_drop n t a

all_take : (n : ℕ) (t : List ℕ) → All not_lf t → All not_lf (take n t)
all_take zero t a = all_nil
all_take (suc n) [] a = all_nil
all_take (suc n) (x ∷ t) (all_cons h a) = all_cons h (all_take n t a)

all_without : (t : List ℕ) → All not_lf t → Without 10 t
all_without [] all_nil = refl
all_without (x ∷ t) (all_cons h a) = test (eqb x 10) (λ e. absurd (true≢false (sym h ∙ simp e))) (λ e. simp e (ap suc (all_without t a)))

-- what stands before the last b is a front

last_front : (b : ℕ) (s : List ℕ) → before_last b s ≡ take (length (before_last b s)) s
unfolding before_last after
last_front b s =
    let k = suc (index_of b (reverse s)) in
    test (leb k (length s))
    (λ e.
    let h = leb-true k (length s) e in
    let r : reverse (drop k (reverse s)) ≡ take (length s - k) s = ap reverse (drop_reverse k s h) ∙ reverse-reverse (take (length s - k) s) in
    let l : length (reverse (drop k (reverse s))) ≡ length s - k = ap length r ∙ length-take-le (length s - k) s (omega arith) in
    r ∙ ap (λ (n : ℕ). take n s) (sym l))
    (λ e.
    let h = leb-false k (length s) e in
    let j : length (reverse s) ≤ k = omega (arith, length-reverse s) in
    let r : drop k (reverse s) ≡ [] = drop_of_length-le (reverse s) j in
    rw r refl)

quoted_is : (t : List ℕ) → quoted t ≡ take (length (quoted t)) (drop (suc (index_of 34 t)) t)
unfolding after
quoted_is t = last_front 34 (after 34 t)

-- where a line's data lies

module _ (t : List ℕ) where
  lead_drop : trim_start t ≡ drop (lead_of t) t
  lead_drop = trim_start_is t

  -- blanks, the line, blanks
  cut : t ≡ take (lead_of t) t ++ (trim t ++ drop (length (trim t)) (trim_start t))
  cut =
      sym (take-append-drop (lead_of t) t)
      ∙ ap (λ (l : List ℕ). take (lead_of t) t ++ l)
      (sym lead_drop ∙ sym (take-append-drop (length (trim t)) (trim_start t)) ∙ ap (λ (l : List ℕ). l ++ drop (length (trim t)) (trim_start t)) (sym (trim_end_is (trim_start t))))

  lead_long : length (take (lead_of t) t) ≡ lead_of t
  lead_long = length-take-le (lead_of t) t (omega (arith, lead_le t))

  data_fits : 0 < length (quoted (trim t)) → suc (index_of 34 (trim t)) + length (quoted (trim t)) ≤ length (trim t)
  unfolding after
  data_fits h = omega (arith, before_last_le 34 (after 34 (trim t)), length-drop (suc (index_of 34 (trim t))) (trim t))

  span_part : 0 < length (quoted (trim t)) → part t (span_of (lead_of t) (trim t)) ≡ quoted (trim t)
  span_part h =
      let u = trim t in let i = index_of 34 u in let k = length (quoted u) in
      let d : DataSpan = record { start = suc i; len = k } in
      let at : lead_of t + i + 1 ≡ length (take (lead_of t) t) + suc i = omega (arith, lead_long) in
      ap (λ (n : ℕ). take k (drop n t)) at
      ∙ ap (λ (l : List ℕ). take k (drop (length (take (lead_of t) t) + suc i) l)) cut
      ∙ part_local (take (lead_of t) t) u (drop (length u) (trim_start t)) d (data_fits h)
      ∙ sym (quoted_is u)

  span_fine : All not_lf t → 0 < length (quoted (trim t)) → (inside t (span_of (lead_of t) (trim t)) && line_text (part t (span_of (lead_of t) (trim t)))) ≡ true
  span_fine a h =
      let d = span_of (lead_of t) (trim t) in
      both (le-leb (d.start + d.len) (length t) (omega (arith, lead_le t, data_fits h)))
      (both (lt-ltb 0 (length (part t d)) (omega (arith, h, ap length (span_part h))))
      (eq-eqb (index_of 10 (part t d)) (length (part t d)) (all_without (part t d) (all_take d.len (drop d.start t) (all_drop d.start t a)))))

-- an element's data by where it lies

no_span : (s : List ℕ) (x : DataAt) → spans_in x ≡ [] → (fine_data s x ≡ true) × (bytes_in s x ≡ [])
no_span s of.NoData h = (refl, refl)
no_span s (of.Payload d) h = absurd (omega (arith, ap length h))
no_span s (of.Decoded d) h = absurd (omega (arith, ap length h))

one_span : (s : List ℕ) (x : DataAt) (d : DataSpan) → spans_in x ≡ d ∷ [] → (inside s d && line_text (part s d)) ≡ true → (fine_data s x ≡ true) × (bytes_in s x ≡ part s d)
one_span s of.NoData d h g = absurd (omega (arith, ap length h))
one_span s (of.Payload c) d h g = let e : c ≡ d = cc in (ap (inside s) e ∙ (and_both (inside s d) (line_text (part s d)) g).0, ap (part s) e)
one_span s (of.Decoded c) d h g = let e : c ≡ d = cc in (ap (λ (c : DataSpan). inside s c && line_text (part s c)) e ∙ g, ap (part s) e)

-- without data the bytes of data say nothing
no_data_fine : (q : List ℕ) (e : LabelElement) → spans e ≡ [] → fine_of q e ≡ true → fine_of [] e ≡ true
no_data_fine q (element.Text e) n h = absurd (omega (arith, ap length n))
no_data_fine q (element.GraphicBox e) n h = h
no_data_fine q (element.DiagonalLine e) n h = h
no_data_fine q (element.GraphicField e) n h = absurd (omega (arith, ap length n))
no_data_fine q (element.Barcode128 e) n h = absurd (omega (arith, ap length n))
no_data_fine q (element.BarcodeEan13 e) n h = absurd (omega (arith, ap length n))
no_data_fine q (element.BarcodeEan8 e) n h = absurd (omega (arith, ap length n))
no_data_fine q (element.BarcodeUca e) n h = absurd (omega (arith, ap length n))
no_data_fine q (element.Barcode2of5 e) n h = absurd (omega (arith, ap length n))
no_data_fine q (element.Barcode39 e) n h = absurd (omega (arith, ap length n))
no_data_fine q (element.BarcodePdf417 e) n h = absurd (omega (arith, ap length n))
no_data_fine q (element.BarcodeAztec e) n h = absurd (omega (arith, ap length n))
no_data_fine q (element.BarcodeDatamatrix e) n h = absurd (omega (arith, ap length n))
no_data_fine q (element.BarcodeQr e) n h = absurd (omega (arith, ap length n))
no_data_fine q (element.Maxicode e) n h = absurd (omega (arith, ap length n))
no_data_fine q (element.BarcodeUcpe e) n h = absurd (omega (arith, ap length n))

module _ (t : List ℕ) (a : All not_lf t) (e : LabelElement) (h : read_line t origin ≡ reading.Element e) where
  fine : fine_of (quoted (trim t)) e ≡ true
  fine = subst (Fine (quoted (trim t))) h (line_yields_fine t)

  -- no data
  plain_writable : spans e ≡ [] → writable t e ≡ true
  unfolding writable
  plain_writable n =
      let k = no_span t (plain_of e).«data» n in
      both k.0 (subst (λ (q : List ℕ). fine_of q e ≡ true) (sym k.1) (no_data_fine (quoted (trim t)) e n fine))

  -- data
  data_writable : spans e ≡ span_of (lead_of t) (trim t) ∷ [] → 0 < length (quoted (trim t)) → writable t e ≡ true
  unfolding writable
  data_writable n s =
      let k = one_span t (plain_of e).«data» (span_of (lead_of t) (trim t)) n (span_fine t a s) in
      both k.0 (subst (λ (q : List ℕ). fine_of q e ≡ true) (sym (k.1 ∙ span_part t s)) fine)

  data_is : (c : Command) → command_of (trim t) ≡ c → spans e ≡ data_of c (lead_of t) (trim t)
  data_is c q = (yielded t origin e h).1 ∙ ap (λ (c : Command). data_of c (lead_of t) (trim t)) q

  by_command : (c : Command) → command_of (trim t) ≡ c → command_reading c (lead_of t) (trim t) origin ≡ reading.Element e → writable t e ≡ true
  by_command Clear q k = plain_writable (data_is Clear q)
  by_command Reference q k = plain_writable (data_is Reference q)
  by_command (Data c) q k = data_writable (data_is (Data c) q) (read_some c (lead_of t) (trim t) origin e k)
  by_command (Line c) q k = plain_writable (data_is (Line c) q)
  by_command Diagonal q k = plain_writable (data_is Diagonal q)
  by_command Box q k = plain_writable (data_is Box q)
  by_command Print q k = plain_writable (data_is Print q)
  by_command Other q k = plain_writable (data_is Other q)

  -- what a line yields is writable
  line_writable : writable t e ≡ true
  unfolding read_line
  line_writable = by_command (command_of (trim t)) refl h

-- what a block yields is writable

whole_rows_lem : (n w l : ℕ) → n ≡ w * l → whole_rows n w ≡ true
whole_rows_lem n zero l e = or_left (eqb n 0) (ltb 0 zero && eqb (n % zero) 0) (eq-eqb n 0 (omega (arith, zero-mul l)))
  where
    or_left : (x y : Bool) → x ≡ true → (x || y) ≡ true
    or_left true y h = refl
    or_left false y h = absurd (true≢false (sym h))
whole_rows_lem n (suc w) l e =
    test (eqb n 0)
    (λ z. simp z)
    (λ z. simp z (both (lt-ltb 0 (suc w) (omega arith)) (eq-eqb (n % suc w) 0 (ap (λ (k : ℕ). k % suc w) e ∙ mul-mod_right (suc w) l))))

part_long : (s : List ℕ) (d : DataSpan) → d.start + d.len ≤ length s → length (part s d) ≡ d.len
part_long s d h = simp (length-take, length-drop) (omega arith)

module _ (bs : List ℕ) (h : Header) (p : List ℕ) (b : Block bs h p) where
  block_fine : (at : LabelPosition)
      → writable (bytes (block bs h p)) (element.GraphicField (record { position = at; row_bytes = number h.width; «data» = record { start = length (bs ++ gw h []); len = length p } })) ≡ true
  unfolding writable
  block_fine at =
      let d : DataSpan = record { start = length (bs ++ gw h []); len = length p } in
      let i : d.start + d.len ≤ length (bs ++ gw h p) = omega (arith, block_length bs h p) in
      both (le-leb (d.start + d.len) (length (bs ++ gw h p)) i)
      (both
      (ap (le_z (pos 0)) b.width_is ∙ le-leb 0 b.w (omega arith))
      (ap (λ (n : ℕ). whole_rows n (nat_abs (number h.width))) (part_long (bs ++ gw h p) d i) ∙ ap (λ (z : ℤ). whole_rows (length p) (nat_abs z)) b.width_is ∙ whole_rows_lem (length p) b.w b.l b.whole))

  -- at any position, or outside
  placed_fine : (q : Placed) (e : LabelElement)
      → act_of origin (yields q (λ at. element.GraphicField (record { position = at; row_bytes = number h.width; «data» = record { start = length (bs ++ gw h []); len = length p } }))) ≡ yield e
      → writable (bytes (block bs h p)) e ≡ true
  placed_fine (placing.At at) e k =
      let i : element.GraphicField (record { position = at; row_bytes = number h.width; «data» = record { start = length (bs ++ gw h []); len = length p } }) ≡ e = cc in
      subst (λ (e : LabelElement). writable (bytes (block bs h p)) e ≡ true) i (block_fine at)
  placed_fine placing.Outside e k = let o : ◌≡◌ {A = ℕ} 0 1 = cc in absurd (omega arith)

  block_writable : (e : LabelElement) → acts origin (block bs h p) ≡ yield e → writable (bytes (block bs h p)) e ≡ true
  block_writable e k = placed_fine (placed (number h.x) (number h.y) origin) e k

-- by what is shown: of data that lies in its text, only the bytes count

abbrev first_of : List (List ℕ) → List ℕ
first_of [] = []
first_of (p ∷ ps) = p

abbrev text_fine : DataAt → List ℕ → Bool
text_fine of.NoData t = true
text_fine (of.Payload d) t = true
text_fine (of.Decoded d) t = line_text t

abbrev writable_shown : Shown → Bool
writable_shown w = text_fine (plain_of w.bare).«data» (first_of w.parts) && fine_of (first_of w.parts) w.bare

writable_shown_lem : (s : List ℕ) (e : LabelElement) → In (length s) e → writable s e ≡ writable_shown (shown s e)
unfolding writable
writable_shown_lem s (element.Text e) h = simp (le-leb (e.text.start + e.text.len) (length s) h.0)
writable_shown_lem s (element.GraphicBox e) h = refl
writable_shown_lem s (element.DiagonalLine e) h = refl
writable_shown_lem s (element.GraphicField e) h = simp (le-leb (e.«data».start + e.«data».len) (length s) h.0)
writable_shown_lem s (element.Barcode128 e) h = simp (le-leb (e.«data».start + e.«data».len) (length s) h.0)
writable_shown_lem s (element.BarcodeEan13 e) h = simp (le-leb (e.«data».start + e.«data».len) (length s) h.0)
writable_shown_lem s (element.BarcodeEan8 e) h = simp (le-leb (e.«data».start + e.«data».len) (length s) h.0)
writable_shown_lem s (element.BarcodeUca e) h = simp (le-leb (e.«data».start + e.«data».len) (length s) h.0)
writable_shown_lem s (element.Barcode2of5 e) h = simp (le-leb (e.«data».start + e.«data».len) (length s) h.0)
writable_shown_lem s (element.Barcode39 e) h = simp (le-leb (e.«data».start + e.«data».len) (length s) h.0)
writable_shown_lem s (element.BarcodePdf417 e) h = simp (le-leb (e.«data».start + e.«data».len) (length s) h.0)
writable_shown_lem s (element.BarcodeAztec e) h = simp (le-leb (e.«data».start + e.«data».len) (length s) h.0)
writable_shown_lem s (element.BarcodeDatamatrix e) h = simp (le-leb (e.«data».start + e.«data».len) (length s) h.0)
writable_shown_lem s (element.BarcodeQr e) h = simp (le-leb (e.«data».start + e.«data».len) (length s) h.0)
writable_shown_lem s (element.Maxicode e) h = simp (le-leb (e.«data».start + e.«data».len) (length s) h.0)
writable_shown_lem s (element.BarcodeUcpe e) h = simp (le-leb (e.«data».start + e.«data».len) (length s) h.0)

-- a line with its LF shows what the line shows

part_front : (t post : List ℕ) (d : DataSpan) → d.start + d.len ≤ length t → part (t ++ post) d ≡ part t d
part_front t post d h =
    ap (take d.len) (drop-append-le d.start t post (omega arith))
    ∙ take-append-le d.len (drop d.start t) post (rw (length-drop d.start t) (omega arith))

parts_front : (t post : List ℕ) (ds : List DataSpan) → AllIn (length t) ds → map (part (t ++ post)) ds ≡ map (part t) ds
parts_front t post [] h = refl
parts_front t post (d ∷ ds) h = rw (part_front t post d h.0, parts_front t post ds h.1) refl

shown_front : (t post : List ℕ) (e : LabelElement) → In (length t) e → shown (t ++ post) e ≡ shown t e
shown_front t post e h = ap (λ (l : List (List ℕ)). record { bare = on_span nowhere e; parts = l }) (parts_front t post (spans e) h)

unit_writable : (u : EplUnit) (rest : List ℕ) → Stands u rest → (e : LabelElement) → acts origin u ≡ yield e → writable_shown (shown (bytes u) e) ≡ true
unit_writable (block bs h p) rest b e k = sym (writable_shown_lem (bytes (block bs h p)) e (in_unit origin (block bs h p) e k)) ∙ block_writable bs h p b e k
unit_writable (line t) rest c e k =
    let r = act_yields origin (read_line t origin) e k in
    let i = in_unit origin (last t) e k in
    ap writable_shown (shown_front t (10 ∷ []) e i) ∙ sym (writable_shown_lem t e i) ∙ line_writable t c.one_line e r
unit_writable (last t) rest c e k =
    let r = act_yields origin (read_line t origin) e k in
    sym (writable_shown_lem t e (in_unit origin (last t) e k)) ∙ line_writable t c.0.one_line e r

pub yieldable_writable : (s : List ℕ) (e : LabelElement) → Yieldable s e → writable s e ≡ true
yieldable_writable s e y = writable_shown_lem s e y.within ∙ ap writable_shown (sym y.same) ∙ unit_writable y.unit y.rest y.stands y.it y.yields
