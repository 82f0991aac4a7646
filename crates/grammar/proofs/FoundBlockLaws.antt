-- A graphic block: `gw_span` finds the one that stands first (`block_finds`), and nothing else (`span_sound`,
-- `span_none`). Lines are in FoundLineLaws, units in FoundLaws. Assumes nothing.
use mathlib.Core.Path.{◌≡◌, refl, sym, ap, ◌∙◌}
use mathlib.Core.Bool.{Bool, true, false, cond, ◌&&◌, ◌||◌}
use mathlib.Core.List.{List, [], ◌∷◌, ◌++◌, append_assoc}
use Prim.Native.Nat.{ℕ, ◌+◌, ◌-◌, ◌*◌, ◌≤◌, zero-le}
use native.Mathlib.Omega.{arith}
use lib.Dec.{ltb}
use lib.IntN.{ℤ, pos, negsuc, nat_abs}
use lib.ListN.{length, length-append, take, drop, take-append-drop}
use lib.Seq.{drop-append_seam, length-take-le, take_at, drop_at, drop-drop}
use lib.Signed.{lt_z}
use borrow.Author.Tests.{eqb-true, ltb-false, le-ltb}
use Rattle.text.specs.Blank.{drop_while, front}
use Rattle.text.specs.Fields.{same}
use Rattle.text.proofs.BoolLaws.{test, and_both}
use Rattle.text.proofs.FieldsLaws.{same_true}
use Rattle.elements.specs.declared.refusal.Refusal.{Refusal}
use Rattle.graphics.specs.declared.gw_span.Graphic.TheVariants as graphic
use Rattle.graphics.specs.declared.gw_span.GwNumbers.{GwNumbers}
use Rattle.graphics.specs.declared.gw_span.GwSpan.{GwSpan}
use Rattle.graphics.specs.Block.{is_line_blank, opens_gw, in_field, starts_comma, closes, after_header_field, header_number, four_closed, payload_of, gw_numbers, total, measured, header_of, gw_span}
use Rattle.walk_theory.specs.Language.{unit}
use Rattle.grammar.specs.Units.{Header, block, closed, gw, bytes, All, number, Block}
use Rattle.grammar.specs.Found.{header_fields, found, first}
use Rattle.grammar.proofs.FrontLaws.{front_drop, front_all, front_stop, drop_stop}

-- ---- a field, closed by a comma
module _ (f s : List ℕ) (a : All in_field f) where
  closes_closed : closes (closed f s) ≡ true
  unfolding closes
  closes_closed = ap starts_comma (drop_stop in_field f a 44 s refl)

  after_closed : after_header_field (closed f s) ≡ s
  unfolding after_header_field
  after_closed = ap (drop 1) (drop_stop in_field f a 44 s refl)

  front_closed : front in_field (closed f s) ≡ f
  front_closed = front_stop in_field f a 44 s refl

closed_is : (t : List ℕ) → closes t ≡ true → t ≡ closed (front in_field t) (after_header_field t)
unfolding closes after_header_field
closed_is t h = sym (front_drop in_field t) ∙ ap (λ (x : List ℕ). front in_field t ++ x) (by (drop_while in_field t) h)
  where
    by : (s : List ℕ) → starts_comma s ≡ true → s ≡ 44 ∷ drop 1 s
    by [] h = let z : ◌≡◌ {A = ℕ} 0 1 = cc in absurd (omega arith)
    by (b ∷ s) h = ap (λ (x : ℕ). x ∷ s) (eqb-true b 44 h)

-- ---- what stands before a payload
pub block_append : (bs : List ℕ) (h : Header) (p rest : List ℕ) → (bs ++ gw h p) ++ rest ≡ bs ++ gw h (p ++ rest)
block_append bs h p rest = simp append_assoc

pub block_length : (bs : List ℕ) (h : Header) (p : List ℕ) → length (bs ++ gw h p) ≡ length (bs ++ gw h []) + length p
block_length bs h p = ap length (sym (block_append bs h [] p)) ∙ length-append (bs ++ gw h []) p

-- blanks and fields, as in a block
pub record Before (bs : List ℕ) (h : Header) : Type 0 where
  pub blanks : All is_line_blank bs
  pub in_x : All in_field h.x
  pub in_y : All in_field h.y
  pub in_width : All in_field h.width
  pub in_lines : All in_field h.lines

-- the numbers of a header
abbrev pub numbers : Header → GwNumbers
numbers h = record { at = record { x = number h.x; y = number h.y }; width_bytes = number h.width; lines = number h.lines }

numbers_are : (t : List ℕ) → gw_numbers t ≡ numbers (header_fields t)
unfolding gw_numbers header_number
numbers_are t = refl

module _ (bs : List ℕ) (h : Header) (q : List ℕ) (w : Before bs h) where
  drop_blanks : drop_while is_line_blank (bs ++ gw h q) ≡ gw h q
  drop_blanks = drop_stop is_line_blank bs w.blanks 71 _ refl

  opens_gw_lem : opens_gw (bs ++ gw h q) ≡ true
  unfolding opens_gw
  opens_gw_lem = ap (λ (x : List ℕ). same (take 2 x) (71 ∷ 87 ∷ [])) drop_blanks

  pub header_is : header_of (bs ++ gw h q) ≡ drop 2 (gw h q)
  header_is = ap (drop 2) drop_blanks

  four_is : four_closed (drop 2 (gw h q)) ≡ true
  unfolding four_closed
  four_is = simp (after_closed, closes_closed, w.in_x, w.in_y, w.in_width, w.in_lines)

  payload_is : payload_of (drop 2 (gw h q)) ≡ q
  unfolding payload_of
  payload_is = simp (after_closed, w.in_x, w.in_y, w.in_width, w.in_lines)

  fields_is : header_fields (drop 2 (gw h q)) ≡ h
  fields_is = simp (after_closed, front_closed, w.in_x, w.in_y, w.in_width, w.in_lines)

  start_is : length (bs ++ gw h q) - length q ≡ length (bs ++ gw h [])
  start_is = omega (arith, block_length bs h q)

  -- the header's numbers, the payload's place and what is left are measured
  pub gw_span_is : gw_span (bs ++ gw h q) ≡ measured (numbers h) (length (bs ++ gw h [])) (length q)
  unfolding gw_span
  gw_span_is =
      rw (opens_gw_lem, header_is, four_is, payload_is, start_is)
      (ap (λ (x : GwNumbers). measured x (length (bs ++ gw h [])) (length q)) (numbers_are (drop 2 (gw h q)) ∙ ap numbers fields_is))

-- ---- a payload
refused≢span : {n : Refusal} {g : GwSpan} → graphic.Refused n ≡ graphic.Span g → ⊥
refused≢span e = let z : ◌≡◌ {A = ℕ} 0 1 = cc in omega arith

refused≢nothing : {n : Refusal} → graphic.Refused n ≡ graphic.NoGraphic → ⊥
refused≢nothing e = let z : ◌≡◌ {A = ℕ} 0 1 = cc in omega arith

span≢nothing : {g : GwSpan} → graphic.Span g ≡ graphic.NoGraphic → ⊥
span≢nothing e = let z : ◌≡◌ {A = ℕ} 0 1 = cc in omega arith

-- the graphic of a header whose payload of n bytes begins at start
abbrev span : GwNumbers → ℕ → ℕ → GwSpan
span m start n = record { at = m.at; width_bytes = m.width_bytes; data_start = start; data_end = start + n }

measured_finds : (m : GwNumbers) (start left w l : ℕ) → m.width_bytes ≡ pos w → m.lines ≡ pos l → w * l ≤ left → measured m start left ≡ graphic.Span (span m start (w * l))
unfolding measured
measured_finds m start left w l e f h = simp (e, f, le-ltb w 0 zero-le, le-ltb l 0 zero-le, le-ltb left (w * l) h)

-- neither number is negative, and the payload fits
record Measured (m : GwNumbers) (start left : ℕ) (g : GwSpan) : Type 0 where
  width_is : m.width_bytes ≡ pos (nat_abs m.width_bytes)
  lines_is : m.lines ≡ pos (nat_abs m.lines)
  fits : total m ≤ left
  is : span m start (total m) ≡ g

measured_sound : (m : GwNumbers) (start left : ℕ) (g : GwSpan) → measured m start left ≡ graphic.Span g → Measured m start left g
unfolding measured
measured_sound m start left g h =
    test (lt_z m.width_bytes (pos 0))
    (λ a. absurd (refused≢span (simp a at h)))
    (λ a.
    test (lt_z m.lines (pos 0))
    (λ b. absurd (refused≢span (simp (a, b) at h)))
    (λ b.
    test (ltb left (total m))
    (λ c. absurd (refused≢span (simp (a, b, c) at h)))
    (λ c.
    let e = simp (a, b, c) at h in
    record { width_is = not_negative m.width_bytes a; lines_is = not_negative m.lines b; fits = ltb-false left (total m) c; is = cc })))
  where
    not_negative : (z : ℤ) → lt_z z (pos 0) ≡ false → z ≡ pos (nat_abs z)
    not_negative (pos n) e = refl
    not_negative (negsuc n) e = let z : ◌≡◌ {A = ℕ} 0 1 = cc in absurd (omega arith)

-- ---- a block
module _ (bs : List ℕ) (h : Header) (p rest : List ℕ) (st : Block bs h p) where
  before : Before bs h
  before = record { blanks = st.blanks; in_x = st.in_x; in_y = st.in_y; in_width = st.in_width; in_lines = st.in_lines }

  pub block_finds : first (bytes (block bs h p) ++ rest) ≡ unit (block bs h p) rest
  unfolding first
  block_finds =
      let start = length (bs ++ gw h []) in
      let n = st.w * st.l in
      let s = bs ++ gw h (p ++ rest) in
      let blanks-are : front is_line_blank s ≡ bs = front_stop is_line_blank bs st.blanks 71 _ refl in
      let fields-are : header_fields (header_of s) ≡ h = ap header_fields (header_is bs h (p ++ rest) before) ∙ fields_is bs h (p ++ rest) before in
      let size : start + n - start ≡ n = omega arith in
      let left : drop start s ≡ p ++ rest = ap (drop start) (sym (block_append bs h [] (p ++ rest))) ∙ drop-append_seam (bs ++ gw h []) (p ++ rest) in
      ap first (block_append bs h p rest)
      ∙ ap (found s)
      (gw_span_is bs h (p ++ rest) before
      ∙ measured_finds (numbers h) start (length (p ++ rest)) st.w st.l st.width_is st.lines_is (omega (arith, st.whole, length-append p rest)))
      ∙ (rw (blanks-are, fields-are, size, ← drop-drop, left, take_at p rest n st.whole, drop_at p rest n st.whole))

-- a string that opens with `GW` and four closed fields, by its parts
pub gw_cut : (s : List ℕ) → opens_gw s ≡ true → four_closed (header_of s) ≡ true → s ≡ front is_line_blank s ++ gw (header_fields (header_of s)) (payload_of (header_of s))
unfolding opens_gw four_closed payload_of
gw_cut s o f =
    let t = drop_while is_line_blank s in
    let x = header_of s in let y = after_header_field x in let w = after_header_field y in let l = after_header_field w in
    let c = and_both (closes x && closes y && closes w) (closes l) f in
    let d = and_both (closes x && closes y) (closes w) c.0 in
    let e = and_both (closes x) (closes y) d.0 in
    let fields : x ≡ _ =
    closed_is x e.0
    ∙ ap (closed (front in_field x)) (closed_is y e.1 ∙ ap (closed (front in_field y)) (closed_is w d.1 ∙ ap (closed (front in_field w)) (closed_is l c.1))) in
    sym (front_drop is_line_blank s)
    ∙ ap (λ (z : List ℕ). front is_line_blank s ++ z)
    (sym (take-append-drop 2 t) ∙ ap (λ (z : List ℕ). z ++ x) (same_true (take 2 t) (71 ∷ 87 ∷ []) o) ∙ ap (λ (z : List ℕ). 71 ∷ 87 ∷ z) fields)

-- where the parts of a block lie
abbrev pub block_span : List ℕ → Header → List ℕ → GwSpan
block_span bs h p = record { at = record { x = number h.x; y = number h.y }; width_bytes = number h.width; data_start = length (bs ++ gw h []); data_end = length (bs ++ gw h p) }

-- a graphic's span is that of a block, which stands first
pub record Spanned (s : List ℕ) (g : GwSpan) : Type 0 where
  pub bs : List ℕ
  pub h : Header
  pub p : List ℕ
  pub rest : List ℕ
  pub cut : s ≡ bytes (block bs h p) ++ rest
  pub stands : Block bs h p
  pub is : g ≡ block_span bs h p

span_by : (s bs : List ℕ) (h : Header) (q : List ℕ) (g : GwSpan) → Before bs h → s ≡ bs ++ gw h q → gw_span s ≡ graphic.Span g → Spanned s g
span_by s bs h q g w cut e =
    let start = length (bs ++ gw h []) in
    let m = measured_sound (numbers h) start (length q) g (sym (gw_span_is bs h q w) ∙ ap gw_span (sym cut) ∙ e) in
    let n = total (numbers h) in
    let p = take n q in
    let whole : length p ≡ n = length-take-le n q m.fits in
    let end : span (numbers h) start n ≡ block_span bs h p = rw (block_length bs h p, whole) in
    record {
      bs = bs;
      h = h;
      p = p;
      rest = drop n q;
      cut = cut ∙ ap (λ (x : List ℕ). bs ++ gw h x) (sym (take-append-drop n q)) ∙ sym (block_append bs h p (drop n q));
      stands = record {
        blanks = w.blanks;
        in_x = w.in_x;
        in_y = w.in_y;
        in_width = w.in_width;
        in_lines = w.in_lines;
        w = nat_abs (number h.width);
        l = nat_abs (number h.lines);
        width_is = m.width_is;
        lines_is = m.lines_is;
        whole = whole;
      };
      is = sym m.is ∙ end;
    }

pub before_of : (s : List ℕ) → Before (front is_line_blank s) (header_fields (header_of s))
before_of s =
    let x = header_of s in let y = after_header_field x in let w = after_header_field y in let l = after_header_field w in
    record { blanks = front_all is_line_blank s; in_x = front_all in_field x; in_y = front_all in_field y; in_width = front_all in_field w; in_lines = front_all in_field l }

pub span_sound : (s : List ℕ) (g : GwSpan) → gw_span s ≡ graphic.Span g → Spanned s g
unfolding gw_span
span_sound s g e =
    test (opens_gw s)
    (λ o.
    test (four_closed (header_of s))
    (λ f. span_by s (front is_line_blank s) (header_fields (header_of s)) (payload_of (header_of s)) g (before_of s) (gw_cut s o f) e)
    (λ f. absurd (refused≢span (simp (o, f) at e))))
    (λ o. absurd (span≢nothing (sym (simp o at e))))

-- ---- no block
pub span_none : (s : List ℕ) → opens_gw s ≡ false → gw_span s ≡ graphic.NoGraphic
unfolding gw_span
span_none s o = simp o

neither : {A : Type 0} (x : Bool) {a b c : A} → (a ≡ c → ⊥) → (b ≡ c → ⊥) → cond x a b ≡ c → ⊥
neither true f g = f
neither false f g = g

measured_some : (m : GwNumbers) (start left : ℕ) → measured m start left ≡ graphic.NoGraphic → ⊥
unfolding measured
measured_some m start left = neither (lt_z m.width_bytes (pos 0) || lt_z m.lines (pos 0)) refused≢nothing (neither (ltb left (total m)) refused≢nothing span≢nothing)

pub none_opens : (s : List ℕ) → gw_span s ≡ graphic.NoGraphic → opens_gw s ≡ false
unfolding gw_span
none_opens s e =
    test (opens_gw s)
    (λ o. absurd (test (four_closed (header_of s)) (λ f. measured_some _ _ _ (simp (o, f) at e)) (λ f. refused≢nothing (simp (o, f) at e))))
    (λ o. o)
