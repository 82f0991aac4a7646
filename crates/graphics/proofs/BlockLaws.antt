-- The header field at a place (`read_other`, `read_end`), the four fields of a header (`four`, `not_four`), the sizes
-- of a graphic (`total_fits`), and where its data lies (`span_fits`). Assumes nothing.
use mathlib.Core.Path.{◌≡◌, refl, sym, ap, ◌∙◌}
use mathlib.Core.Bool.{Bool, true, false, not, ◌&&◌, ◌||◌, and-true, true≢false}
use mathlib.Core.List.{List, [], ◌∷◌}
use Prim.Native.Nat.{ℕ, ◌+◌, ◌-◌, ◌*◌, ◌<◌, ◌≤◌}
use native.Mathlib.Nat.{mul-le-mul}
use native.Mathlib.Omega.{arith}
use lib.Dec.{T, eqb, ltb}
use lib.IntN.{ℤ, pos, negsuc, nat_abs}
use lib.ListN.{length, get_or, take, drop, length-take, length-drop, drop_of_length-le}
use lib.Seq.{drop-cons, drop-drop, take-length}
use lib.Signed.{mag, lt_z, non_neg, nat_abs-le}
use mir.Syntax.{w64}
use mir.Val.{Fits}
use borrow.Author.Tests.{ltb-true, ltb-false, eq-eqb, ne_eqb, not-true, not-false}
use Rattle.text.specs.Blank.{drop_while, front}
use Rattle.text.specs.Fields.{index_of, before, same}
use Rattle.text.proofs.BoolLaws.{test, and_both}
use Rattle.text.proofs.DropLaws.{drop_while_le}
use Rattle.text.proofs.FieldsLaws.{same_length, same_true}
use Rattle.parameters.specs.Params.{number_at}
use Rattle.elements.specs.declared.refusal.Refusal.{Refusal}
use Rattle.elements.specs.declared.refusal.Refusal.TheVariants as refusal
use Rattle.graphics.specs.declared.gw_span.Graphic.TheVariants as graphic
use Rattle.graphics.specs.declared.gw_span.GwNumbers.{GwNumbers}
use Rattle.graphics.specs.declared.gw_span.GwSpan.{GwSpan}
use Rattle.graphics.specs.declared.gw_span.HeaderField.{HeaderField}
use Rattle.graphics.specs.Block.{is_line_blank, opens_gw, in_field, closes, after_header_field, header_number, four_closed, payload_of, gw_numbers, total, measured, header_of, gw_span, FieldLen, HeaderRead}

-- the header field at a place

-- a header field holds no comma
index_front : (u : List ℕ) → index_of 44 (front in_field u) ≡ length (front in_field u)
index_front [] = refl
index_front (b ∷ u) =
    test (in_field b)
    (λ e. let k = and_both (not (eqb b 44)) (not (eqb b 10)) e in simp (not-true (eqb b 44) k.0, not-true (eqb b 10) k.1, index_front u))
    (λ e. simp e)

-- the field is n bytes long and has the number v
module _ (t : List ℕ) (at n : ℕ) {v : ℤ} (f : FieldLen (drop at t) n) (k : v ≡ number_at (pos 0) (take (at + n - at) (drop at t))) where
  ends : drop_while in_field (drop at t) ≡ drop (at + n) t
  ends = sym f.left ∙ drop-drop n at t

  its_number : v ≡ header_number (drop at t)
  unfolding header_number number_at before
  its_number =
      let m : at + n - at ≡ n = omega arith in
      (rw m at k) ∙ rw (f.is, index_front (drop at t), take-length (front in_field (drop at t)))

  pub read_comma : at + n < length t → get_or t (at + n) 0 ≡ 44 → HeaderRead t at (record { closed = true; value = v; next = at + n + 1 })
  unfolding closes after_header_field
  read_comma h e =
      record {
        is = rw (ends, drop-cons t (at + n) 0) (simp (eq-eqb (get_or t (at + n) 0) 44 e));
        number = its_number;
        behind = λ _. rw ends (drop-drop 1 (at + n) t);
        fits = omega arith;
      }

  -- no comma ends it
  unclosed : at ≤ length t → closes (drop at t) ≡ false → HeaderRead t at (record { closed = false; value = v; next = at + n })
  unclosed h e =
      record {
        is = sym e;
        number = its_number;
        behind = λ c. absurd (true≢false (sym c));
        fits = omega (arith, f.fits, length-drop at t);
      }

  pub read_other : at + n < length t → (get_or t (at + n) 0 ≡ 44 → ⊥) → HeaderRead t at (record { closed = false; value = v; next = at + n })
  unfolding closes
  read_other h e = unclosed (omega arith) (rw (ends, drop-cons t (at + n) 0) (simp (ne_eqb (get_or t (at + n) 0) 44 e)))

  pub read_end : at ≤ length t → length t ≤ at + n → HeaderRead t at (record { closed = false; value = v; next = at + n })
  unfolding closes
  read_end h e = unclosed h (rw (ends, drop_of_length-le t))

-- the first two bytes of a text are a and b
pub two_none : (t : List ℕ) (a b : ℕ) → length t < 2 → false ≡ same (take 2 t) (a ∷ b ∷ [])
two_none t a b h = sym (same_length (take 2 t) (a ∷ b ∷ []) (λ e. omega (arith, length-take 2 t)))

pub two_here : (t : List ℕ) (a b : ℕ) → 2 ≤ length t → (eqb (get_or t 0 0) a && eqb (get_or t 1 0) b) ≡ same (take 2 t) (a ∷ b ∷ [])
two_here [] a b h = absurd (omega arith)
two_here (x ∷ []) a b h = absurd (omega arith)
two_here (x ∷ y ∷ t) a b h = ap (λ (z : Bool). eqb x a && z) (sym (and-true (eqb y b)))

-- a first byte that is neither a blank nor `G`, or none at all
pub opens_none : (s : List ℕ) → length s ≡ 0 → false ≡ opens_gw s
unfolding opens_gw
opens_none [] h = refl
opens_none (b ∷ s) h = absurd (omega arith)

pub opens_other : (s : List ℕ) → (length s ≡ 0 → ⊥) → (ltb 32 (get_or s 0 0) && not (eqb (get_or s 0 0) 71)) ≡ true → false ≡ opens_gw s
unfolding opens_gw
opens_other [] h e = absurd (h refl)
opens_other (b ∷ s) h e =
    let k = and_both (ltb 32 b) (not (eqb b 71)) e in
    let l = ltb-true 32 b k.0 in
    let ne : (n : ℕ) → n ≤ 32 → eqb b n ≡ false = λ n m. ne_eqb b n (λ q. omega arith) in
    simp (ne 32 (omega arith), ne 9 (omega arith), ne 12 (omega arith), ne 13 (omega arith), not-true (eqb b 71) k.1)

-- the sizes of a graphic

-- one that is not negative keeps its value as a size
pub size : (z : ℤ) → mag z < 2147483648 → lt_z z (pos 0) ≡ false → T (non_neg z) × Fits w64 (nat_abs z)
size (pos n) h e = (tt, record { fits = omega arith })
size (negsuc n) h e = let k : ◌≡◌ {A = ℕ} 0 1 = cc in absurd (omega arith)

pub total_fits : (a b : ℤ) → mag a < 2147483648 → mag b < 2147483648 → Fits w64 (nat_abs a * nat_abs b)
total_fits a b p q =
    let h : nat_abs a * nat_abs b ≤ 2147483648 * 2147483648 = mul-le-mul (nat_abs-le a p) (nat_abs-le b q) in
    record { fits = omega arith }

-- lengths

after_le : (t : List ℕ) → length (after_header_field t) ≤ length t
unfolding after_header_field
after_le t = simp length-drop (omega (arith, drop_while_le in_field t))

payload_after : (t : List ℕ) → length (payload_of t) ≤ length t
unfolding payload_of
payload_after t =
    let u = after_header_field t in let v = after_header_field u in let w = after_header_field v in
    omega (arith, after_le t, after_le u, after_le v, after_le w)

pub header_le : (s : List ℕ) → length (header_of s) ≤ length s
header_le s = omega (arith, length-drop 2 (drop_while is_line_blank s), drop_while_le is_line_blank s)

-- behind `GW` it is shorter still
payload_lt : (s : List ℕ) → opens_gw s ≡ true → length (payload_of (header_of s)) < length s
unfolding opens_gw
payload_lt s h =
    let t = drop_while is_line_blank s in
    let e = ap length (same_true (take 2 t) (71 ∷ 87 ∷ []) h) in
    omega (arith, payload_after (header_of s), length-drop 2 t, length-take 2 t, drop_while_le is_line_blank s)

-- the four fields of a header t, each at the place behind the one before

-- a comma closes the field at a place
pub record Closed (t : List ℕ) (at : ℕ) (x : HeaderField) : Type 0 where
  pub is : closes (drop at t) ≡ true
  pub number : header_number (drop at t) ≡ x.value
  pub behind : after_header_field (drop at t) ≡ drop x.next t

module _ {t : List ℕ} {at : ℕ} {x : HeaderField} (h : HeaderRead t at x) where
  pub closed : not x.closed ≡ false → Closed t at x
  closed c = let k = not-false x.closed c in record { is = sym h.is ∙ k; number = sym h.number; behind = h.behind k }

  not_closed : not x.closed ≡ true → closes (drop at t) ≡ false
  not_closed c = sym h.is ∙ not-true x.closed c

-- the first that is not closed
module _ {t : List ℕ} where
  pub first_open : {x : HeaderField} → HeaderRead t 0 x → not x.closed ≡ true → four_closed t ≡ false
  unfolding four_closed
  first_open h c = simp (not_closed h c)

  module _ {x : HeaderField} (hx : Closed t 0 x) where
    pub second_open : {y : HeaderField} → HeaderRead t x.next y → not y.closed ≡ true → four_closed t ≡ false
    unfolding four_closed
    second_open h c = simp (hx.is, hx.behind, not_closed h c)

    module _ {y : HeaderField} (hy : Closed t x.next y) where
      pub third_open : {w : HeaderField} → HeaderRead t y.next w → not w.closed ≡ true → four_closed t ≡ false
      unfolding four_closed
      third_open h c = simp (hx.is, hx.behind, hy.is, hy.behind, not_closed h c)

      pub fourth_open : {w l : HeaderField} → Closed t y.next w → HeaderRead t w.next l → not l.closed ≡ true → four_closed t ≡ false
      unfolding four_closed
      fourth_open hw h c = simp (hx.is, hx.behind, hy.is, hy.behind, hw.is, hw.behind, not_closed h c)

-- a field that is not closed refuses the graphic; behind four that are closed the sizes decide
module _ (s t : List ℕ) (e : t ≡ header_of s) (o : opens_gw s ≡ true) where
  pub not_four : four_closed t ≡ false → graphic.Refused refusal.GraphicFields ≡ gw_span s
  unfolding gw_span
  not_four f = simp (o, ← e, f)

  pub four : {x y w l : HeaderField} → Closed t 0 x → Closed t x.next y → Closed t y.next w → Closed t w.next l
      → measured (record { at = record { x = x.value; y = y.value }; width_bytes = w.value; lines = l.value }) (length s - (length t - l.next)) (length t - l.next) ≡ gw_span s
  unfolding gw_span four_closed gw_numbers payload_of
  four hx hy hw hl =
      simp (o, ← e, hx.is, hx.number, hx.behind, hy.is, hy.number, hy.behind, hw.is, hw.number, hw.behind, hl.is, hl.number, hl.behind, length-drop)

-- where the data of a graphic lies

refused_no_span : (n : Refusal) (g : GwSpan) → graphic.Refused n ≡ graphic.Span g → ⊥
refused_no_span n g h = let z : ◌≡◌ {A = ℕ} 0 1 = cc in omega arith

pub record Lies (start left : ℕ) (g : GwSpan) : Type 0 where
  pub at_start : g.data_start ≡ start
  pub after_start : g.data_start ≤ g.data_end
  pub inside : g.data_end ≤ start + left

measured_lies : (n : GwNumbers) (start left : ℕ) (g : GwSpan) → measured n start left ≡ graphic.Span g → Lies start left g
unfolding measured
measured_lies n start left g h =
    test (lt_z n.width_bytes (pos 0) || lt_z n.lines (pos 0))
    (λ a. absurd (refused_no_span refusal.GraphicNegative g (simp a at h)))
    (λ a.
    test (ltb left (total n))
    (λ b. absurd (refused_no_span refusal.GraphicTruncated g (simp (a, b) at h)))
    (λ b.
    let e = simp (a, b) at h in
    let k = ltb-false left (total n) b in
    let g₀ : GwSpan = record { at = n.at; width_bytes = n.width_bytes; data_start = start; data_end = start + total n } in
    let j : g₀ ≡ g = cc in
    let x : start ≡ g.data_start = ap (λ (y : GwSpan). y.data_start) j in
    let y : start + total n ≡ g.data_end = ap (λ (y : GwSpan). y.data_end) j in
    record { at_start = sym x; after_start = omega arith; inside = omega arith }))

pub record SpanFits (s : List ℕ) (g : GwSpan) : Type 0 where
  pub start_le : g.data_start ≤ g.data_end
  pub end_le : g.data_end ≤ length s
  pub end_pos : 0 < g.data_end

pub span_fits : (s : List ℕ) (g : GwSpan) → gw_span s ≡ graphic.Span g → SpanFits s g
unfolding gw_span
span_fits s g h =
    test (opens_gw s)
    (λ o.
    test (four_closed (header_of s))
    (λ f.
    let p = length (payload_of (header_of s)) in
    let k = measured_lies (gw_numbers (header_of s)) (length s - p) p g (simp (o, f) at h) in
    let l = payload_lt s o in
    record { start_le = k.after_start; end_le = omega arith; end_pos = omega arith })
    (λ f. absurd (refused_no_span refusal.GraphicFields g (simp (o, f) at h))))
    (λ o. let e = simp o at h in let z : ◌≡◌ {A = ℕ} 0 1 = cc in absurd (omega arith))
