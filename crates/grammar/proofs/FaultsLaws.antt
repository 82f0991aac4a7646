-- What stands first is at fault, as `first` has it, exactly where `Fault` says so, with its number (`first_fault`,
-- `fault_first`, `faults`), a number from 1 to 12 (`fault_between`). Assumes nothing.
use mathlib.Core.Path.{◌≡◌, refl, sym, ap, subst, ◌∙◌}
use mathlib.Core.Bool.{Bool, true, false, ◌&&◌, true≢false, false≢true}
use mathlib.Core.List.{List, [], ◌∷◌, ◌++◌, append-nil}
use mathlib.Core.Logic.{◌↔◌, ◌⊎◌, inl, inr}
use Prim.Native.Nat.{ℕ, suc, ◌-◌, ◌*◌, ◌<◌, ◌≤◌, zero-le}
use native.Mathlib.Omega.{arith}
use lib.Dec.{eqb, ltb}
use lib.IntN.{ℤ, pos, negsuc, nat_abs}
use lib.ListN.{length}
use lib.Signed.{lt_z}
use borrow.Author.Tests.{eqb-true, ltb-true, lt-ltb, le-ltb, not-false}
use Rattle.text.specs.Blank.{drop_while, front, trim}
use Rattle.text.proofs.BoolLaws.{test}
use Rattle.elements.specs.declared.refusal.Refusal.TheVariants as refusal
use Rattle.command_letters.specs.Command.{is_reference, is_print, command_of}
use Rattle.graphics.specs.declared.gw_span.Graphic.TheVariants as graphic
use Rattle.graphics.specs.declared.gw_span.GwNumbers.{GwNumbers}
use Rattle.graphics.specs.Block.{is_line_blank, opens_gw, closes, after_header_field, header_number, four_closed, payload_of, gw_numbers, total, measured, header_of, gw_span}
use Rattle.walk_theory.specs.Language.{First, bad, unit}
use Rattle.walk_theory.proofs.DivisionLaws.{bad≢unit, bad≢none}
use Rattle.grammar.specs.LineFaults.{LineFault, few_a, few_b, few_2d, few_line, few_ls, few_x, type_b, type_2d, long_qr}
use Rattle.grammar.specs.Units.{Header, EplUnit, line, last, gw, All, not_lf, number}
use Rattle.grammar.specs.WellFormed.{well_formed}
use Rattle.grammar.specs.Found.{line_by, text_line, said, judged, header_fields, found, first}
use Rattle.grammar.specs.Faults.{Ends, FirstLine, commas, Headed, Negative, Fault, few_commas, negative, past_end, ill_formed}
use Rattle.grammar.proofs.FrontLaws.{front_drop, front_all, drop_stops, front_whole, front_stop}
use Rattle.grammar.proofs.LineFaultsLaws.{Ill, ill_has_fault, fault_is_ill}
use Rattle.grammar.proofs.UnitsOpensLaws.{opens_true, true_opens, not_opens}
use Rattle.grammar.proofs.FoundLineLaws.{opens_line, line_finds, last_finds}
use Rattle.grammar.proofs.FoundBlockLaws.{numbers, gw_span_is, gw_cut, before_of, span_none}

-- ---- the line that stands first
ends_by : (q : List ℕ) → ((b : ℕ) (r : List ℕ) → q ≡ b ∷ r → not_lf b ≡ false) → Ends q
ends_by [] h = tt
ends_by (b ∷ r) h = eqb-true b 10 (not-false (eqb b 10) (h b r refl))

pub line_of : (s : List ℕ) → FirstLine s (front not_lf s)
line_of s = record { rest = drop_while not_lf s; cut = sym (front_drop not_lf s); one_line = front_all not_lf s; ends = ends_by (drop_while not_lf s) (drop_stops not_lf s) }

-- the first line is cut in one way
pub front_is : {s t : List ℕ} → FirstLine s t → front not_lf s ≡ t
front_is {s} {t} l = ap (front not_lf) l.cut ∙ by l.rest l.ends
  where
    by : (q : List ℕ) → Ends q → front not_lf (t ++ q) ≡ t
    by [] e = ap (front not_lf) (append-nil t) ∙ front_whole not_lf t l.one_line
    by (b ∷ q) e = ap (λ (x : ℕ). front not_lf (t ++ x ∷ q)) e ∙ front_stop not_lf t l.one_line 10 q refl

pub opens_first : {s t : List ℕ} → FirstLine s t → opens_gw s ≡ opens_gw t
opens_first {s} {t} l = ap opens_gw l.cut ∙ by l.rest l.ends
  where
    by : (q : List ℕ) → Ends q → opens_gw (t ++ q) ≡ opens_gw t
    by [] e = ap opens_gw (append-nil t)
    by (b ∷ q) e = ap (λ (x : ℕ). opens_gw (t ++ x ∷ q)) e ∙ opens_line t q

-- ---- commas before the LF
abbrev commas_of : List ℕ → ℕ
commas_of t = commas (front not_lf t)

-- by whether a comma closes the first field: n commas in all, m behind that one
abbrev Counted : Bool → ℕ → ℕ → Type 0
Counted true n m = n ≡ suc m
Counted false n m = n ≡ 0

counts : (t : List ℕ) → Counted (closes t) (commas_of t) (commas_of (after_header_field t))
unfolding closes after_header_field
counts [] = refl
counts (b ∷ t) =
    test (eqb b 44)
    (λ e. let k = eqb-true b 44 e in rw k refl)
    (λ e. test (eqb b 10)
    (λ f. let k = eqb-true b 10 f in rw k refl)
    (λ f. simp (e, f) (counts t)))

-- by whether commas close the first four
abbrev Four : Bool → ℕ → Type 0
Four true n = 4 ≤ n
Four false n = n < 4

four_by : (a b c d : Bool) (i j k l m : ℕ) → Counted a i j → Counted b j k → Counted c k l → Counted d l m → Four (a && b && c && d) i
four_by true true true true i j k l m p q r s = omega arith
four_by true true true false i j k l m p q r s = omega arith
four_by true true false d i j k l m p q r s = omega arith
four_by true false c d i j k l m p q r s = omega arith
four_by false b c d i j k l m p q r s = omega arith

four : (t : List ℕ) → Four (four_closed t) (commas_of t)
unfolding four_closed
four t =
    let y = after_header_field t in let w = after_header_field y in let l = after_header_field w in
    four_by (closes t) (closes y) (closes w) (closes l) (commas_of t) (commas_of y) (commas_of w) (commas_of l) (commas_of (after_header_field l)) (counts t) (counts y) (counts w) (counts l)

few_four : (t : List ℕ) → commas_of t < 4 → four_closed t ≡ false
few_four t h = test (four_closed t) (λ e. let k = rw e at (four t) in absurd (omega arith)) (λ e. e)

four_few : (t : List ℕ) → four_closed t ≡ false → commas_of t < 4
four_few t e = rw e at (four t)

-- ---- signs
negative_true : (z : ℤ) → Negative z → lt_z z (pos 0) ≡ true
negative_true (pos n) h = absurd h
negative_true (negsuc n) h = refl

true_negative : (z : ℤ) → lt_z z (pos 0) ≡ true → Negative z
true_negative (pos n) h = absurd (false≢true (sym (le-ltb n 0 (omega arith)) ∙ h))
true_negative (negsuc n) h = tt

not_negative : (z : ℤ) → lt_z z (pos 0) ≡ false → z ≡ pos (nat_abs z)
not_negative (pos n) h = refl
not_negative (negsuc n) h = absurd (true≢false h)

-- ---- a fault that is found
same_bad : {m n : ℕ} → ◌≡◌ {A = First EplUnit} (bad m) (bad n) → m ≡ n
same_bad e = cc

judged_bad : (u : EplUnit) (rest : List ℕ) (n : ℕ) → judged (unit u rest) ≡ bad n → Ill (trim (said u)) n
judged_bad u rest n h =
    test (well_formed (trim (said u)))
    (λ e. absurd (bad≢unit (sym (simp e at h))))
    (λ e. (e, same_bad (simp e at h)))

line_bad : (t q : List ℕ) (n : ℕ) → judged (line_by t q) ≡ bad n → Ill (trim t) n
line_bad [] [] n h = absurd (bad≢none (sym h))
line_bad (b ∷ t) [] n h = judged_bad (last (b ∷ t)) [] n h
line_bad t (b ∷ q) n h = judged_bad (line t) q n h

line_fault : (s : List ℕ) (n : ℕ) → opens_gw s ≡ false → judged (text_line s) ≡ bad n → Fault s n
line_fault s n o h =
    let l = line_of s in
    let i = line_bad (front not_lf s) (drop_while not_lf s) n h in
    ill_formed l (λ p. true≢false (sym (opens_true p).0 ∙ sym (opens_first l) ∙ o))
    (subst (LineFault (trim (front not_lf s))) i.1 (ill_has_fault (trim (front not_lf s)) i.0))

headed : (s : List ℕ) → opens_gw s ≡ true → four_closed (header_of s) ≡ true → Headed s (header_fields (header_of s)) (payload_of (header_of s))
headed s o f =
    let b = before_of s in
    record { bs = front is_line_blank s; cut = gw_cut s o f; blanks = b.blanks; in_x = b.in_x; in_y = b.in_y; in_width = b.in_width; in_lines = b.in_lines }

measured_fault : (s : List ℕ) (h : Header) (q : List ℕ) (start n : ℕ) → Headed s h q → found s (measured (numbers h) start (length q)) ≡ bad n → Fault s n
unfolding measured
measured_fault s h q start n k e =
    let w = number h.width in let l = number h.lines in
    test (lt_z w (pos 0))
    (λ a. subst (Fault s) (same_bad (simp a at e)) (negative k (inl (true_negative w a))))
    (λ a. test (lt_z l (pos 0))
    (λ b. subst (Fault s) (same_bad (simp (a, b) at e)) (negative k (inr (true_negative l b))))
    (λ b. test (ltb (length q) (total (numbers h)))
    (λ c. subst (Fault s) (same_bad (simp (a, b, c) at e)) (past_end k (not_negative w a) (not_negative l b) (ltb-true (length q) (total (numbers h)) c)))
    (λ c. absurd (bad≢unit (sym (simp (a, b, c) at e))))))

pub first_fault : (s : List ℕ) (n : ℕ) → first s ≡ bad n → Fault s n
unfolding first gw_span gw_numbers header_number true_opens
first_fault s n e =
    let t = header_of s in
    test (opens_gw s)
    (λ o. test (four_closed t)
    (λ f. measured_fault s (header_fields t) (payload_of t) (length s - length (payload_of t)) n (headed s o f) (simp (o, f) at e))
    (λ f. subst (Fault s) (same_bad (simp (o, f) at e)) (few_commas (true_opens s o) (line_of t) (four_few t f))))
    (λ o. line_fault s n o (simp o at e))

-- ---- a fault is found
measured_negative : (m : GwNumbers) (start left : ℕ) → Negative m.width_bytes ⊎ Negative m.lines → measured m start left ≡ graphic.Refused refusal.GraphicNegative
unfolding measured
measured_negative m start left (inl h) = simp (negative_true m.width_bytes h)
measured_negative m start left (inr h) = test (lt_z m.width_bytes (pos 0)) (λ e. simp e) (λ e. simp (e, negative_true m.lines h))

measured_past : (m : GwNumbers) (start left w l : ℕ) → m.width_bytes ≡ pos w → m.lines ≡ pos l → left < w * l → measured m start left ≡ graphic.Refused refusal.GraphicTruncated
unfolding measured
measured_past m start left w l e f h = simp (e, f, le-ltb w 0 zero-le, le-ltb l 0 zero-le, lt-ltb left (w * l) h)

pub headed_span : {s : List ℕ} {h : Header} {q : List ℕ} (k : Headed s h q) → gw_span s ≡ measured (numbers h) (length (k.bs ++ gw h [])) (length q)
headed_span {s} {h} {q} k =
    ap gw_span k.cut
    ∙ gw_span_is k.bs h q (record { blanks = k.blanks; in_x = k.in_x; in_y = k.in_y; in_width = k.in_width; in_lines = k.in_lines })

-- the line t, where it is not well formed
ill_line : (t q : List ℕ) (n : ℕ) → All not_lf t → Ends q → Ill (trim t) n → judged (text_line (t ++ q)) ≡ bad n
unfolding well_formed command_of is_reference is_print
ill_line [] [] n a e i = absurd (true≢false i.0)
ill_line (b ∷ t) [] n a e i =
    ap (λ (x : List ℕ). judged (text_line x)) (append-nil (b ∷ t)) ∙ ap judged (last_finds (b ∷ t) a (omega arith)) ∙ (simp (i.0, i.1))
ill_line t (b ∷ q) n a e i =
    ap (λ (x : ℕ). judged (text_line (t ++ x ∷ q))) e ∙ ap judged (line_finds t q a) ∙ (simp (i.0, i.1))

pub fault_first : {s : List ℕ} {n : ℕ} → Fault s n → first s ≡ bad n
unfolding first gw_span
fault_first {s} (few_commas {t} o l h) =
    let k = opens_true o in
    let c : commas_of (header_of s) ≡ commas t = ap commas_of k.1 ∙ ap commas (front_is l) in
    simp (k.0, few_four (header_of s) (omega arith))
fault_first {s} (negative {h} {q} k n) = ap (found s) (headed_span k ∙ measured_negative (numbers h) (length (k.bs ++ gw h [])) (length q) n)
fault_first {s} (past_end {h} {q} {w} {l} k e f n) = ap (found s) (headed_span k ∙ measured_past (numbers h) (length (k.bs ++ gw h [])) (length q) w l e f n)
fault_first {s} (ill_formed {t} {n} l o f) =
    ap (found s) (span_none s (opens_first l ∙ not_opens t o))
    ∙ ap (λ (x : List ℕ). judged (text_line x)) l.cut
    ∙ ill_line t l.rest n l.one_line l.ends (fault_is_ill (trim t) f)

pub faults : (s : List ℕ) (n : ℕ) → (first s ≡ bad n) ↔ Fault s n
faults s n = (first_fault s n, fault_first)

-- ---- the number of a fault is one of 1 to 12
line_between : {t : List ℕ} {n : ℕ} → LineFault t n → (1 ≤ n) × (n ≤ 9)
line_between (few_a p h) = (omega arith, omega arith)
line_between (few_b p h) = (omega arith, omega arith)
line_between (few_2d p h) = (omega arith, omega arith)
line_between (few_line p h) = (omega arith, omega arith)
line_between (few_ls p h) = (omega arith, omega arith)
line_between (few_x p h) = (omega arith, omega arith)
line_between (type_b p h o) = (omega arith, omega arith)
line_between (type_2d p h o) = (omega arith, omega arith)
line_between (long_qr p h q l) = (omega arith, omega arith)

pub fault_between : {s : List ℕ} {n : ℕ} → Fault s n → (1 ≤ n) × (n ≤ 12)
fault_between (few_commas o l h) = (omega arith, omega arith)
fault_between (negative k n) = (omega arith, omega arith)
fault_between (past_end k e f n) = (omega arith, omega arith)
fault_between (ill_formed l o f) = let b = line_between f in (b.0, omega (arith, b.1))
