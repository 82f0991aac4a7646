-- A listing has at most 16 bytes for each byte of its input (`length_listing_le`, `never_short`): an element's line,
-- with that of the label that it may make alone, is paid by its unit, and so is the line of what is pending at the end.
-- Other laws of listings are in ListingLaws. Assumes nothing.
use mathlib.Core.Path.{◌≡◌, refl, sym, ap, subst}
use mathlib.Core.List.{List, [], ◌∷◌, ◌++◌}
use Prim.Native.Nat.{ℕ, zero, suc, ◌+◌, ◌-◌, ◌*◌, ◌<◌, ◌≤◌}
use native.Mathlib.Omega.{arith}
use lib.ListN.{length, length-append}
use borrow.Author.Tests.{le-ltb}
use Rattle.elements.specs.declared.LabelElement.{LabelElement}
use Rattle.elements.specs.declared.LabelElement.TheVariants.{GraphicField}
use Rattle.elements.specs.declared.LabelPosition.{LabelPosition}
use Rattle.elements.specs.declared.plain.Data.{Data}
use Rattle.elements.specs.declared.plain.Data.TheVariants.{NoData, Payload, Decoded}
use Rattle.elements.specs.Plain.{plain_of}
use Rattle.elements.specs.Spans.{spans_in, shifted}
use Rattle.frame_bytes.specs.Frame.{frame_of}
use Rattle.frame_bytes.proofs.FrameLaws.{frame_most, frame_le, most_shifted}
use Rattle.parameters.specs.declared.position.Placed.{Placed}
use Rattle.parameters.specs.declared.position.Placed.TheVariants as placing
use Rattle.parameters.specs.declared.reading.LineReading.TheVariants as reading
use Rattle.parameters.specs.Position.{placed, yields}
use Rattle.walk_theory.specs.Language.{yield}
use Rattle.walk_theory.specs.Step.{State, element, cleared, printed, ended, refused, step}
use Rattle.elements.specs.Given.{fitting}
use Rattle.walk_theory.specs.Trace.{Goes, left, listed, refusal_of, final, labels_in, trace, on_answer}
use Rattle.walk_theory.proofs.TraceLaws.{trace_is, goes_step, Paid, paid_step}
use Rattle.walk_theory.proofs.OutcomeLaws.{ending_listed}
use Rattle.commands.specs.Line.{read_line}
use Rattle.grammar.specs.Units.{Header, EplUnit, block, line, last, gw, bytes, number}
use Rattle.grammar.specs.Epl.{epl, acts, block_says}
use Rattle.grammar.proofs.FoundLaws.{reads}
use Rattle.grammar.proofs.FoundBlockLaws.{block_length}
use Rattle.grammar.proofs.EplLaws.{act_yields}
use Rattle.grammar.proofs.WellFormedLengthLaws.{Long, line_long}
use Rattle.elements.specs.Walk.{fresh}
use Rattle.walk.specs.Steps.{EplAnswer, EplTrace, state_of, trace_of}
use Rattle.file_listing.specs.Listing.{FramedLabel, FramedOutcome, lines_of, label_lines, listing_of, outcome_of, listing_due, due_of, pending_at, text_of}
use Rattle.file_listing.specs.Printing.{shown_of, refusal_by, shown_by, printed_of}
use Rattle.file_listing.proofs.ListingLaws.{length_lines, length_label, length_pending_le}

-- a line of 2 digits a byte and an LF, and 11 of the 27 bytes of frame 00's line; a print line pays the other 16
abbrev Pays : ℕ → LabelElement → Type 0
Pays k e = (s : List ℕ) → 2 * length (frame_of s e) + 12 ≤ 16 * k

-- so much for any frame with the data d
abbrev Enough : ℕ → Data → Type 0
Enough n d = 2 * frame_most d + 12 ≤ 16 * n

enough_pays : (n at : ℕ) (e : LabelElement) → Enough n (plain_of e).«data» → Pays n (shifted at e)
enough_pays n at e h s = omega (arith, h, frame_le s (shifted at e), most_shifted at e)

line_enough : (n : ℕ) (d : Data) → Long n (spans_in d) → Enough n d
line_enough n NoData l = omega (arith, l.0 refl)
line_enough n (Payload d) l = omega (arith, l.1 d refl)
line_enough n (Decoded d) l = omega (arith, l.1 d refl)

-- `GW` and four commas
header_long : (bs : List ℕ) (h : Header) → 6 ≤ length (bs ++ gw h [])
header_long bs h =
    let l = h.lines ++ 44 ∷ [] in let w = h.width ++ 44 ∷ l in let y = h.y ++ 44 ∷ w in let x = h.x ++ 44 ∷ y in
    omega (arith, length-append bs (71 ∷ 87 ∷ x), length-append h.x (44 ∷ y), length-append h.y (44 ∷ w), length-append h.width (44 ∷ l), length-append h.lines (44 ∷ []))

unit_pays : (r : LabelPosition) (u : EplUnit) (e : LabelElement) (at : ℕ) → acts r u ≡ yield e → Pays (length (bytes u)) (shifted at e)
unit_pays r (block bs h p) e at q = by (placed (number h.x) (number h.y) r) (act_yields r (block_says bs h p r) e q)
  where
    by : (o : Placed) → yields o (λ x. GraphicField (record { position = x; row_bytes = number h.width; «data» = record { start = length (bs ++ gw h []); len = length p } })) ≡ reading.Element e → Pays (length (bytes (block bs h p))) (shifted at e)
    by (placing.At x) z =
        let k : GraphicField (record { position = x; row_bytes = number h.width; «data» = record { start = length (bs ++ gw h []); len = length p } }) ≡ e = cc in
        enough_pays (length (bytes (block bs h p))) at e (subst (λ (x : LabelElement). Enough (length (bytes (block bs h p))) (plain_of x).«data») k (omega (arith, block_length bs h p, header_long bs h)))
    by placing.Outside z = absurd (let k : ◌≡◌ {A = ℕ} 0 1 = cc in omega arith)
unit_pays r (line t) e at q =
    enough_pays (length (t ++ 10 ∷ [])) at e (omega (arith, length-append t (10 ∷ []), line_enough (length t) (plain_of e).«data» (line_long t r e (act_yields r (read_line t r) e q))))
unit_pays r (last t) e at q = enough_pays (length t) at e (line_enough (length t) (plain_of e).«data» (line_long t r e (act_yields r (read_line t r) e q)))

-- ---- along the walk
-- at most so many bytes from a state, p being pending
abbrev most : List ℕ → State LabelPosition → List (List ℕ) → ℕ
most s st p = length (lines_of p) + 11 * st.pending + 16 * (length s - st.place)

abbrev long : List ℕ → List (List ℕ) → EplTrace → ℕ
long s p t = length (text_of s p t)

by_answer : (s : List ℕ) (st : State LabelPosition) (p : List (List ℕ)) (a : EplAnswer) → Goes s st a → Paid epl reads Pays unit_pays st.place a
    → ((st' : State LabelPosition) (q : List (List ℕ)) → left s st' < left s st → long s q (trace epl s st') ≤ most s st' q)
    → long s p (on_answer epl (trace epl s) a) ≤ most s st p
by_answer s st p (element e st') g m again =
    omega (arith, g.0, g.1, g.2, g.3, m.1, m.2 s, again st' (p ++ (frame_of s e ∷ [])) (omega (arith, g.1, g.2, g.3)), length_lines p (frame_of s e))
by_answer s st p (cleared st') g m again = omega (arith, g.1, g.2, g.3, again st' [] (omega (arith, g.1, g.2, g.3)))
by_answer s st p (printed n q st') g m again =
    omega (arith, g.1, g.2, g.3, g.4, g.5, again st' [] (omega (arith, g.1, g.2, g.3, g.4, g.5)), length_label n q p, length-append (label_lines (record { count = n; says = q; frames = p })) (text_of s [] (trace epl s st')))
by_answer s st p (ended st') g m again = omega (arith, g.2, length_pending_le st'.pending)
by_answer s st p (refused n k st') g m again = omega arith

bounded : (k : ℕ) (s : List ℕ) (st : State LabelPosition) (p : List (List ℕ)) → left s st < k → long s p (trace epl s st) ≤ most s st p
bounded zero s st p h = absurd (omega arith)
bounded (suc k) s st p h =
    subst (λ (t : EplTrace). long s p t ≤ most s st p) (sym (trace_is epl reads s st))
    (by_answer s st p (step epl s st) (goes_step epl reads s st) (paid_step epl reads Pays unit_pays s st) (λ st' q b. bounded k s st' q (omega arith)))

pub length_listing_le : (s : List ℕ) (ls : List FramedLabel) (n : ℕ) → outcome_of s ≡ listed ls n → length (listing_of ls n) ≤ 16 * length s
length_listing_le s ls n e =
    let t = trace_of s fresh in
    let k = ending_listed (final t) (labels_in epl (List ℕ) frame_of s [] t) ls n e in
    let same : text_of s [] t ≡ listing_of ls n = λ i. listing_of (k.1 i) (pending_at (k.0 i)) in
    omega (arith, ap length same, bounded (suc (left s (state_of fresh))) s (state_of fresh) [] (omega arith))

-- a buffer of 16 bytes for each of 65,536 is never too short
pub never_short : (s : List ℕ) → length s ≤ 65536 → printed_of s 1048576 ≡ shown_of (due_of s)
unfolding refusal_by
never_short s h = rw (le-ltb 65536 (length s) h) (by (outcome_of s) (length_listing_le s))
  where
    by : (o : FramedOutcome) → ((ls : List FramedLabel) (n : ℕ) → o ≡ listed ls n → length (listing_of ls n) ≤ 16 * length s) → shown_by 1048576 (fitting (listing_due o) 1048576) ≡ shown_of (listing_due o)
    by (listed ls n) r = simp (le-ltb 1048576 (length (listing_of ls n)) (omega (arith, r ls n refl)))
    by (refusal_of n p) r = refl
