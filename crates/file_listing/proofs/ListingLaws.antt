-- The lengths of lines and labels (`length_lines`, `length_label`, `length_pending`), and what a walk writes by the
-- first step's answer, as the loops over the steps want it (`lead_by`, `after_by`, `text_by`). The room for a listing
-- is in ListingRoomLaws. Assumes nothing.
use mathlib.Core.Path.{◌≡◌, refl, sym, ap, ◌∙◌}
use mathlib.Core.List.{List, [], ◌∷◌, ◌++◌}
use Prim.Native.Nat.{ℕ, zero, suc, ◌+◌, ◌*◌, ◌<◌, ◌≤◌, min}
use native.Mathlib.Nat.{min-eq_right, min-le_left}
use native.Mathlib.Omega.{arith}
use lib.ListN.{length, length-append}
use Rattle.frame_bytes.specs.Frame.{be32, frame_of, label_frame, pending_frame}
use Rattle.frame_bytes.specs.Hex.{line_of}
use Rattle.frame_bytes.proofs.FrameLaws.{frame_in}
use Rattle.frame_bytes.proofs.HexLaws.{length_line, length_be32}
use Rattle.walk_theory.specs.Step.{step}
use Rattle.walk_theory.specs.Trace.{lead, after}
use Rattle.walk_theory.proofs.TraceLaws.{final_after, labels_after}
use Rattle.grammar.specs.Epl.{EplPrint, epl}
use Rattle.grammar.proofs.FoundLaws.{reads}
use Rattle.walk.specs.Steps.{EplTrace, state_of, answer_of, trace_of}
use Rattle.elements.specs.Given.{longest}
use Rattle.elements.specs.declared.LabelElement.{LabelElement}
use Rattle.elements.specs.declared.walk_state.WalkState.{WalkState}
use Rattle.walk.specs.declared.answer.Answer.{Answer}
use Rattle.walk.specs.declared.answer.Answer.TheVariants.{Element, Clear, Print, End, Refused}
use Rattle.walk.proofs.WalkLaws.{on_step, begins}
use Rattle.file_listing.specs.Listing.{lines_of, label_lines, pending_line, listing_of, pending_at, front_frames, text_of, text_from}

pub length_lines : (p : List (List ℕ)) (f : List ℕ) → length (lines_of (p ++ (f ∷ []))) ≡ length (lines_of p) + (2 * length f + 1)
length_lines [] f = length-append (line_of f) [] ∙ omega (arith, length_line f)
length_lines (q ∷ p) f = length-append (line_of q) (lines_of (p ++ (f ∷ []))) ∙ omega (arith, length_lines p f, length-append (line_of q) (lines_of p))

pub length_frame : (n : ℕ) (q : EplPrint) → length (line_of (label_frame n q)) ≡ 27
unfolding label_frame be32
length_frame n q = omega (arith, length_line (label_frame n q))

pub length_label : (n : ℕ) (q : EplPrint) (p : List (List ℕ)) → length (label_lines (record { count = n; says = q; frames = p })) ≡ 27 + length (lines_of p)
length_label n q p = omega (arith, length-append (line_of (label_frame n q)) (lines_of p), length_frame n q)

-- what is pending at the end has a line, or nothing
pub pending_some : (n : ℕ) → 0 < n → pending_line n ≡ line_of (pending_frame n)
pending_some zero h = absurd (omega arith)
pending_some (suc n) h = refl

pub pending_none : (n : ℕ) → n ≤ 0 → pending_line n ≡ []
pending_none zero h = refl
pending_none (suc n) h = absurd (omega arith)

pub length_pending : (n : ℕ) → 0 < n → length (pending_line n) ≡ 11
length_pending n h = ap length (pending_some n h) ∙ omega (arith, length_line (pending_frame n), length_be32 n)

pub length_pending_le : (n : ℕ) → length (pending_line n) ≤ 11 * n
length_pending_le zero = omega arith
length_pending_le (suc n) = omega (arith, length_pending (suc n) (omega arith))

-- the frames of an input that the walk takes are counted exactly
pub frame_len_le : (s : List ℕ) (e : LabelElement) (n : ℕ) → n ≡ min 4294967295 (length (frame_of s e)) → n ≤ 4294967295
frame_len_le s e n q = rw q (min-le_left 4294967295 (length (frame_of s e)))

pub frame_len_is : (s : List ℕ) (e : LabelElement) → length s ≤ longest → min 4294967295 (length (frame_of s e)) ≡ length (frame_of s e)
frame_len_is s e h = min-eq_right (omega (arith, frame_in s e))

-- ---- at a step: r is the answer of the step from w, and q what it was matched with
module _ (s : List ℕ) (w : WalkState) (r q : Answer) (e : answer_of r ≡ step epl s (state_of w)) (k : r ≡ q) where
  pub lead_by : lines_of (front_frames s w) ≡ lines_of (lead epl (List ℕ) frame_of s (on_step s q))
  lead_by = ap (λ (t : EplTrace). lines_of (lead epl (List ℕ) frame_of s t)) (begins s w r q e k)

  module _ (start : WalkState) (h : after (trace_of s start) ≡ after (trace_of s w)) where
    pub after_by : after (trace_of s start) ≡ after (on_step s q)
    after_by = h ∙ ap after (begins s w r q e k)

    -- what is left from start, by what follows its elements
    pub text_by : text_from s start ≡ text_of s (front_frames s start) (after (on_step s q))
    text_by =
        let t = trace_of s start in
        (λ i. listing_of (labels_after epl reads (List ℕ) frame_of s [] t i) (pending_at (sym (final_after t) i)))
        ∙ ap (text_of s (front_frames s start)) after_by

-- an answer that is no element begins with none
pub lead_none : (s : List ℕ) (q : Answer) → ((w : WalkState) (x : LabelElement) → q ≡ Element w x → ⊥)
    → lines_of (lead epl (List ℕ) frame_of s (on_step s q)) ≡ []
lead_none s (Element v x) h = absurd (h v x refl)
lead_none s (Clear v) h = refl
lead_none s (Print v n) h = refl
lead_none s (End v) h = refl
lead_none s (Refused v k p) h = refl
