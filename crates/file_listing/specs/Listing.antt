-- The listing (01, "Frames"): the lines of the labels that a walk answers and of what is pending at its end, which are
-- due to `list`.
use Rattle.std.specs.Prelude.{List, [], ◌∷◌, ◌++◌, ℕ, zero, suc}
use Rattle.frame_bytes.specs.Frame.{frame_of, label_frame, pending_frame}
use Rattle.frame_bytes.specs.Hex.{line_of}
use Rattle.elements.specs.Given.{Due, text, denied}
use Rattle.walk_theory.specs.Labels.{Label}
use Rattle.walk_theory.specs.Reach.{Final, accepted, refusal}
use Rattle.walk_theory.specs.Trace.{Outcome, listed, refusal_of, outcome, final, labels_in, lead}
use Rattle.grammar.specs.Epl.{EplPrint, epl}
use Rattle.elements.specs.Walk.{fresh}
use Rattle.walk.specs.declared.answer.Printed.{Printed}
use Rattle.walk.specs.Steps.{EplTrace, state_of, trace_of}
use Rattle.elements.specs.declared.walk_state.WalkState.{WalkState}

-- a label with its elements' frames
abbrev pub FramedLabel : Type 0
FramedLabel = Label (List ℕ) EplPrint

-- "prints one frame a line"
abbrev pub lines_of : List (List ℕ) → List ℕ
lines_of [] = []
lines_of (f ∷ fs) = line_of f ++ lines_of fs

-- "A label is its frame 00, then the frames of its elements in file order"
abbrev pub label_lines : FramedLabel → List ℕ
label_lines l = line_of (label_frame l.count l.says) ++ lines_of l.frames

-- "the listing ends with frame fe and their count, only if there are some"
abbrev pub pending_line : ℕ → List ℕ
pending_line zero = []
pending_line (suc n) = line_of (pending_frame (suc n))

-- "labels follow in the order in which they are printed", n elements being pending at the end
abbrev pub listing_of : List FramedLabel → ℕ → List ℕ
listing_of [] n = pending_line n
listing_of (l ∷ ls) n = label_lines l ++ listing_of ls n

abbrev pub FramedOutcome : Type 0
FramedOutcome = Outcome (List ℕ) EplPrint

-- what the walk of an input lists
abbrev pub outcome_of : List ℕ → FramedOutcome
outcome_of s = outcome epl (List ℕ) frame_of s (state_of fresh)

-- the listing, or the walk's refusal
abbrev pub listing_due : FramedOutcome → Due
listing_due (listed ls n) = text (listing_of ls n)
listing_due (refusal_of n p) = denied n p

-- what is due to `list`
abbrev pub due_of : List ℕ → Due
due_of s = listing_due (outcome_of s)

-- ---- the parts
-- the frames of the elements that the walk from w begins with
abbrev pub front_frames : List ℕ → WalkState → List (List ℕ)
front_frames s w = lead epl (List ℕ) frame_of s (trace_of s w)

-- a label of what a print carries, with the frames that the walk from w begins with
abbrev pub label_text : List ℕ → Printed → WalkState → List ℕ
label_text s p w = label_lines (record { count = p.count; says = p.counts; frames = front_frames s w })

-- the count pending where a walk ends; a refusal lists none
abbrev pub pending_at : Final → ℕ
pending_at (accepted n) = n
pending_at (refusal n p) = 0

-- the labels that a walk answers, p being pending, and what is pending at its end
abbrev pub text_of : List ℕ → List (List ℕ) → EplTrace → List ℕ
text_of s p t = listing_of (labels_in epl (List ℕ) frame_of s p t) (pending_at (final t))

-- those of the walk from w, nothing being pending
abbrev pub text_from : List ℕ → WalkState → List ℕ
text_from s w = text_of s [] (trace_of s w)

abbrev pub all_text : List ℕ → List ℕ
all_text s = text_from s fresh
