-- Opening one label (01, "The label index"): what is due to `open_label`, the label's lines of the listing or a
-- refusal.
use Rattle.std.specs.Prelude.{◌≡◌, cond, ◌||◌, List, [], ℕ, ltb, length, take}
use Rattle.frame_bytes.specs.Frame.{frame_of}
use Rattle.elements.specs.Given.{Due, text, denied, longest}
use Rattle.elements.specs.Refusals.{number_of}
use Rattle.elements.specs.declared.LabelElement.{LabelElement}
use Rattle.elements.specs.declared.refusal.Refusal.TheVariants.{InputTooLong, StateOutside, NoSuchLabel}
use Rattle.elements.specs.declared.walk_state.WalkState.{WalkState}
use Rattle.walk_theory.specs.Index.{Opening, opens, denies, first_in, opening}
use Rattle.grammar.specs.Epl.{EplPrint, epl}
use Rattle.walk.specs.Steps.{trace_of}
use Rattle.label_index.specs.Entries.{entries_of}
use Rattle.label_index.specs.declared.entry.LabelEntry.{LabelEntry}
use Rattle.file_listing.specs.Listing.{label_lines, label_text}
use Rattle.label_opening.specs.declared.label.Found.{Found}
use Rattle.label_opening.specs.declared.label.Found.TheVariants.{Label, NoLabel}
use Rattle.label_opening.specs.declared.start.Start.{Start}
use Rattle.label_opening.specs.declared.start.Start.TheVariants.{At, Denied}

abbrev pub FramedOpening : Type 0
FramedOpening = Opening (List ℕ) EplPrint

-- "Any label read from its entry alone gives the frames that the full listing has for it": its lines
abbrev pub opening_due : FramedOpening → Due
opening_due (opens l) = text (label_lines l)
opening_due (denies k p) = denied k p

-- of the entry with the number i
abbrev pub opening_of : List ℕ → List LabelEntry → ℕ → FramedOpening
opening_of s es i = opening epl (List ℕ) frame_of s (entries_of es) i

-- what is due to `open_label`
abbrev pub due_of : List ℕ → List LabelEntry → ℕ → Due
due_of s es i = opening_due (opening_of s es i)

-- ---- inner
-- "from the first place with the entry's reference and nothing pending"
abbrev pub start_at : LabelEntry → WalkState
start_at e = record { reference = e.reference; pending = 0; place = e.first }

-- where the walk of the entry e with the number i starts, out of n, and what an input of so many bytes is cut at
abbrev pub start_of : ℕ → ℕ → ℕ → LabelEntry → Start
start_of len n i e =
    cond (ltb longest len) (Denied InputTooLong 0)
    (cond (ltb i n)
    (cond (ltb len e.last || ltb e.last e.first) (Denied StateOutside e.last)
    (At (start_at e) e.last))
    (Denied NoSuchLabel i))

-- what is told of an element may be any
module _ (F : Type 0) (frame : List ℕ → LabelElement → F) where
  -- the first label of the walk of s from w
  abbrev pub first_from : List ℕ → WalkState → ℕ → Opening F EplPrint
  first_from s w i = first_in epl F frame i s [] (trace_of s w)

  abbrev pub started_opening : List ℕ → ℕ → Start → Opening F EplPrint
  started_opening s i (At w last) = first_from (take last s) w i
  started_opening s i (Denied k p) = denies (number_of k) p

abbrev pub first_due : List ℕ → WalkState → ℕ → Due
first_due s w i = opening_due (first_from (List ℕ) frame_of s w i)

abbrev pub entry_due : List ℕ → ℕ → ℕ → LabelEntry → Due
entry_due s n i e = opening_due (started_opening (List ℕ) frame_of s i (start_of (length s) n i e))

-- what was found is what is due: a label with its length, or a refusal
abbrev pub Finds : List ℕ → Due → Found → Type 0
Finds s d (Label w p n) = (d ≡ text (label_text s p w)) × (n ≡ length (label_text s p w))
Finds s d (NoLabel k p) = d ≡ denied (number_of k) p
