-- A label's elements along the walk: from a state on, each with its place; the first that has a number; and one element
-- a step, as a loop over a lent list makes them.
use Rattle.std.specs.Prelude.{◌≡◌, Bool, cond, List, [], ◌∷◌, ℕ, zero, suc, ◌+◌, ◌≤◌, ◌<◌, eqb, ltb, length, take, drop}
use Rattle.elements.specs.declared.LabelElement.{LabelElement}
use Rattle.elements.specs.declared.walk_state.WalkState.{WalkState}
use Rattle.elements.specs.Given.{longest}
use Rattle.elements.specs.Refusals.{number_of}
use Rattle.lent_lists.specs.Filled.{made}
use Rattle.walk_theory.specs.Index.{denies, first_in, opening_by}
use Rattle.walk_theory.specs.Step.{element, cleared, printed, ended, refused, step}
use Rattle.walk_theory.specs.Trace.{Trace, trace, lead}
use Rattle.grammar.specs.Epl.{EplPrint, epl}
use Rattle.grammar.specs.Size.{unit_size}
use Rattle.walk.specs.Steps.{EplAnswer, state_of}
use Rattle.label_index.specs.Entries.{entry_of}
use Rattle.label_index.specs.declared.entry.LabelEntry.{LabelEntry}
use Rattle.structs.specs.Flat.{flat_element}
use Rattle.structs.specs.Steps.{walk_of}
use Rattle.dots.specs.declared.element.Element300.{Element300}
use Rattle.dots.specs.Element.{converted_element, or_nothing}
use Rattle.dots_label.specs.Placed.{placed}
use Rattle.dots_label.specs.Conversion.{Drawn, DrawnOpening, Conversion, converts, denied}
use Rattle.dots_label.specs.Conversion.{graphic, outside, label_conversion, conversion_by, answer_of}
use Rattle.dots_label.specs.declared.fault.Fault.{Fault}
use Rattle.dots_label.specs.declared.fill.Cursor.{Cursor}
use Rattle.dots_label.specs.declared.plan.Found.{Found}
use Rattle.dots_label.specs.declared.plan.Found.TheVariants.{Label, NoLabel}
use Rattle.dots_label.specs.declared.plan.Plan.{Plan}

-- ---- the walk with places
abbrev pub drawn_trace : List ℕ → WalkState → Trace Drawn EplPrint
drawn_trace s w = trace (placed epl) s (state_of w)

-- the elements that the walk from w begins with
abbrev pub drawn_from : List ℕ → WalkState → List Drawn
drawn_from s w = lead (placed epl) Drawn (λ _ d. d) s (drawn_trace s w)

-- the first label of the walk from w
abbrev pub first_drawn : List ℕ → WalkState → ℕ → DrawnOpening
first_drawn s w i = first_in (placed epl) Drawn (λ _ d. d) i s [] (drawn_trace s w)

-- ---- the first byte of a line: units are passed by their sizes, up to the one that ends at `to`
abbrev pub line_by : ℕ → List ℕ → ℕ → ℕ → ℕ
line_by zero rest at to = at
line_by (suc k) rest at to =
    cond (ltb (at + unit_size rest) to) (line_by k (drop (unit_size rest) rest) (at + unit_size rest) to) at

abbrev pub line_from : List ℕ → ℕ → ℕ → ℕ
line_from s at to = line_by (suc (length s)) (drop at s) at to

-- ---- the first element that has a number: a graphic's, or that of a result outside 32 bits
abbrev pub fault_of : Bool → LabelElement → ℕ
fault_of g e = cond g (graphic e) (outside e)

-- where none has one: 0, and how many there are, n before these
abbrev pub fault_from : Bool → ℕ → List Drawn → Fault
fault_from g n [] = record { number = 0; place = n }
fault_from g n (d ∷ ds) =
    cond (eqb (fault_of g d.element) 0) (fault_from g (suc n) ds)
    (record { number = fault_of g d.element; place = d.place })

-- ---- one element a step, in the file cut at the cursor's last place
abbrev pub on_element : Cursor → EplAnswer → Cursor
on_element c (element e st) =
    record { element = or_nothing (converted_element (flat_element e)); state = walk_of st; last = c.last }
on_element c (cleared st) = c
on_element c (printed n q st) = c
on_element c (ended st) = c
on_element c (refused k p st) = c

abbrev pub next_of : List ℕ → Cursor → Cursor
next_of s c = on_element c (step epl (take c.last s) (state_of c.state))

abbrev pub WithinCursor : List ℕ → Cursor → Type 0
WithinCursor s c = c.last ≤ length s

-- ---- what is to be done
-- what was found is the first label of the walk from w, whatever the list
abbrev pub Finds : List ℕ → WalkState → ℕ → Found → Type 0
Finds s w i (Label first q) = (first.pending ≡ 0)
    × ((m : ℕ) → conversion_by m (first_drawn s w i) ≡ label_conversion m q (drawn_from s first))
Finds s w i (NoLabel k p) = (m : ℕ) → conversion_by m (first_drawn s w i) ≡ denied (number_of k) p

-- the entry e with the number i, out of n
abbrev pub entry_drawn : List ℕ → ℕ → ℕ → LabelEntry → DrawnOpening
entry_drawn s n i e =
    cond (ltb longest (length s)) (denies 14 0)
    (cond (ltb i n) (opening_by (placed epl) Drawn (λ _ d. d) i s (entry_of e)) (denies 21 i))

abbrev pub elements_of : Conversion → List Element300
elements_of (converts q xs) = xs
elements_of (denied k p) = []

-- the answer, and the elements that the loop makes in any string s that is t up to the cursor's last place; m elements
-- have room
pub record Plans (t : List ℕ) (m : ℕ) (c : Conversion) (p : Plan) : Type 0 where
  pub answers : p.answer ≡ answer_of c
  pub makes : (s : List ℕ) → (0 < p.todo → take p.start.last s ≡ t)
      → made (next_of s) (λ x. x.element) p.todo p.start ≡ elements_of c
  pub room : p.todo ≤ m
  pub last : 0 < p.todo → p.start.last ≡ length t

-- nothing is to be made, whatever the string and the list
abbrev pub Refuses : ℕ → ℕ → Plan → Type 0
Refuses k p r = (t : List ℕ) (m : ℕ) → Plans t m (denied k p) r
