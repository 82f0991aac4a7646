-- Inner: the elements that a walk yields from a state, and the numbers of those that a rectangle finds.
use Rattle.std.specs.Prelude.{◌≡◌, Bool, true, false, cond, List, [], ◌∷◌, ℕ, length}
use Rattle.elements.specs.Given.{Due, text, denied}
use Rattle.elements.specs.Refusals.{number_of}
use Rattle.elements.specs.declared.LabelElement.{LabelElement}
use Rattle.elements.specs.declared.walk_state.WalkState.{WalkState}
use Rattle.walk_theory.specs.Trace.{lead}
use Rattle.grammar.specs.Epl.{epl}
use Rattle.walk.specs.Steps.{EplTrace, trace_of}
use Rattle.label_index.specs.declared.entry.LabelEntry.{LabelEntry}
use Rattle.label_opening.specs.Opened.{start_of, first_from, started_opening}
use Rattle.where_element.specs.Element.{is_in, is_on, numbers_from}
use Rattle.where_element.specs.declared.place.Rectangle.{Rectangle}
use Rattle.where_label.specs.Found.{itself, found_in, checked}
use Rattle.where_label.specs.declared.find.Look.{Look}
use Rattle.where_label.specs.declared.find.Counted.{Counted}
use Rattle.where_label.specs.declared.find.Counted.TheVariants.{Label, NoLabel}

-- the elements that a walk begins with, up to the first answer that is none
abbrev pub leading : List ℕ → EplTrace → List LabelElement
leading s t = lead epl LabelElement itself s t

abbrev pub elements_from : List ℕ → WalkState → List LabelElement
elements_from s w = leading s (trace_of s w)

-- by its own rectangle, or by its position
abbrev pub is_found : Look → LabelElement → Bool
is_found l e = cond l.own (is_on l.rectangle e) (is_in l.rectangle e)

-- the numbers of the elements that are found: `inside_of` or `touching_of`
abbrev pub found_of : Look → List LabelElement → List ℕ
found_of l es = numbers_from (is_found l) 0 es

abbrev pub count_if : Bool → ℕ
count_if b = cond b 1 0

abbrev pub one_if : Bool → ℕ → List ℕ
one_if b n = cond b (n ∷ []) []

-- of the first label of the walk of s from w
abbrev pub first_due : Look → List ℕ → WalkState → ℕ → Due
first_due l s w i = found_in (found_of l) (first_from LabelElement itself s w i)

-- of the entry e with the number i, out of n
abbrev pub started_due : List ℕ → ℕ → ℕ → LabelEntry → Look → Due
started_due s n i e l =
    checked s l.rectangle
    (found_in (found_of l) (started_opening LabelElement itself s i (start_of (length s) n i e)))

abbrev pub inside_entry : List ℕ → ℕ → ℕ → LabelEntry → Rectangle → Due
inside_entry s n i e r = started_due s n i e (record { rectangle = r; own = false })

abbrev pub touching_entry : List ℕ → ℕ → ℕ → LabelEntry → Rectangle → Due
touching_entry s n i e r = started_due s n i e (record { rectangle = r; own = true })

-- what was counted is what is due: a label's elements begin at w, and n of them are found; or a refusal
abbrev pub Counts : List ℕ → Look → Due → Counted → Type 0
Counts s l d (Label w n) = (d ≡ text (found_of l (elements_from s w))) × (n ≡ length (found_of l (elements_from s w)))
    × (w.pending ≡ 0)
Counts s l d (NoLabel k p) = d ≡ denied (number_of k) p
