-- Tables of computed cases: inputs, each with all that the steps answer from the fresh state on, up to and including
-- the end or the refusal, or with its normalised text, or with the lines that `list` writes, or with what the profile
-- says of it, or with its index; two inputs with what they are joined to; an input before and after one line is
-- changed. `Holds`: every row does.
use Rattle.std.specs.Prelude.{◌≡◌, List, [], ◌∷◌, ◌++◌, ℕ, zero, suc}
use Prim.Native.String.{String}
use Rattle.elements.specs.declared.LabelPosition.{LabelPosition}
use Rattle.elements.specs.Walk as walk
use Rattle.elements.specs.Given.{Due, text}
use Rattle.walk_theory.specs.Step.{State, element, cleared, printed, ended, refused, step}
use Rattle.walk_theory.specs.Trace.{left}
use Rattle.text.specs.Ascii.{ascii}
use Rattle.grammar.specs.Epl.{epl}
use Rattle.grammar.specs.Normal.{normalised}
use Rattle.walk.specs.Steps as steps
use Rattle.walk.specs.Steps.{EplAnswer}
use Rattle.file_listing.specs.Listing.{due_of}
use Rattle.strict.specs.declared.verdict.Checked.{Checked}
use Rattle.strict.specs.Verdict.{checked_of}
use Rattle.strict.specs.Listing.{strict_due_of}
use Rattle.label_index.specs.declared.entry.LabelEntry.{LabelEntry}
use Rattle.label_index.specs.Plan.{EplFilling, filling_of}
use Rattle.label_opening.specs.Opened as opening
use Rattle.joining.specs.Join.{file_of, join_due_of}
use Rattle.dots_label.specs.Conversion.{Conversion, conversion_of}

abbrev pub EplState : Type 0
EplState = State LabelPosition

abbrev pub fresh : EplState
fresh = steps.state_of walk.fresh

-- an answer, and behind it those from the state that it returned; the end and a refusal are the last
abbrev pub onward : (EplState → List EplAnswer) → EplAnswer → List EplAnswer
onward go (element e st) = element e st ∷ go st
onward go (cleared st) = cleared st ∷ go st
onward go (printed n q st) = printed n q st ∷ go st
onward go (ended st) = ended st ∷ []
onward go (refused n p st) = refused n p st ∷ []

-- what k steps answer at most, each given the state that the last one returned
abbrev pub answers_of : ℕ → List ℕ → EplState → List EplAnswer
answers_of zero s st = []
answers_of (suc k) s st = onward (λ st'. answers_of k s st') (step epl s st)

-- all answers to an input: `left` falls at each but the last
abbrev pub answers : List ℕ → List EplAnswer
answers s = answers_of (suc (left s fresh)) s fresh

-- an input with all that is answered to it, with its normalised text, with its listing, with the profile's verdict on
-- it, with what is due to `strict_list`; with its index, for a list of so many entries; with what opening one of these
-- entries by its number is due, or with its label at 300 dots for a list of so many elements; with its listing before
-- and after one line is changed
pub data Case : Type 0 where
  says : List ℕ → List EplAnswer → Case
  becomes : List ℕ → List ℕ → Case
  lists : List ℕ → List ℕ → Case
  judges : List ℕ → Checked → Case
  strictly : List ℕ → Due → Case
  indexes : List ℕ → ℕ → EplFilling → Case
  opens : List ℕ → List LabelEntry → ℕ → Due → Case
  -- two inputs, with the file that is refused, and what is due to `join`
  joins : List ℕ → List ℕ → ℕ → Due → Case
  -- a file in three parts with its listing, and the listing where the middle part is another
  changes : List ℕ → List ℕ → List ℕ → List ℕ → List ℕ → List ℕ → Case
  converts : List ℕ → List LabelEntry → ℕ → ℕ → Conversion → Case

-- every row of a table holds
abbrev pub Holds : List Case → Type 0
Holds [] = Unit
Holds (says s xs ∷ cs) = (answers s ≡ xs) × Holds cs
Holds (becomes s t ∷ cs) = (normalised s ≡ t) × Holds cs
Holds (lists s t ∷ cs) = (due_of s ≡ text t) × Holds cs
Holds (judges s c ∷ cs) = (checked_of s ≡ c) × Holds cs
Holds (strictly s d ∷ cs) = (strict_due_of s ≡ d) × Holds cs
Holds (indexes s m f ∷ cs) = (filling_of s m ≡ f) × Holds cs
Holds (opens s es i d ∷ cs) = (opening.due_of s es i ≡ d) × Holds cs
Holds (joins s t f d ∷ cs) = ((file_of s t ≡ f) × (join_due_of s t ≡ d)) × Holds cs
Holds (changes front old new back was is ∷ cs) =
    (due_of (front ++ (old ++ back)) ≡ text was) × (due_of (front ++ (new ++ back)) ≡ text is) × Holds cs
Holds (converts s es i m c ∷ cs) = (conversion_of s es i m ≡ c) × Holds cs

-- How the rows are written, in characters:
abbrev pub case : String → List EplAnswer → Case
case s said = says (ascii s) said

abbrev pub normal : String → String → Case
normal s t = becomes (ascii s) (ascii t)

abbrev pub listing : String → String → Case
listing s t = lists (ascii s) (ascii t)
