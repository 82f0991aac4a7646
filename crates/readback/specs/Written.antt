-- What is written, as units of EPL, and what reading it gives (01, "Writing EPL": "Reading what was written, if it is
-- within 16,777,216 bytes, yields equal elements and counts, data compared by bytes").
use Rattle.std.specs.Prelude.{◌≡◌, List, [], ◌∷◌, ◌++◌, map, ℕ, ◌≤◌, ℤ, pos, nat_abs, length}
use Rattle.text.specs.Ascii.{ascii}
use Rattle.elements.specs.declared.LabelElement.{LabelElement}
use Rattle.elements.specs.declared.LabelPosition.{LabelPosition}
use Rattle.elements.specs.declared.PrintCounts.{PrintCounts}
use Rattle.elements.specs.declared.plain.Fields.{Fields}
use Rattle.elements.specs.declared.plain.Fields.TheVariants as fields
use Rattle.elements.specs.Given.{longest}
use Rattle.elements.specs.Plain.{plain_of}
use Rattle.walk_theory.specs.Division.{Division}
use Rattle.walk_theory.specs.Labels.{Label, goes, run, labels, labels_of}
use Rattle.walk_theory.specs.Normal.{each}
use Rattle.walk_theory.specs.Reach.{accepted, Reach, answered}
use Rattle.walk_theory.specs.Step.{State, Answer, state, element, step}
use Rattle.grammar.specs.Units.{Header, EplUnit, block, line}
use Rattle.grammar.specs.Epl.{origin, epl}
use Rattle.decimals.specs.Decimal.{decimal}
use Rattle.spellings.specs.Spelled.{bytes_in, lines_of, command_for, spell, print_line, spell_label}
use Rattle.readback.specs.Shown.{Shown, shown}

abbrev pub header_for : LabelPosition → ℤ → List ℕ → Header
header_for p row t =
    record {
      x = decimal p.x;
      y = decimal p.y;
      width = decimal row;
      lines = decimal (pos (lines_of (length t) (nat_abs row)));
    }

-- a command c is a line; that of a graphic is a block, and the LF behind it an empty line
abbrev pub units_by : LabelPosition → List ℕ → List ℕ → Fields → List EplUnit
units_by p t c (fields.Graphic row) = block [] (header_for p row t) t ∷ line [] ∷ []
units_by p t c (fields.Text reverse f i) = line c ∷ []
units_by p t c (fields.Box x l) = line c ∷ []
units_by p t c (fields.Diagonal x down) = line c ∷ []
units_by p t c (fields.Code128 b m) = line c ∷ []
units_by p t c (fields.Bars b) = line c ∷ []
units_by p t c (fields.Ratio b check wide x) = line c ∷ []
units_by p t c (fields.Pdf417 b) = line c ∷ []
units_by p t c (fields.Aztec b) = line c ∷ []
units_by p t c (fields.Datamatrix b) = line c ∷ []
units_by p t c (fields.Qr b l) = line c ∷ []
units_by p t c (fields.Maxicode m) = line c ∷ []

abbrev pub units_of : List ℕ → LabelElement → List EplUnit
units_of s e =
    units_by (plain_of e).position (bytes_in s (plain_of e).«data») (command_for s e) (plain_of e).fields

unfoldable pub label_units : List ℕ → List LabelElement → PrintCounts → List EplUnit
label_units s es q = line (ascii "N") ∷ (each (units_of s) es ++ (line (print_line q) ∷ []))

-- of an element e of s: its text divides into its units, a run over them leaves it pending, and the first step over
-- the text answers it
pub record ReadBack (s : List ℕ) (e : LabelElement) : Type 0 where
  pub division : Division epl (spell s e) (units_of s e)
  pub pending : run epl Shown shown origin [] (units_of s e) ≡ goes [] origin (shown s e ∷ [])
  pub stepped : length (spell s e) ≤ longest
      → (x : LabelElement) × (st : State LabelPosition) × (step epl (spell s e) (state 0 origin 0) ≡ element x st)
      × (shown (spell s e) x ≡ shown s e)

-- the label that is read
abbrev pub label_of : List ℕ → List LabelElement → PrintCounts → Label Shown PrintCounts
label_of s es q = record { count = length es; says = q; frames = map (shown s) es }

-- of a label: its text divides into its units, their labels are this one with nothing pending, and the steps over the
-- text answer it and reach the end
pub record Reread (s : List ℕ) (es : List LabelElement) (q : PrintCounts) : Type 0 where
  pub division : Division epl (spell_label s es q) (label_units s es q)
  pub one_label : labels_of epl Shown shown origin [] (label_units s es q) ≡ labels (label_of s es q ∷ []) 0
  pub walked : length (spell_label s es q) ≤ longest
      → (xs : List (Answer LabelPosition LabelElement PrintCounts))
      × Reach epl (spell_label s es q) (state 0 origin 0) xs (accepted 0)
      × (answered epl Shown shown (spell_label s es q) [] xs ≡ label_of s es q ∷ [])
