-- A line that is not well formed is refused as 01 numbers it (`ill_formed`), a well-formed one only as 13 or
-- 19 (`well_formed_range`), and the data of what it yields is its own (`yielded`). Each command is in
-- WellFormedCommandLaws. Assumes nothing.
use mathlib.Core.Path.{◌≡◌}
use mathlib.Core.Bool.{Bool, true, false}
use mathlib.Core.List.{List, [], ◌∷◌}
use mathlib.Core.Logic.{◌⊎◌}
use Prim.Native.Nat.{ℕ}
use lib.Dec.{eqb}
use lib.ListN.{length, drop}
use Rattle.text.specs.Blank.{trim}
use Rattle.text.specs.Fields.{quoted}
use Rattle.text.proofs.BoolLaws.{test}
use Rattle.elements.specs.declared.DataSpan.{DataSpan}
use Rattle.elements.specs.declared.LabelElement.{LabelElement}
use Rattle.elements.specs.declared.LabelPosition.{LabelPosition}
use Rattle.elements.specs.declared.refusal.Refusal.{Refusal}
use Rattle.elements.specs.declared.refusal.Refusal.TheVariants as refusal
use Rattle.elements.specs.Refusals.{number_of}
use Rattle.elements.specs.Spans.{spans}
use Rattle.parameters.specs.declared.reading.LineReading.TheVariants as reading
use Rattle.command_letters.specs.declared.command.Command.{Command}
use Rattle.command_letters.specs.declared.command.Command.TheVariants.{Clear, Reference, Data, Line, Diagonal, Box, Print, Other}
use Rattle.command_letters.specs.Command.{command_of}
use Rattle.commands.specs.Line.{params_of, span_of, quoted_reading, command_reading, lead_of, read_line}
use Rattle.grammar.specs.WellFormed.{well_formed_as, well_formed, fault_as, fault_of}
use Rattle.grammar.proofs.WellFormedCommandLaws.{Meets, meets_line, meets_diagonal, meets_box, meets_data}

-- where the data lies of what a line t yields that spells c
abbrev pub data_of : Command → ℕ → List ℕ → List DataSpan
data_of Clear lead t = []
data_of Reference lead t = []
data_of (Data c) lead t = span_of lead t ∷ []
data_of (Line c) lead t = []
data_of Diagonal lead t = []
data_of Box lead t = []
data_of Print lead t = []
data_of Other lead t = []

meets_command : (c : Command) (lead : ℕ) (t : List ℕ) (r : LabelPosition) → Meets (well_formed_as c t) (fault_as c t) (data_of c lead t) (command_reading c lead t r)
unfolding quoted_reading
meets_command Clear lead t r = tt
meets_command Reference lead t r = tt
meets_command (Data c) lead t r =
    test (eqb (length (quoted t)) 0)
    (λ e. simp e tt)
    (λ e. simp e (meets_data c (params_of t) (quoted t) (span_of lead t) r))
meets_command (Line c) lead t r = meets_line (drop 2 t) c r
meets_command Diagonal lead t r = meets_diagonal (drop 2 t) r
meets_command Box lead t r = meets_box (drop 1 t) r
meets_command Print lead t r = tt
meets_command Other lead t r = tt

module _ (t : List ℕ) (r : LabelPosition) where
  meets : (x : Bool) → well_formed (trim t) ≡ x → Meets x (fault_of (trim t)) (data_of (command_of (trim t)) (lead_of t) (trim t)) (read_line t r)
  unfolding well_formed fault_of read_line
  meets x h = rw h at (meets_command (command_of (trim t)) (lead_of t) (trim t) r)

  pub ill_formed : well_formed (trim t) ≡ false → (n : Refusal) × (read_line t r ≡ reading.Refused n) × (number_of n ≡ fault_of (trim t))
  ill_formed h = meets false h

  pub well_formed_range : (n : Refusal) → well_formed (trim t) ≡ true → read_line t r ≡ reading.Refused n → (n ≡ refusal.OutOfRange) ⊎ (n ≡ refusal.SizeOutside)
  well_formed_range n h e = rw e at (meets true h)

  -- a line that yields is well formed
  pub yielded : (e : LabelElement) → read_line t r ≡ reading.Element e → (well_formed (trim t) ≡ true) × (spans e ≡ data_of (command_of (trim t)) (lead_of t) (trim t))
  yielded e h =
      test (well_formed (trim t))
      (λ w. (w, rw h at (meets true w)))
      (λ w. let k = (ill_formed w).1 in (cc, cc))
