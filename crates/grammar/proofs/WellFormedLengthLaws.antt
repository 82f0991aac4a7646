-- How long a line that yields is, at least (`line_long`): its letters, its commas, and its data with two quotes.
-- Refusals of a line are in WellFormedLaws. Assumes nothing.
use mathlib.Core.Path.{◌≡◌, refl, sym, ap, ◌∙◌}
use mathlib.Core.Bool.{Bool, true, false, ◌&&◌, true≢false}
use mathlib.Core.List.{List, [], ◌∷◌, reverse}
use Prim.Native.Nat.{ℕ, suc, ◌+◌, ◌-◌, ◌<◌, ◌≤◌}
use native.Mathlib.Omega.{arith}
use lib.Dec.{eqb}
use lib.ListN.{length, take, drop, length-take, length-drop, length-reverse}
use borrow.Author.Tests.{leb-true, ne_eqb}
use Rattle.text.specs.Blank.{drop_while, trim}
use Rattle.text.specs.Fields.{index_of, before, after, quoted, fields, field, without_trailing_commas}
use Rattle.text.specs.Table.{any_of}
use Rattle.text.proofs.DropLaws.{drop_while_le}
use Rattle.text.proofs.FieldsLaws.{fields_le}
use Rattle.text.proofs.BlankTrimLaws.{length_trim_le}
use Rattle.elements.specs.declared.DataSpan.{DataSpan}
use Rattle.elements.specs.declared.LabelElement.{LabelElement}
use Rattle.elements.specs.declared.LabelPosition.{LabelPosition}
use Rattle.elements.specs.Spans.{spans}
use Rattle.parameters.specs.declared.reading.LineReading.TheVariants as reading
use Rattle.command_letters.specs.declared.command.Command.{Command}
use Rattle.command_letters.specs.declared.command.Command.TheVariants.{Clear, Reference, Data, Line, Diagonal, Box, Print, Other}
use Rattle.command_letters.specs.declared.command.DataCommand.{DataCommand}
use Rattle.command_letters.specs.declared.command.DataCommand.TheVariants as command
use Rattle.command_letters.specs.Command.{command_of}
use Rattle.barcodes_2d.specs.Barcode2d.{types2d}
use Rattle.commands.specs.Line.{params_of, span_of, command_reading, lead_of, read_line}
use Rattle.grammar.specs.WellFormed.{at_least, data_counted, data_typed, data_sized, well_formed_as, well_formed}
use Rattle.grammar.proofs.WellFormedLaws.{data_of, yielded}
use Rattle.grammar.proofs.EplLaws.{quoted_long, read_some}

at_least_lem : (n : ℕ) (s : List ℕ) → at_least n s ≡ true → n ≤ suc (length s)
at_least_lem n s h = omega (arith, leb-true n (length (fields s)) h, fields_le s)

-- no more than what stands behind the letter and before the first quote
params_le : (t : List ℕ) → length (params_of t) ≤ index_of 34 t - 1
unfolding params_of without_trailing_commas before
params_le t =
    let s = drop 1 (before 34 t) in
    let a = drop_while_le (λ b. eqb b 44) (reverse s) in
    let b = length-reverse (drop_while (λ (b : ℕ). eqb b 44) (reverse s)) in
    let c = length-reverse s in
    let d = length-drop 1 (before 34 t) in
    let e = length-take (index_of 34 t) t in
    omega arith

after_le : (s : List ℕ) → length (after 44 s) ≤ length s - 1
unfolding after
after_le s = omega (arith, length-drop (suc (index_of 44 s)) s)

-- a text with a listed type in its third field: two commas, and the type
typed_long : (s : List ℕ) → any_of types2d (trim (field s 2)) ≡ true → 3 ≤ length s
unfolding before
typed_long s h = by (after 44 (after 44 s)) refl
  where
    by : (t : List ℕ) → after 44 (after 44 s) ≡ t → 3 ≤ length s
    by [] e = absurd (true≢false (sym h ∙ ap (λ (t : List ℕ). any_of types2d (trim (take (index_of 44 t) t))) e))
    by (x ∷ t) e = omega (arith, after_le s, after_le (after 44 s), ap length e)

data_counted_lem : (c : DataCommand) (s : List ℕ) → data_counted c s ≡ true → data_typed c s ≡ true → 3 ≤ length s
data_counted_lem command.Text s h k = omega (arith, at_least_lem 7 s h)
data_counted_lem command.Barcode s h k = omega (arith, at_least_lem 8 s h)
data_counted_lem command.Barcode2d s h k = typed_long s k

-- a line of n bytes that yields: 5 without data, 6 besides its data
abbrev pub Long : ℕ → List DataSpan → Type 0
Long n ds = (ds ≡ [] → 5 ≤ n) × ((d : DataSpan) → ds ≡ d ∷ [] → (0 < d.len) × (d.len + 6 ≤ n))

long_drawn : (n : ℕ) → 5 ≤ n → Long n []
long_drawn n h = (λ e. h, λ d e. let z : ◌≡◌ {A = ℕ} 0 1 = cc in (omega arith, omega arith))

long_data : (n : ℕ) (d : DataSpan) → 0 < d.len → d.len + 6 ≤ n → Long n (d ∷ [])
long_data n d h l = (λ e. omega arith, λ f e. let g : f ≡ d = cc in rw g (h, l))

-- the number of fields is tested first
first_test : (x y z : Bool) → (x && y && z) ≡ true → x ≡ true
first_test true y z h = refl
first_test false y z h = h

-- and then the type
second_test : (x y z : Bool) → (x && y && z) ≡ true → y ≡ true
second_test true true z h = refl
second_test true false z h = h
second_test false true z h = refl
second_test false false z h = h

module _ (lead : ℕ) (t : List ℕ) (r : LabelPosition) (e : LabelElement) (n : ℕ) (l : length t ≤ n) where
  long_read : (c : DataCommand) → well_formed_as (Data c) t ≡ true → 0 < length (quoted t) → Long n (span_of lead t ∷ [])
  long_read c w q =
      let k = simp (ne_eqb (length (quoted t)) 0 (λ z. omega arith)) at w in
      let s = params_of t in
      let z = data_sized c s (quoted t) in
      let m = data_counted_lem c s (first_test (data_counted c s) (data_typed c s) z k) (second_test (data_counted c s) (data_typed c s) z k) in
      long_data n (span_of lead t) q (omega (arith, params_le t, quoted_long t q))

  long_fields : (j k : ℕ) → 1 < k → 5 < j + k → (at_least k (drop j t) && true && true) ≡ true → Long n []
  long_fields j k p q w = long_drawn n (omega (arith, length-drop j t, at_least_lem k (drop j t) (first_test (at_least k (drop j t)) true true w)))

  long_command : (c : Command) → well_formed_as c t ≡ true → command_reading c lead t r ≡ reading.Element e → Long n (data_of c lead t)
  long_command Clear w h = let z : ◌≡◌ {A = ℕ} 0 1 = cc in long_drawn n (omega arith)
  long_command Reference w h = let z : ◌≡◌ {A = ℕ} 0 1 = cc in long_drawn n (omega arith)
  long_command (Data c) w h = long_read c w (read_some c lead t r e h)
  long_command (Line c) w h = long_fields 2 4 (omega arith) (omega arith) w
  long_command Diagonal w h = long_fields 2 5 (omega arith) (omega arith) w
  long_command Box w h = long_fields 1 5 (omega arith) (omega arith) w
  long_command Print w h = let z : ◌≡◌ {A = ℕ} 0 1 = cc in long_drawn n (omega arith)
  long_command Other w h = let z : ◌≡◌ {A = ℕ} 0 1 = cc in long_drawn n (omega arith)

pub line_long : (t : List ℕ) (r : LabelPosition) (e : LabelElement) → read_line t r ≡ reading.Element e → Long (length t) (spans e)
unfolding read_line well_formed
line_long t r e h =
    let y = yielded t r e h in
    rw y.1 (long_command (lead_of t) (trim t) r e (length t) (length_trim_le t) (command_of (trim t)) y.0 h)
