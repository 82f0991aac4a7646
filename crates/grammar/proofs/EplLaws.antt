-- The data of what a unit yields lies in the unit (`inside`): of a line, in the line (`line_in`, `acts_line_in`); of a
-- block it is `block_in` of TurnBlockLaws. Assumes nothing.
use mathlib.Core.Path.{◌≡◌}
use mathlib.Core.List.{List, reverse, [], ◌∷◌}
use Prim.Native.Nat.{ℕ, suc, ◌+◌, ◌-◌, ◌<◌, ◌≤◌}
use native.Mathlib.Omega.{arith}
use lib.Dec.{eqb}
use lib.ListN.{length, length-drop, length-reverse, length-append}
use borrow.Author.Tests.{eqb-false}
use Rattle.text.specs.Blank.{trim}
use Rattle.text.specs.Fields.{index_of, after, before_last, quoted}
use Rattle.text.proofs.BoolLaws.{test}
use Rattle.elements.specs.declared.LabelElement.{LabelElement}
use Rattle.elements.specs.declared.LabelPosition.{LabelPosition}
use Rattle.elements.specs.Spans.{AllIn, In, spans}
use Rattle.parameters.specs.declared.reading.LineReading.{LineReading}
use Rattle.parameters.specs.declared.reading.LineReading.TheVariants as reading
use Rattle.command_letters.specs.declared.command.Command.{Command}
use Rattle.command_letters.specs.declared.command.Command.TheVariants.{Clear, Reference, Data, Line, Diagonal, Box, Print, Other}
use Rattle.command_letters.specs.declared.command.DataCommand.{DataCommand}
use Rattle.command_letters.specs.Command.{command_of}
use Rattle.commands.specs.Line.{quoted_reading, command_reading, lead_of, read_line}
use Rattle.commands.proofs.LineLaws.{lead_le}
use Rattle.walk_theory.specs.Language.{yield}
use Rattle.grammar.specs.Epl.{act_of, acts}
use Rattle.grammar.proofs.WellFormedLaws.{data_of, yielded}
use Rattle.elements.specs.declared.DataSpan.{DataSpan}
use Rattle.grammar.specs.Units.{EplUnit, block, line, last, bytes}
use Rattle.grammar.proofs.TurnBlockLaws.{block_in}

after_length : (b : ℕ) (s : List ℕ) → length (after b s) ≡ length s - suc (index_of b s)
unfolding after
after_length b s = length-drop (suc (index_of b s)) s

-- data stands between two quotes
pub quoted_long : (t : List ℕ) → 0 < length (quoted t) → index_of 34 t + length (quoted t) + 2 ≤ length t
unfolding before_last
quoted_long t h =
    let s = after 34 t in
    omega (arith, after_length 34 t, after_length 34 (reverse s), length-reverse s, length-reverse (after 34 (reverse s)))

-- a line that yields by its data has some
pub read_some : (c : DataCommand) (lead : ℕ) (t : List ℕ) (r : LabelPosition) (e : LabelElement) → quoted_reading c lead t r ≡ reading.Element e → 0 < length (quoted t)
unfolding quoted_reading
read_some c lead t r e h =
    test (eqb (length (quoted t)) 0)
    (λ k. let w = simp k at h in let z : ◌≡◌ {A = ℕ} 0 1 = cc in omega arith)
    (λ k. let n = eqb-false (length (quoted t)) 0 k in omega arith)

in_command : (c : Command) (lead : ℕ) (t : List ℕ) (r : LabelPosition) (e : LabelElement) (n : ℕ) → command_reading c lead t r ≡ reading.Element e → lead + length t ≤ n → AllIn n (data_of c lead t)
in_command Clear lead t r e n h l = tt
in_command Reference lead t r e n h l = tt
in_command (Data c) lead t r e n h l = (omega (arith, quoted_long t (read_some c lead t r e h)), tt)
in_command (Line c) lead t r e n h l = tt
in_command Diagonal lead t r e n h l = tt
in_command Box lead t r e n h l = tt
in_command Print lead t r e n h l = tt
in_command Other lead t r e n h l = tt

pub line_in : (t : List ℕ) (r : LabelPosition) (e : LabelElement) → read_line t r ≡ reading.Element e → In (length t) e
unfolding read_line
line_in t r e h = rw (yielded t r e h).1 (in_command (command_of (trim t)) (lead_of t) (trim t) r e (length t) h (lead_le t))

pub act_yields : (r : LabelPosition) (x : LineReading) (e : LabelElement) → act_of r x ≡ yield e → x ≡ reading.Element e
act_yields r (reading.Element f) e h = cc
act_yields r reading.Passed e h = cc
act_yields r reading.Clear e h = cc
act_yields r (reading.Reference x y) e h = cc
act_yields r (reading.Print m n) e h = cc
act_yields r (reading.Refused n) e h = cc

pub acts_line_in : (r : LabelPosition) (t : List ℕ) (e : LabelElement) → act_of r (read_line t r) ≡ yield e → In (length t) e
acts_line_in r t e h = line_in t r e (act_yields r (read_line t r) e h)

all_in_more : (n m : ℕ) (ds : List DataSpan) → n ≤ m → AllIn n ds → AllIn m ds
all_in_more n m [] h a = tt
all_in_more n m (d ∷ ds) h a = (omega arith, all_in_more n m ds h a.1)

-- the data of an element lies in its unit
pub inside : (r : LabelPosition) (u : EplUnit) (e : LabelElement) → acts r u ≡ yield e → In (length (bytes u)) e
inside r (block bs h p) e q = block_in r bs h p e q
inside r (line t) e q = all_in_more (length t) (length (bytes (line t))) (spans e) (omega (arith, length-append t (10 ∷ []))) (acts_line_in r t e q)
inside r (last t) e q = acts_line_in r t e q
