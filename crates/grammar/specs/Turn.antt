-- A line as a reader of one unit answers it.
use Rattle.std.specs.Prelude.{ℕ, cond, List}
use Rattle.text.specs.Blank.{trim}
use Rattle.elements.specs.declared.LabelElement.{LabelElement}
use Rattle.elements.specs.declared.LabelPosition.{LabelPosition}
use Rattle.commands.specs.Line.{read_line}
use Rattle.walk_theory.specs.Reading.{Reading, fault, did}
use Rattle.grammar.specs.WellFormed.{well_formed, fault_of}
use Rattle.grammar.specs.Epl.{EplPrint, act_of}

-- the line t of so many bytes
abbrev pub line_turn : ℕ → LabelPosition → List ℕ → Reading LabelPosition LabelElement EplPrint
line_turn size r t = cond (well_formed (trim t)) (did size (act_of r (read_line t r))) (fault (fault_of (trim t)))
