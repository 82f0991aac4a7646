-- EPL as a language of units: what a unit does at a reference (01, "Grammar" and "For demand 3").
use Rattle.std.specs.Prelude.{List, [], ◌++◌, ℕ, pos, length}
use Rattle.elements.specs.declared.LabelElement.{LabelElement}
use Rattle.elements.specs.declared.LabelElement.TheVariants as element
use Rattle.elements.specs.declared.LabelPosition.{LabelPosition}
use Rattle.elements.specs.declared.PrintCounts.{PrintCounts}
use Rattle.elements.specs.Refusals.{number_of}
use Rattle.elements.specs.Spans.{shifted}
use Rattle.parameters.specs.declared.reading.LineReading.{LineReading}
use Rattle.parameters.specs.declared.reading.LineReading.TheVariants as reading
use Rattle.parameters.specs.Position.{placed, yields}
use Rattle.commands.specs.Line.{read_line}
use Rattle.walk_theory.specs.Language.{Act, keep, clear, yield, print, outside, Language}
use Rattle.grammar.specs.Units.{Header, EplUnit, block, line, last, gw, bytes, number, Stands}
use Rattle.grammar.specs.Found.{first}

-- "the fresh state is place 0, reference 0,0, pending count 0"
abbrev pub origin : LabelPosition
origin = record { x = pos 0; y = pos 0 }

-- what a print line says: "label sets and, after a comma, copies"
abbrev pub EplPrint : Type 0
EplPrint = PrintCounts

abbrev pub EplAct : Type 0
EplAct = Act LabelPosition LabelElement EplPrint

-- what a reading does at the reference r
abbrev pub act_of : LabelPosition → LineReading → EplAct
act_of r reading.Passed = keep r
-- "`N` alone drops pending elements and sets the reference to 0,0"
act_of r reading.Clear = clear origin
act_of r (reading.Reference x y) = keep (record { x = x; y = y })
act_of r (reading.Element e) = yield e
act_of r (reading.Print sets copies) = print (record { sets = sets; copies = copies })
act_of r (reading.Refused n) = outside (number_of n)

-- a block: its position with the reference added, its row bytes, its payload as data
abbrev pub block_says : List ℕ → Header → List ℕ → LabelPosition → LineReading
block_says bs h p r =
    yields (placed (number h.x) (number h.y) r) λ at.
    element.GraphicField
    (record {
      position = at;
      row_bytes = number h.width;
      «data» = record { start = length (bs ++ gw h []); len = length p };
    })

abbrev pub acts : LabelPosition → EplUnit → EplAct
acts r (block bs h p) = act_of r (block_says bs h p r)
acts r (line t) = act_of r (read_line t r)
acts r (last t) = act_of r (read_line t r)

abbrev pub epl : Language
epl =
    record {
      U = EplUnit;
      R = LabelPosition;
      E = LabelElement;
      P = EplPrint;
      bytes = bytes;
      Stands = Stands;
      first = first;
      act = acts;
      shifted = shifted;
    }
