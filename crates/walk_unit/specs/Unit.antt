-- What a unit does at a reference, in the theory's words, with 01's numbers for its refusals.
use Rattle.elements.specs.declared.LabelElement.{LabelElement}
use Rattle.elements.specs.declared.LabelPosition.{LabelPosition}
use Rattle.elements.specs.Refusals.{number_of}
use Rattle.walk_theory.specs.Reading as theory
use Rattle.grammar.specs.Epl.{origin, EplPrint}
use Rattle.walk_unit.specs.declared.unit.Reading.{Reading}
use Rattle.walk_unit.specs.declared.unit.Reading.TheVariants as unit

abbrev pub unit_of : Reading → theory.Reading LabelPosition LabelElement EplPrint
unit_of unit.End = theory.nothing
unit_of (unit.Fault k) = theory.fault (number_of k)
unit_of (unit.Passed size r) = theory.passes size r
unit_of (unit.Cleared size) = theory.clears_to size origin
unit_of (unit.Element e size) = theory.gives size e
unit_of (unit.Print size sets copies) = theory.asks_print size (record { sets = sets; copies = copies })
