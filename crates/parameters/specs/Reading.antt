-- What a line says where it stands at a later place (01, "Forms that change": "data is a place and length in the
-- input").
use Rattle.std.specs.Prelude.{ℕ}
use Rattle.elements.specs.Spans.{shifted}
use Rattle.parameters.specs.declared.reading.LineReading.{LineReading}
use Rattle.parameters.specs.declared.reading.LineReading.TheVariants.{Passed, Clear, Reference, Element, Print}
use Rattle.parameters.specs.declared.reading.LineReading.TheVariants.{Refused}

-- what a line says where n bytes more stand before it: only data moves
abbrev pub later_reading : ℕ → LineReading → LineReading
later_reading n Passed = Passed
later_reading n Clear = Clear
later_reading n (Reference x y) = Reference x y
later_reading n (Element e) = Element (shifted n e)
later_reading n (Print sets copies) = Print sets copies
later_reading n (Refused k) = Refused k
