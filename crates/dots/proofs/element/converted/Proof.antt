-- `dots::element::converted` meets its contract, by the answer. Assumes nothing.
use mathlib.Core.Path.{refl, ap}
use Rattle.dots.specs.declared.element.ConvertedElement.TheVariants as answer
use borrow.Author.Rules.{rules}
use Rattle.dots.proofs.element.converted.Statement.{statement}
use Rattle.dots.proofs.element.converted.Tie as tie

returns : tie.Need-returns-in-Lengths
returns c = rw c.in-Lengths.is (ap answer.Element c.with_lengths.ensures)

returns-2 : tie.Need-returns-in-Position
returns-2 c = rw c.in-Position.is refl

returns-3 : tie.Need-returns-in-Size
returns-3 c = rw c.in-Size.is refl

pub converted_spec : {M : Type 1} → statement M
converted_spec = tie.close (tie.spec (λ c. search rules) (λ c κs. search rules) (λ c. search rules) (λ c. search rules) returns returns-2 returns-3)
