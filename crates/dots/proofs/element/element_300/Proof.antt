-- `dots::element::element_300` meets its contract, by the answer. Assumes nothing.
use mathlib.Core.Path.{sym, ap, ◌∙◌}
use Rattle.dots.specs.Element.{or_nothing}
use borrow.Author.Rules.{rules}
use Rattle.dots.proofs.element.element_300.Statement.{statement}
use Rattle.dots.proofs.element.element_300.Tie as tie

returns : tie.Need-returns-in-Element
returns c = ap or_nothing (sym c.in-Element.is ∙ c.convert_element.ensures)

returns-2 : tie.Need-returns-in-Position
returns-2 c = c.nothing.ensures ∙ ap or_nothing (sym c.in-Position.is ∙ c.convert_element.ensures)

returns-3 : tie.Need-returns-in-Size
returns-3 c = c.nothing-in-Size.ensures ∙ ap or_nothing (sym c.in-Size.is ∙ c.convert_element.ensures)

pub element_300_spec : {M : Type 1} → statement M
element_300_spec = tie.close (tie.spec (λ c κs. search rules) (λ c. search rules) (λ c. search rules) (λ c κs. search rules) (λ c. search rules) (λ c κs. search rules) returns returns-2 returns-3)
