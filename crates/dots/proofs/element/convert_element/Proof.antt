-- `dots::element::convert_element` meets its contract, by its three calls. Assumes nothing.
use mathlib.Core.Path.{ap, ◌∙◌}
use Rattle.dots.specs.declared.element.Lengthened.{Lengthened}
use Rattle.dots.specs.Element.{lengthened, converted_by, converted_element}
use borrow.Author.Rules.{rules}
use Rattle.dots.proofs.element.convert_element.Statement.{statement}
use Rattle.dots.proofs.element.convert_element.Tie as tie

returns : tie.Need-returns
unfolding converted_element
returns c =
    let e = c.args.e in
    c.converted.ensures
    ∙ ap (λ (l : Lengthened). converted_by l e) (c.convert_lengths.ensures ∙ ap lengthened c.lengths.ensures)

pub convert_element_spec : {M : Type 1} → statement M
convert_element_spec = tie.close (tie.spec (λ c κs. search rules) (λ c κs. search rules) (λ c κs. search rules) returns)
