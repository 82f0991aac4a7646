-- `dots_label::fault::outside`, by the answer.
use Rattle.std.proofs.Common.{sym, subst, ◌∙◌}
use Rattle.dots.specs.Element as one
use Rattle.dots.proofs.ElementLaws.{answered, converted_number}
use Rattle.dots_label.proofs.fault.outside.Goals as goal

pub returns-in-Element : goal.returns-in-Element
returns-in-Element c = sym (subst (answered (one.outside c.args.e)) (sym c.convert_element.ensures ∙ c.in-Element.is) (converted_number c.args.e))

pub returns-in-Position : goal.returns-in-Position
returns-in-Position c = sym (subst (answered (one.outside c.args.e)) (sym c.convert_element.ensures ∙ c.in-Position.is) (converted_number c.args.e))

pub returns-in-Size : goal.returns-in-Size
returns-in-Size c = sym (subst (answered (one.outside c.args.e)) (sym c.convert_element.ensures ∙ c.in-Size.is) (converted_number c.args.e))
