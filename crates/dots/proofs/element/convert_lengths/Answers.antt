-- `dots::element::convert_lengths` meets its contract: each answer in its order. Assumes nothing.
use Rattle.std.proofs.Common.{sym, ◌∙◌}
use Rattle.dots.proofs.ElementLaws.{x_out, y_out, width_out, height_out, thickness_out, all_in}
use Rattle.dots.proofs.element.convert_lengths.Goals as goal

pub returns-in_default : goal.returns-in_default
returns-in_default c = x_out c.args.l (sym c.to_300.ensures ∙ c.in_default.is)

pub returns-in_default-to_300 : goal.returns-in_default-to_300
returns-in_default-to_300 c =
    y_out c.args.l c.in-Dots.x (sym c.to_300.ensures ∙ c.in-Dots.is) (sym c.to_300-2.ensures ∙ c.in_default-to_300.is)

pub returns-in_default-to_300-2 : goal.returns-in_default-to_300-2
returns-in_default-to_300-2 c =
    width_out c.args.l c.in-Dots.x c.in-Dots-to_300.y
    (sym c.to_300.ensures ∙ c.in-Dots.is)
    (sym c.to_300-2.ensures ∙ c.in-Dots-to_300.is)
    (sym c.to_300-3.ensures ∙ c.in_default-to_300-2.is)

pub returns-in_default-to_300-3 : goal.returns-in_default-to_300-3
returns-in_default-to_300-3 c =
    height_out c.args.l c.in-Dots.x c.in-Dots-to_300.y
    (sym c.to_300.ensures ∙ c.in-Dots.is)
    (sym c.to_300-2.ensures ∙ c.in-Dots-to_300.is)
    c.in-Dots-to_300-2.width
    (sym c.to_300-3.ensures ∙ c.in-Dots-to_300-2.is)
    (sym c.to_300-4.ensures ∙ c.in_default-to_300-3.is)

pub returns-in_default-to_300-4 : goal.returns-in_default-to_300-4
returns-in_default-to_300-4 c =
    thickness_out c.args.l c.in-Dots.x c.in-Dots-to_300.y
    (sym c.to_300.ensures ∙ c.in-Dots.is)
    (sym c.to_300-2.ensures ∙ c.in-Dots-to_300.is)
    c.in-Dots-to_300-2.width c.in-Dots-to_300-3.height
    (sym c.to_300-3.ensures ∙ c.in-Dots-to_300-2.is)
    (sym c.to_300-4.ensures ∙ c.in-Dots-to_300-3.is)
    (sym c.to_300-5.ensures ∙ c.in_default-to_300-4.is)

pub returns : goal.returns
returns c =
    all_in c.args.l c.in-Dots.x c.in-Dots-to_300.y
    (sym c.to_300.ensures ∙ c.in-Dots.is)
    (sym c.to_300-2.ensures ∙ c.in-Dots-to_300.is)
    c.in-Dots-to_300-2.width c.in-Dots-to_300-3.height
    (sym c.to_300-3.ensures ∙ c.in-Dots-to_300-2.is)
    (sym c.to_300-4.ensures ∙ c.in-Dots-to_300-3.is)
    c.in-Dots-to_300-4.thickness
    (sym c.to_300-5.ensures ∙ c.in-Dots-to_300-4.is)
