-- `dots_label::line::unit_size`: a line, a block at fault, or a block.
use Rattle.std.proofs.Common.{sym, ◌∙◌}
use Rattle.grammar.specs.Size.{unit_size}
use Rattle.dots_label.proofs.line.unit_size.Goals as goal

pub returns-in-NoGraphic : goal.returns-in-NoGraphic
unfolding unit_size
returns-in-NoGraphic c = simp (sym c.gw_span.ensures ∙ c.in-NoGraphic.is) (simp (c.find.ensures.is, c.line_size.ensures))

pub returns-in-Refused : goal.returns-in-Refused
unfolding unit_size
returns-in-Refused c = simp (sym c.gw_span.ensures ∙ c.in-Refused.is) (simp (c.find-in-Refused.ensures.is, c.line_size-in-Refused.ensures))

pub returns-in-Span : goal.returns-in-Span
unfolding unit_size
returns-in-Span c = simp (sym c.gw_span.ensures ∙ c.in-Span.is)
