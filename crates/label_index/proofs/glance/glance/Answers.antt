-- `label_index::glance::glance`: what stands first is told by its first byte.
use Rattle.std.proofs.Common.{sym, ◌∙◌, true, false}
use Rattle.label_index.proofs.GlanceLaws.{glance_by, glance_other, glance_none}
use Rattle.label_index.proofs.glance.glance.Goals as goal

pub returns-then-rest-eq0 : goal.returns-then-rest-eq0
returns-then-rest-eq0 c = glance_none c.args.rest.now c.if-rest-eq0.true

pub returns-then-draws : goal.returns-then-draws
returns-then-draws c =
    glance_by c.args.rest.now c.find-n.result c.line_size-size.result true c.find-n.ensures.is c.line_size-size.ensures
    (sym c.tells.ensures ∙ c.if-tells.true) (sym c.draws.ensures ∙ c.if-draws.true)

pub returns-then-tells : goal.returns-then-tells
returns-then-tells c =
    glance_by c.args.rest.now c.find-n.result c.line_size-size.result false c.find-n.ensures.is c.line_size-size.ensures
    (sym c.tells.ensures ∙ c.if-tells.true) (sym c.draws.ensures ∙ c.if-draws.false)

pub returns : goal.returns
returns c = glance_other c.args.rest.now (sym c.tells.ensures ∙ c.if-tells.false)
