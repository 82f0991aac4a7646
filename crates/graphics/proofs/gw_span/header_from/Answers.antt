-- `graphics::gw_span::header_from` meets its contract: a comma at the field's end, another byte there, or the end of t.
-- Assumes nothing.
use Rattle.std.proofs.Common.{drop}
use Rattle.text.proofs.DropSteps.{rest}
use Rattle.numbers.proofs.IntLaws.{back32}
use Rattle.graphics.specs.Block.{FieldLen}
use Rattle.graphics.proofs.BlockLaws.{read_comma, read_other, read_end}
use Rattle.graphics.proofs.gw_span.header_from.Goals as goal
use Rattle.graphics.proofs.gw_span.header_from.Goals.{After-header_field_len-n}

-- the length of the field that stands at the place
len : (c : After-header_field_len-n) → FieldLen (drop c.args.at c.args.t.now) c.header_field_len-n.result
len c = rw rest at c.header_field_len-n.ensures

pub returns-then-t-end-eq44 : goal.returns-then-t-end-eq44
returns-then-t-end-eq44 c =
    let l = len (goal.at.returns-then-t-end-eq44 c).After-header_field_len-n in
    let v = c.first_number-value in
    rw (back32 v.result v.type_inv) (read_comma _ _ _ l v.ensures c.if-end-t.true c.if-t-end-eq44.true)

pub returns-else-t-end-eq44 : goal.returns-else-t-end-eq44
returns-else-t-end-eq44 c =
    let l = len (goal.at.returns-else-t-end-eq44 c).After-header_field_len-n in
    let v = c.first_number-value in
    rw (back32 v.result v.type_inv) (read_other _ _ _ l v.ensures c.if-end-t.true c.if-t-end-eq44.false)

pub returns-else-end-t : goal.returns-else-end-t
returns-else-end-t c =
    let l = len (goal.at.returns-else-end-t c).After-header_field_len-n in
    let v = c.first_number-value in
    rw (back32 v.result v.type_inv) (read_end _ _ _ l v.ensures c.requires c.if-end-t.false)
