-- `graphics::gw_span::opened_gw` meets its contract: the first field that no comma closes, then the sizes decide.
-- `header_le` bounds the payload's place.
-- Assumes nothing.
use Rattle.std.proofs.Common.{◌≡◌, ap, ◌∙◌, ◌-◌, length, drop, arith}
use mir.Facts.{to_z-of_z}
use Rattle.graphics.specs.Block.{measured, header_of}
use Rattle.graphics.proofs.BlockLaws.{header_le, closed, first_open, second_open, third_open, fourth_open, not_four, four}
use Rattle.graphics.proofs.gw_span.opened_gw.Goals as goal
use Rattle.graphics.proofs.gw_span.opened_gw.Goals.{After-tail_two-t}

-- what stands behind `GW`
header : (c : After-tail_two-t) → c.tail_two-t.result.now ≡ header_of c.args.rest.now
header c = c.tail_two-t.ensures ∙ ap (drop 2) c.trim_line_start.ensures

pub returns-then-not-x : goal.returns-then-not-x
returns-then-not-x c =
    let h = header (goal.at.returns-then-not-x c).After-tail_two-t in
    not_four _ _ h c.requires (first_open c.header_from-x.ensures c.if-not-x.true)

pub returns-then-not-y : goal.returns-then-not-y
returns-then-not-y c =
    let h = header (goal.at.returns-then-not-y c).After-tail_two-t in
    let x = closed c.header_from-x.ensures c.if-not-x.false in
    not_four _ _ h c.requires (second_open x c.header_from-y.ensures c.if-not-y.true)

pub returns-then-not-w : goal.returns-then-not-w
returns-then-not-w c =
    let h = header (goal.at.returns-then-not-w c).After-tail_two-t in
    let x = closed c.header_from-x.ensures c.if-not-x.false in
    let y = closed c.header_from-y.ensures c.if-not-y.false in
    not_four _ _ h c.requires (third_open x y c.header_from-w.ensures c.if-not-w.true)

pub returns-then-not-l : goal.returns-then-not-l
returns-then-not-l c =
    let h = header (goal.at.returns-then-not-l c).After-tail_two-t in
    let x = closed c.header_from-x.ensures c.if-not-x.false in
    let y = closed c.header_from-y.ensures c.if-not-y.false in
    let w = closed c.header_from-w.ensures c.if-not-w.false in
    not_four _ _ h c.requires (fourth_open x y w c.header_from-l.ensures c.if-not-l.true)

pub overflow_sub-rest : goal.overflow_sub-rest
overflow_sub-rest c = omega (arith, ap length (header (goal.at.overflow_sub-rest c).After-tail_two-t), header_le c.args.rest.now)

pub returns : goal.returns
returns c =
    let h = header (goal.at.returns c).After-tail_two-t in
    let x = closed c.header_from-x.ensures c.if-not-x.false in
    let y = closed c.header_from-y.ensures c.if-not-y.false in
    let w = closed c.header_from-w.ensures c.if-not-w.false in
    let l = closed c.header_from-l.ensures c.if-not-l.false in
    let left = length c.tail_two-t.result.now - c.header_from-l.result.next in
    let plain : c.measure.result ≡ measured (record { at = record { x = c.header_from-x.result.value; y = c.header_from-y.result.value }; width_bytes = c.header_from-w.result.value; lines = c.header_from-l.result.value }) (length c.args.rest.now - left) left = grind (arith, to_z-of_z) in
    plain ∙ four _ _ h c.requires x y w l
