-- `dots_label::plan::plan_label`: 24 comes first, then 13 and 19, then 15.
use Rattle.std.proofs.Common.{subst}
use Rattle.numbers.proofs.IntLaws.{back32}
use Rattle.dots_label.specs.Conversion.{Conversion}
use Rattle.dots_label.specs.Walked.{Plans}
use Rattle.dots_label.proofs.PlanLaws.{label_graphic, label_outside, label_short, label_plan}
use Rattle.dots_label.proofs.plan.plan_label.Goals as goal

pub returns-then-g-ne0 : goal.returns-then-g-ne0
returns-then-g-ne0 c =
    let a = c.args in
    subst (λ (d : Conversion). Plans a.input.now a.room d c.deny.result)
    (label_graphic a.input.now a.room a.counts a.first c.requires c.first_fault-g.result c.first_fault-g.ensures c.if-g-ne0.true) (c.deny.ensures a.input.now a.room)

pub returns-then-o-ne0 : goal.returns-then-o-ne0
returns-then-o-ne0 c =
    let a = c.args in
    subst (λ (d : Conversion). Plans a.input.now a.room d c.deny-then-o-ne0.result)
    (label_outside a.input.now a.room a.counts a.first c.requires c.first_fault-g.result c.first_fault-g.ensures c.if-g-ne0.false c.first_fault-o.result c.first_fault-o.ensures c.if-o-ne0.true)
    (c.deny-then-o-ne0.ensures a.input.now a.room)

pub returns-then-room-n : goal.returns-then-room-n
returns-then-room-n c =
    let a = c.args in
    subst (λ (d : Conversion). Plans a.input.now a.room d c.deny-then-room-n.result)
    (label_short a.input.now a.room a.counts a.first c.requires c.first_fault-g.result c.first_fault-g.ensures c.if-g-ne0.false c.first_fault-o.result c.first_fault-o.ensures c.if-o-ne0.false c.if-room-n.true)
    (c.deny-then-room-n.ensures a.input.now a.room)

pub returns : goal.returns
returns c =
    let a = c.args in
    let g = c.well_formed.1.1.0.1.1 in
    rw (back32 a.counts.sets g.0.1, back32 a.counts.copies g.1.0.1)
    (label_plan a.input.now a.room a.counts a.first c.requires c.first_fault-g.result c.first_fault-g.ensures c.if-g-ne0.false c.first_fault-o.result c.first_fault-o.ensures c.if-o-ne0.false c.if-room-n.false c.nothing-element.result)
