-- `dots_label::plan::plan_entry`, by its tests.
use Rattle.std.proofs.Common.{subst, take}
use Rattle.dots_label.specs.Conversion.{Conversion}
use Rattle.dots_label.specs.Walked.{Plans}
use Rattle.dots_label.proofs.PlanLaws.{entry_long, entry_past, entry_beyond, entry_backwards}
use Rattle.dots_label.proofs.plan.plan_entry.Goals as goal

pub returns-then-input-gt-LONGEST : goal.returns-then-input-gt-LONGEST
returns-then-input-gt-LONGEST c =
    let a = c.args in
    subst (λ (x : Conversion). Plans (take a.e.last a.input.now) a.room x c.deny.result)
    (entry_long a.input.now a.n a.i a.e a.room c.if-input-gt-LONGEST.true)
    (c.deny.ensures (take a.e.last a.input.now) a.room)

pub returns-then-n-i : goal.returns-then-n-i
returns-then-n-i c =
    let a = c.args in
    subst (λ (x : Conversion). Plans (take a.e.last a.input.now) a.room x c.deny-then-n-i.result)
    (entry_past a.input.now a.n a.i a.e a.room c.if-input-gt-LONGEST.false c.if-n-i.true)
    (c.deny-then-n-i.ensures (take a.e.last a.input.now) a.room)

pub returns-then-input-last : goal.returns-then-input-last
returns-then-input-last c =
    let a = c.args in
    subst (λ (x : Conversion). Plans (take a.e.last a.input.now) a.room x c.deny-then-input-last.result)
    (entry_beyond a.input.now a.n a.i a.e a.room c.if-input-gt-LONGEST.false c.if-n-i.false c.if-input-last.true)
    (c.deny-then-input-last.ensures (take a.e.last a.input.now) a.room)

pub returns-then-last-e : goal.returns-then-last-e
returns-then-last-e c =
    let a = c.args in
    subst (λ (x : Conversion). Plans (take a.e.last a.input.now) a.room x c.deny-then-last-e.result)
    (entry_backwards a.input.now a.n a.i a.e a.room c.if-input-gt-LONGEST.false c.if-n-i.false c.if-input-last.false c.if-last-e.true)
    (c.deny-then-last-e.ensures (take a.e.last a.input.now) a.room)
