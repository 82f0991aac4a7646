-- `dots_label::plan::plan_first`, by what was found.
use Rattle.std.proofs.Common.{sym, ap, subst, ◌∙◌, ℕ}
use Rattle.dots_label.specs.Conversion.{Conversion, denied}
use Rattle.dots_label.specs.Walked.{Finds, Plans}
use Rattle.dots_label.proofs.plan.plan_first.Goals as goal

pub returns-in-NoLabel : goal.returns-in-NoLabel
returns-in-NoLabel c =
    let a = c.args in
    subst (λ (x : Conversion). Plans a.input.now a.room x c.deny.result)
    (ap (λ (n : ℕ). denied n c.in-NoLabel.p) c.number.ensures ∙ sym (subst (Finds a.input.now a.st a.i) c.in-NoLabel.is c.find_label.ensures a.room))
    (c.deny.ensures a.input.now a.room)
