-- `dots_label::label::convert_entry`: what is planned has room and may begin, and the list becomes what is due.
use Rattle.std.proofs.Common.{sym, subst, ◌∙◌, ℕ, ◌<◌, ◌≤◌, ◌++◌, length, drop}
use Rattle.lent_lists.specs.Filled.{made}
use Rattle.dots_label.specs.Conversion.{Conversion, conversion_by}
use Rattle.dots_label.specs.Walked.{entry_drawn, next_of, WithinCursor}
use Rattle.dots_label.proofs.PlanLaws.{plan_within, plan_list}
use Rattle.dots_label.proofs.label.convert_entry.Goals as goal

pub fill-requires : goal.fill-requires
fill-requires c =
    let s = c.args.input.now in
    let l = c.args.list.now in
    let p = c.plan_entry-p.result in
    let planned = c.plan_entry-p.ensures in
    let due : Conversion = conversion_by (length l) (entry_drawn s c.args.n c.args.i c.args.e) in (
      subst (λ (j : ℕ). j ≤ length l) (sym c.to_fill.ensures) planned.room,
      λ h. subst (WithinCursor s) (sym c.starting.ensures) (plan_within s c.args.e.last l due p planned (subst (λ (j : ℕ). 0 < j) c.to_fill.ensures h)),
    )

pub returns : goal.returns
returns c =
    let s = c.args.input.now in
    let l = c.args.list.now in
    let p = c.plan_entry-p.result in
    let planned = c.plan_entry-p.ensures in
    let due : Conversion = conversion_by (length l) (entry_drawn s c.args.n c.args.i c.args.e) in
    record {
      answer = c.answered.ensures ∙ planned.answers;
      list = c.fill.ensures ∙ (λ ι. made (next_of s) (λ t. t.element) (c.to_fill.ensures ι) (c.starting.ensures ι) ++ drop (c.to_fill.ensures ι) l) ∙ plan_list s c.args.e.last l due p planned;
    }
