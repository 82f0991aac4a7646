-- `label_index::labels::index`: what is planned has room and may begin, and the list becomes what is due.
use Rattle.std.proofs.Common.{sym, ap, subst, ◌∙◌, ℕ, ◌<◌, ◌≤◌, ◌++◌, length, drop}
use Rattle.lent_lists.specs.Filled.{made}
use Rattle.label_index.specs.Entries.{next_of, WithinCursor}
use Rattle.label_index.specs.Plan.{counted_of}
use Rattle.label_index.proofs.PlanLaws.{plan_room, plan_start, filled_list}
use Rattle.label_index.proofs.labels.index.Goals as goal

pub fill-requires : goal.fill-requires
fill-requires c =
    let s = c.args.input.now in
    let l = c.args.entries.now in
    let k = c.to_fill.ensures ∙ c.plan-p.ensures.makes in (
      subst (λ (j : ℕ). j ≤ length l) (sym k) (plan_room s l),
      λ h. subst (WithinCursor s) (sym c.begin.ensures) (plan_start s l (subst (λ (j : ℕ). 0 < j) k h)),
    )

pub returns : goal.returns
returns c =
    let s = c.args.input.now in
    let l = c.args.entries.now in
    let k = c.to_fill.ensures ∙ c.plan-p.ensures.makes in
    record {
      answer = ap counted_of c.answered.ensures ∙ c.plan-p.ensures.answers;
      list = c.fill.ensures ∙ (λ i. made (next_of s) (λ t. t.entry) (k i) (c.begin.ensures i) ++ drop (k i) l) ∙ filled_list s l;
    }
