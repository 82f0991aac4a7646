-- `dots_label::label::to_300`: what is due for the entry with this number is what is due for the index.
use Rattle.std.proofs.Common.{ap, subst, ◌∙◌, length, get_or}
use Rattle.label_index.specs.declared.entry.LabelEntry.{LabelEntry}
use Rattle.dots_label.specs.Conversion.{Conversion, conversion_by, Converts}
use Rattle.dots_label.specs.Walked.{entry_drawn}
use Rattle.dots_label.proofs.PlanLaws.{due_found}
use Rattle.dots_label.proofs.label.to_300.Goals as goal

pub returns : goal.returns
returns c =
    let s = c.args.input.now in
    let x = c.args.entries.now in
    let l = c.args.list.now in
    subst (λ (u : Conversion). Converts c.convert_entry.new.list l u c.convert_entry.result)
    (ap (λ (t : LabelEntry). conversion_by (length l) (entry_drawn s (length x) c.args.number t)) (c.entry_or-e.ensures ∙ ap (get_or x c.args.number) c.no_entry.ensures) ∙ due_found s x c.args.number (length l))
    c.convert_entry.ensures
