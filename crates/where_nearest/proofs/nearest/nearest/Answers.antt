-- `where_nearest::nearest::nearest`: the entry with this number is the one that was found, and `nearest_entry` does the
-- work.
use Rattle.std.proofs.Common.{ap, ◌∙◌, length, get_or}
use Rattle.elements.specs.declared.LabelElement.{LabelElement}
use Rattle.label_index.specs.declared.entry.LabelEntry.{LabelEntry}
use Rattle.label_opening.proofs.FirstLaws.{started}
use Rattle.where_label.specs.Found.{ElementOpening, itself, nearest_in}
use Rattle.where_nearest.specs.Nearest.{nearest_entry}
use Rattle.where_nearest.proofs.nearest.nearest.Goals as goal

pub returns : goal.returns
returns c =
    let s = c.args.input.now in
    let es = c.args.entries.now in
    let i = c.args.number in
    let q = c.args.q in
    c.nearest_entry.ensures ∙ ap (λ (e : LabelEntry). nearest_entry s (length es) i e q) (c.entry_or-e.ensures ∙ ap (get_or es i) c.no_entry.ensures)
    ∙ ap (λ (o : ElementOpening). nearest_in q o) (started LabelElement itself s es i)
