-- `where_label::find::inside`: the entry with this number is the one that was found, and `inside_entry` does the work.
use Rattle.std.proofs.Common.{ap, subst, ◌∙◌, length, get_or}
use Rattle.elements.specs.Given.{Due, Fills}
use Rattle.elements.specs.declared.LabelElement.{LabelElement}
use Rattle.label_index.specs.declared.entry.LabelEntry.{LabelEntry}
use Rattle.label_opening.proofs.FirstLaws.{started}
use Rattle.where_element.specs.Element.{inside_of}
use Rattle.where_element.specs.Found.{given_found}
use Rattle.where_label.specs.Found.{ElementOpening, itself, found_in, checked}
use Rattle.where_label.specs.Find.{inside_entry}
use Rattle.where_label.proofs.find.inside.Goals as goal

pub returns : goal.returns
returns c =
    let s = c.args.input.now in
    let es = c.args.entries.now in
    let i = c.args.number in
    let r = c.args.r in
    subst (λ (u : Due). Fills c.inside_entry.new.list c.args.list.now u (given_found c.inside_entry.result))
    (ap (λ (e : LabelEntry). inside_entry s (length es) i e r) (c.entry_or-e.ensures ∙ ap (get_or es i) c.no_entry.ensures)
    ∙ ap (λ (o : ElementOpening). checked s r (found_in (inside_of r) o)) (started LabelElement itself s es i)) c.inside_entry.ensures
