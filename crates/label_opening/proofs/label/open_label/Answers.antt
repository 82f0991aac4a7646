-- `label_opening::label::open_label`: the entry with this number is the one that was found, and `open_entry` does the
-- work.
use Rattle.std.proofs.Common.{ap, subst, ◌∙◌, length, get_or}
use Rattle.elements.specs.Given.{Due, Fills, given_of}
use Rattle.label_opening.specs.Opened.{entry_due}
use Rattle.label_opening.proofs.FirstLaws.{due_found}
use Rattle.label_opening.proofs.label.open_label.Goals as goal

pub returns : goal.returns
returns c =
    let s = c.args.input.now in
    let es = c.args.entries.now in
    let i = c.args.number in
    subst (λ (u : Due). Fills c.open_entry.new.out c.args.out.now u (given_of c.open_entry.result))
    (ap (entry_due s (length es) i) (c.entry_or-e.ensures ∙ ap (get_or es i) c.no_entry.ensures) ∙ due_found s es i) c.open_entry.ensures
