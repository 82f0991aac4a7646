-- `writing_element::place::put_plain` meets its contract. Assumes nothing.
use mathlib.Core.Path.{sym, ap, ◌∙◌}
use Rattle.structs.specs.Flat.{flat_element}
use Rattle.structs_read.specs.Unflat.{element_of}
use Rattle.writing_element.specs.Place.{text_of}
use Rattle.writing_element.proofs.WriteLaws.{flat_due_lem}
use Rattle.writing_element.proofs.PlainLaws.{plain_good}
use Rattle.writing_element.proofs.PlaceLaws.{puts_as, puts_none, no_text}
use borrow.Author.Rules.{rules}
use Rattle.writing_element.proofs.place.put_plain.Statement.{statement}
use Rattle.writing_element.proofs.place.put_plain.Tie as tie

returns : tie.Need-returns-then-is_element
returns c =
    let put = c in
    let flat = put in
    let element = flat in
    let good = element in
    let a = good.args in
    let f = flat.struct_of.ensures ∙ ap flat_element element.element_of.ensures in
    puts_as
    (ap text_of (plain_good a.input.now a.x (sym good.is_element.ensures ∙ good.if-is_element.true) ∙ sym (flat_due_lem a.input.now (element_of a.x))))
    (rw f at put.put_flat.ensures)

returns-2 : tie.Need-returns
returns-2 c =
    let a = c in
    puts_none (no_text a.args.input.now a.args.x (sym c.is_element.ensures ∙ c.if-is_element.false))

pub put_plain_spec : {M : Type 1} → statement M
put_plain_spec =
    tie.close
    (tie.spec
    (λ c κs. search rules)
    (λ c κs. search rules)
    (λ c κs. search rules)
    (λ c κs. search rules)
    (λ c. search rules)
    returns
    returns-2)
