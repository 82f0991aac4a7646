-- `writing_element::plain::write_plain` meets its contract. Assumes nothing.
use mathlib.Core.Path.{refl, sym, ◌∙◌}
use Rattle.writing_element.proofs.WriteLaws.{fills_due}
use Rattle.writing_element.proofs.PlainLaws.{plain_long, plain_good, plain_bad_lem}
use borrow.Author.Rules.{rules}
use Rattle.writing_element.proofs.plain.write_plain.Statement.{statement}
use Rattle.writing_element.proofs.plain.write_plain.Tie as tie

returns : tie.Need-returns-then-input-gt-LONGEST
returns c =
    let a = c in
    fills_due (plain_long a.args.input.now a.args.x c.if-input-gt-LONGEST.true) (record { answer = refl; buffer = refl })

returns-2 : tie.Need-returns-then-is_element
returns-2 c =
    let put = c in
    let element = put in
    let good = element in
    let asked = good in
    let a = asked.args in
    fills_due (plain_good a.input.now a.x (sym asked.is_element.ensures ∙ good.if-is_element.true)) (rw element.element_of.ensures at put.write.ensures)

returns-3 : tie.Need-returns
returns-3 c =
    let fits = c in
    let a = fits.args in
    let b = sym c.is_element.ensures ∙ c.if-is_element.false in
    fills_due (plain_bad_lem a.input.now a.x fits.if-input-gt-LONGEST.false b) (record { answer = refl; buffer = refl })

pub write_plain_spec : {M : Type 1} → statement M
write_plain_spec =
    tie.close
    (tie.spec returns (λ c κs. search rules) (λ c κs. search rules) (λ c κs. search rules) (λ c. search rules) returns-2
    returns-3)
