-- `command_letters::reference::parse_epl_reference` meets its contract: the first comma decides.
use native.Mathlib.Omega.{arith}
use mathlib.Core.Path.{◌≡◌, refl, sym, ◌∙◌}
use lib.IntN.{pos}
use lib.ListN.{length}
use borrow.Author.Tests.{eq-eqb, ne_eqb}
use Rattle.text.specs.Fields.{index_of, before}
use Rattle.numbers.specs.Number.{field_or}
use Rattle.numbers.proofs.IntLaws.{back32}
use Rattle.parameters.specs.Params.{number_at}
use Rattle.parameters.proofs.PlaceLaws.{number_value}
use Rattle.command_letters.specs.Reference.{reference_of}
use Rattle.command_letters.proofs.reference.parse_epl_reference.Goals as goal
use Rattle.command_letters.proofs.reference.parse_epl_reference.Goals.{After-field_from-first}

x_is : (d : After-field_from-first) → d.field_from-first.result.value ≡ field_or (pos 0) (before 44 d.args.params.now)
unfolding number_at
x_is d = number_value (pos 0) d.args.params.now 0 refl d.field_from-first.ensures

pub returns-then-find-params : goal.returns-then-find-params
unfolding reference_of
returns-then-find-params c =
    let a = c.args in
    rw (back32 c.field_from-first.result.value (omega arith), back32 a.reference.y (omega arith))
    (simp (x_is (goal.at.returns-then-find-params c).After-field_from-first, eq-eqb (index_of 44 a.params.now) (length a.params.now) (sym c.find.ensures.is ∙ c.if-find-params.true)))

pub returns : goal.returns
unfolding reference_of
returns c =
    let a = c.args in
    let y = c.number_or-y in
    rw (back32 c.field_from-first.result.value (omega arith), back32 y.result y.type_inv)
    (simp (x_is (goal.at.returns c).After-field_from-first, y.ensures, c.after_field.ensures, ne_eqb (index_of 44 a.params.now) (length a.params.now) (λ h. c.if-find-params.false (c.find.ensures.is ∙ h))))
