-- `parameters::field_reader::any_from` meets its contract: `find` gives the field's end, and `number_or` its number.
-- Assumes nothing.
use mathlib.Core.Path.{◌≡◌, ap, ◌∙◌}
use Prim.Native.Nat.{◌+◌, ◌-◌}
use lib.ListN.{take, drop}
use mir.Facts.{to_z-of_z}
use Rattle.text.specs.Fields.{index_of}
use Rattle.numbers.specs.Number.{field_or}
use Rattle.text.proofs.DropSteps.{rest}
use Rattle.numbers.proofs.IntLaws.{back32}
use Rattle.parameters.proofs.PlaceLaws.{any_comma, any_end}
use borrow.Author.Rules.{rules}
use Rattle.parameters.proofs.field_reader.any_from.Statement.{statement}
use Rattle.parameters.proofs.field_reader.any_from.Tie as tie

abbrev found : tie.After-number_or-value → tie.After-find
found d = d.before.before

abbrev s : tie.After-number_or-value → tie.Start
s d = (found d).before.before.before

comma : (d : tie.After-number_or-value) → (found d).find.result ≡ index_of 44 (drop (s d).args.at (s d).args.s.now)
comma d = (found d).find.ensures.is ∙ ap (index_of 44) (rest (s d).args.s.now (s d).args.at)

number : (d : tie.After-number_or-value) → let n = (s d).args.at in d.number_or-value.result ≡ field_or (s d).args.default (take (n + (found d).find.result - n) (drop n (s d).args.s.now))
number d = simp (to_z-of_z (s d).ranges.default) at d.number_or-value.ensures

returns : tie.Need-returns-then-end-s
returns c =
    let n = c.before in
    rw (back32 n.number_or-value.result n.number_or-value.type_inv) (any_comma _ _ _ _ _ (s n).requires (comma n) (number n) c.if-end-s.true)

returns-2 : tie.Need-returns
returns-2 c =
    let n = c.before in
    rw (back32 n.number_or-value.result n.number_or-value.type_inv) (any_end _ _ _ _ _ (s n).requires (comma n) (number n) c.if-end-s.false)

pub any_from_spec : {M : Type 1} → statement M
any_from_spec =
    tie.close
    (tie.spec (λ c. search rules) (λ c. search rules) (λ c. search rules) (λ c κs. search rules) (λ c. search rules)
    (λ c. search rules) (λ c. search rules) (λ c. search rules) (λ c κs. search rules) (λ c. search rules)
    returns returns-2)
