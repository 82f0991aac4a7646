-- `crate::number::after_sign` meets its contract: what `digits` answers is what the digits are, up to 2^31.
-- Assumes nothing.
use mathlib.Core.Path.{sym, ap, ◌∙◌}
use borrow.Author.Rules.{rules}
use Rattle.numbers.specs.Number.{signed, digits_of}
use Rattle.numbers.proofs.NumberLaws.{upto→some, over→beyond, bad→no_number}
use Rattle.numbers.proofs.number.after_sign.Statement.{statement}
use Rattle.numbers.proofs.number.after_sign.Tie as tie

with-sign-requires : tie.Need-with_sign-requires
with-sign-requires c κs =
    let n = c in
    (upto→some (digits_of n.args.s.now) n.in-Upto.v (sym n.in-Upto.is ∙ n.digits.ensures)).1

returns : tie.Need-returns-in-Upto
returns c =
    let n = c in
    let e = upto→some (digits_of n.args.s.now) n.in-Upto.v (sym n.in-Upto.is ∙ n.digits.ensures) in
    c.with_sign.ensures ∙ sym (ap (signed n.args.neg) e.0)

returns-2 : tie.Need-returns-in-Over
returns-2 c =
    let n = c in
    sym (over→beyond (digits_of n.args.s.now) n.args.neg (sym c.in-Over.is ∙ n.digits.ensures))

returns-3 : tie.Need-returns-in-Bad
returns-3 c =
    let n = c in
    sym (bad→no_number (digits_of n.args.s.now) n.args.neg (sym c.in-Bad.is ∙ n.digits.ensures))

pub after_sign_spec : {M : Type 1} → statement M
after_sign_spec =
    tie.close (tie.spec (λ c κs. search rules) (λ c. search rules)
    with-sign-requires (λ c. search rules) (λ c. search rules)
    returns returns-2 returns-3)
