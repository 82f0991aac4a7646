-- `crate::number::parse` meets its contract: by whether the first byte is a sign.
-- Assumes nothing.
use mathlib.Core.Path.{sym, ap, ◌∙◌}
use mathlib.Core.List.{List}
use Prim.Native.Nat.{ℕ}
use native.Mathlib.Omega.{arith}
use lib.Dec.{eqb}
use lib.ListN.{get_or}
use borrow.Author.Rules.{rules}
use Rattle.numbers.specs.Number.{signed, digits_of}
use Rattle.text.proofs.DropSteps.{rest}
use Rattle.numbers.proofs.NumberLaws.{number_none, number_sign, number_plain}
use Rattle.numbers.proofs.number.parse.Statement.{statement}
use Rattle.numbers.proofs.number.parse.Tie as tie

returns : tie.Need-returns-then-s-eq0
returns c = sym (number_none c.args.s.now c.if-s-eq0.true)

returns-2 : tie.Need-returns-then-is_sign
returns-2 c =
    let i = c in let sign = i in
    let s = sign.args.s.now in
    c.after_sign.ensures ∙ ap (λ (l : List ℕ). signed (eqb (get_or s 0 0) 45) (digits_of l)) (rest s 1)
    ∙ sym (number_sign s (omega arith) (sym sign.is_sign.ensures ∙ i.if-is_sign.true))

returns-3 : tie.Need-returns
returns-3 c =
    let i = c in let sign = i in
    let s = sign.args.s.now in
    c.after_sign-2.ensures ∙ sym (number_plain s (omega arith) (sym sign.is_sign.ensures ∙ i.if-is_sign.false))

pub parse_spec : {M : Type 1} → statement M
parse_spec =
    tie.close (tie.spec
    returns (λ c. search rules) (λ c κs. search rules) (λ c. search rules) (λ c. search rules) (λ c. search rules)
    (λ c κs. search rules)
    returns-2 (λ c κs. search rules)
    returns-3)
