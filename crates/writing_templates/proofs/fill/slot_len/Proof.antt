-- `writing_templates::fill::slot_len` meets its contract. Assumes nothing.
use mathlib.Core.Path.{ap, ◌∙◌, subst}
use Prim.Native.Nat.{ℕ}
use lib.IntN.{ℤ}
use lib.ListN.{length}
use Rattle.numbers.proofs.IntLaws.{back32}
use Rattle.decimals.specs.Decimal.{DecimalLen}
use Rattle.writing_templates.specs.Fill.{letter_of}
use Rattle.writing_templates.proofs.FillLaws.{len_byte, len_number, len_letter, len_data}
use borrow.Author.Rules.{rules}
use Rattle.writing_templates.proofs.fill.slot_len.Statement.{statement}
use Rattle.writing_templates.proofs.fill.slot_len.Tie as tie

returns : tie.Need-returns-then-b-lt128
returns c = let a = c in len_byte a.args.e a.args.len a.args.b c.letter_len.result c.if-b-lt128.true c.letter_len.ensures

returns-2 : tie.Need-returns-then-b-lt148
returns-2 c =
    let a = c in
    let z = c.number_at.result in
    let e = back32 z c.number_at.type_inv ∙ c.number_at.ensures in
    len_number a.args.e a.args.len a.args.b c.decimal_len.result c.if-b-lt128.false c.if-b-lt148.true
    (subst (λ (z : ℤ). DecimalLen z c.decimal_len.result) e c.decimal_len.ensures)

returns-3 : tie.Need-returns-then-b-lt160
returns-3 c =
    let letter = c in
    let a = letter.args in
    len_letter a.e a.len a.b c.letter_len-then-b-lt160.result letter.if-b-lt148.false letter.if-b-lt160.true
    (c.letter_len-then-b-lt160.ensures ∙ ap (λ (b : ℕ). length (letter_of b)) c.letter_at.ensures)

returns-4 : tie.Need-returns
returns-4 c = let a = c in len_data a.args.e a.args.len a.args.b c.if-b-lt160.false

pub slot_len_spec : {M : Type 1} → statement M
slot_len_spec =
    tie.close
    (tie.spec
    (λ c κs. search rules)
    returns
    (λ c κs. search rules)
    (λ c κs. search rules)
    returns-2
    (λ c κs. search rules)
    (λ c κs. search rules)
    returns-3
    returns-4)
