-- `writing_templates::fill::put_slot` meets its contract: what a slot's byte stands for fits, and is what is put.
use Rattle.std.proofs.Common.{sym, ap, ◌∙◌, ℕ, length, arith}
use Rattle.std.specs.Prelude.{ℤ}
use Rattle.numbers.proofs.IntLaws.{back32}
use Rattle.decimals.specs.Decimal.{decimal}
use Rattle.decimals.proofs.PutLaws.{put_as}
use Rattle.writing_templates.specs.Fill.{letter_of}
use Rattle.writing_templates.proofs.FillLaws.{slot_byte, slot_number, slot_letter, slot_data}
use Rattle.writing_templates.proofs.fill.put_slot.Goals as goal

pub put_letter-requires : goal.put_letter-requires
put_letter-requires c = omega (arith, c.requires, ap length (slot_byte c.args.e c.args.bytes.now c.args.b c.if-b-lt128.true))

pub returns-then-b-lt128 : goal.returns-then-b-lt128
returns-then-b-lt128 c = put_as (slot_byte c.args.e c.args.bytes.now c.args.b c.if-b-lt128.true) c.put_letter.ensures

pub put_decimal-requires : goal.put_decimal-requires
put_decimal-requires c =
    let e = back32 c.number_at.result c.number_at.type_inv ∙ c.number_at.ensures in
    omega (arith, c.requires, ap length (slot_number c.args.e c.args.bytes.now c.args.b c.if-b-lt128.false c.if-b-lt148.true), ap (λ (z : ℤ). length (decimal z)) e)

pub returns-then-b-lt148 : goal.returns-then-b-lt148
returns-then-b-lt148 c =
    let e = back32 c.number_at.result c.number_at.type_inv ∙ c.number_at.ensures in
    put_as (slot_number c.args.e c.args.bytes.now c.args.b c.if-b-lt128.false c.if-b-lt148.true ∙ ap decimal (sym e)) c.put_decimal.ensures

pub put_letter-requires-then-b-lt160 : goal.put_letter-requires-then-b-lt160
put_letter-requires-then-b-lt160 c =
    omega (arith, c.requires, ap length (slot_letter c.args.e c.args.bytes.now c.args.b c.if-b-lt148.false c.if-b-lt160.true), ap (λ (b : ℕ). length (letter_of b)) c.letter_at.ensures)

pub returns-then-b-lt160 : goal.returns-then-b-lt160
returns-then-b-lt160 c =
    put_as (slot_letter c.args.e c.args.bytes.now c.args.b c.if-b-lt148.false c.if-b-lt160.true ∙ ap letter_of (sym c.letter_at.ensures)) c.put_letter-then-b-lt160.ensures

pub put_data-requires : goal.put_data-requires
put_data-requires c = omega (arith, c.requires, ap length (slot_data c.args.e c.args.bytes.now c.args.b c.if-b-lt160.false))

pub returns : goal.returns
returns c = put_as (slot_data c.args.e c.args.bytes.now c.args.b c.if-b-lt160.false) c.put_data.ensures
