-- `writing_element::write::write_flat` meets its contract: 14, then an element that can be written, then 23.
use Rattle.std.proofs.Common.{refl, sym, ap, ◌∙◌, length, arith}
use Rattle.writing_element.specs.Write.{span_at}
use Rattle.writing_element.proofs.WriteLaws.{fills_due, due_long, due_text, due_bad, part_short}
use Rattle.writing_element.proofs.write.write_flat.Goals as goal

pub returns-then-input-gt-LONGEST : goal.returns-then-input-gt-LONGEST
returns-then-input-gt-LONGEST c =
    fills_due (due_long c.args.input.now c.args.e c.if-input-gt-LONGEST.true) (record { answer = refl; buffer = refl })

pub put_sized-requires : goal.put_sized-requires
put_sized-requires c =
    omega (arith, ap length c.bytes_of-t.ensures, part_short c.args.input.now (span_at c.args.e), c.if-input-gt-LONGEST.false)

pub returns-then-can_write : goal.returns-then-can_write
returns-then-can_write c =
    let b = c.bytes_of-t.ensures in
    let w = sym (rw b at c.can_write.ensures) ∙ c.if-can_write.true in
    fills_due (due_text c.args.input.now c.args.e c.if-input-gt-LONGEST.false w) (rw b at c.put_sized.ensures)

pub returns : goal.returns
returns c =
    let w = sym (rw c.bytes_of-t.ensures at c.can_write.ensures) ∙ c.if-can_write.false in
    fills_due (due_bad c.args.input.now c.args.e c.if-input-gt-LONGEST.false w) (record { answer = refl; buffer = refl })
