-- `writing_element::place::put_flat` meets its contract: 14, then an element that can be written, then 23.
use Rattle.std.proofs.Common.{sym, ap, ◌∙◌, length, arith}
use Rattle.writing_element.specs.Write.{span_at}
use Rattle.writing_element.specs.Place.{text_of}
use Rattle.writing_element.proofs.WriteLaws.{due_long, due_text, due_bad, part_short}
use Rattle.writing_element.proofs.PlaceLaws.{puts_as, puts_none}
use Rattle.writing_element.proofs.place.put_flat.Goals as goal

pub returns-then-input-gt-LONGEST : goal.returns-then-input-gt-LONGEST
returns-then-input-gt-LONGEST c = puts_none (ap text_of (due_long c.args.input.now c.args.e c.if-input-gt-LONGEST.true))

pub put_there-requires : goal.put_there-requires
put_there-requires c =
    omega (arith, ap length c.bytes_of-t.ensures, part_short c.args.input.now (span_at c.args.e), c.if-input-gt-LONGEST.false)

pub returns-then-can_write : goal.returns-then-can_write
returns-then-can_write c =
    let b = c.bytes_of-t.ensures in
    let w = sym (rw b at c.can_write.ensures) ∙ c.if-can_write.true in
    puts_as (ap text_of (due_text c.args.input.now c.args.e c.if-input-gt-LONGEST.false w)) (rw b at c.put_there.ensures)

pub returns : goal.returns
returns c =
    let w = sym (rw c.bytes_of-t.ensures at c.can_write.ensures) ∙ c.if-can_write.false in
    puts_none (ap text_of (due_bad c.args.input.now c.args.e c.if-input-gt-LONGEST.false w))
