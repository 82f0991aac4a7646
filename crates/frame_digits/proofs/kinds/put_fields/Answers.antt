-- `frame_digits::kinds::put_fields` meets its contract.
-- Assumes nothing.
use Rattle.std.proofs.Common.{arith, rules}
use Rattle.numbers.proofs.IntLaws.{back32}
use Rattle.frame_bytes.specs.Frame.{field_bytes}
use Rattle.frame_bytes.proofs.FrameLaws.{fields_size, fields_told}
use Rattle.frame_digits.proofs.kinds.put_fields.Goals as goal

pub put_text-requires : goal.put_text-requires
put_text-requires c = omega (arith, fields_size c.in-Text.is)

pub put_drawn-requires : goal.put_drawn-requires
put_drawn-requires c = omega (arith, fields_size c.in-Box.is)

pub put_drawn-requires-in-Diagonal : goal.put_drawn-requires-in-Diagonal
put_drawn-requires-in-Diagonal c = omega (arith, fields_size c.in-Diagonal.is)

pub put_i32-requires : goal.put_i32-requires
put_i32-requires c = omega (arith, fields_size c.in-Graphic.is)

pub put_128-requires : goal.put_128-requires
put_128-requires c = omega (arith, fields_size c.in-Code128.is)

pub put_bars-requires : goal.put_bars-requires
put_bars-requires c = omega (arith, fields_size c.in-Bars.is)

pub put_ratio-requires : goal.put_ratio-requires
put_ratio-requires c = omega (arith, fields_size c.in-Ratio.is)

pub put_pdf417-requires : goal.put_pdf417-requires
put_pdf417-requires c = omega (arith, fields_size c.in-Pdf417.is)

pub put_aztec-requires : goal.put_aztec-requires
put_aztec-requires c = omega (arith, fields_size c.in-Aztec.is)

pub put_datamatrix-requires : goal.put_datamatrix-requires
put_datamatrix-requires c = omega (arith, fields_size c.in-Datamatrix.is)

pub put_qr-requires : goal.put_qr-requires
put_qr-requires c = omega (arith, fields_size c.in-Qr.is)

pub put_i32-requires-in-Maxicode : goal.put_i32-requires-in-Maxicode
put_i32-requires-in-Maxicode c = omega (arith, fields_size c.in-Maxicode.is)

pub returns-in-Box : goal.returns-in-Box
unfolding field_bytes
returns-in-Box c = fields_told c.in-Box.is (rw c.colour.ensures at c.put_drawn.ensures)

pub returns-in-Diagonal : goal.returns-in-Diagonal
unfolding field_bytes
returns-in-Diagonal c = fields_told c.in-Diagonal.is (rw c.flag.ensures at c.put_drawn-in-Diagonal.ensures)

pub returns-in-Graphic : goal.returns-in-Graphic
unfolding field_bytes
returns-in-Graphic c = fields_told c.in-Graphic.is (rw (back32 c.in-Graphic.n (search rules)) at c.put_i32.ensures)

pub returns-in-Bars : goal.returns-in-Bars
unfolding field_bytes
returns-in-Bars c = fields_told c.in-Bars.is c.put_bars.ensures

pub returns-in-Maxicode : goal.returns-in-Maxicode
unfolding field_bytes
returns-in-Maxicode c =
    fields_told c.in-Maxicode.is (rw (back32 c.in-Maxicode.c.mode (search rules)) at c.put_i32-in-Maxicode.ensures)
