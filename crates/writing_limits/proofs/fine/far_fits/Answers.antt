-- `writing_limits::fine::far_fits` meets its contract: the four fields are read back from their bits.
use Rattle.numbers.proofs.IntLaws.{back32}
use Rattle.writing_limits.proofs.fine.far_fits.Goals as goal

pub returns : goal.returns
returns c =
    let x = c.field_at in
    let width = c.field_at-2 in
    let y = c.field_at-3 in
    let height = c.field_at-4 in
    rw (
      rw (back32 x.result x.type_inv, x.ensures, back32 width.result width.type_inv, width.ensures) at c.fits.ensures,
      rw (back32 y.result y.type_inv, y.ensures, back32 height.result height.type_inv, height.ensures) at c.fits-2.ensures,
    )
