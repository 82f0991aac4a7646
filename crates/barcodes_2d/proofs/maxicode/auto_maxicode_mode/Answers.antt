-- `barcodes_2d::maxicode::auto_maxicode_mode` meets its contract: the place in the decoded data is the decoded length
-- of what stands before the header in the raw data.
use mathlib.Core.Path.{sym, ◌∙◌}
use native.Mathlib.Omega.{arith}
use lib.ListN.{length-take}
use Rattle.barcodes_2d.proofs.MaxicodeLaws.{place_le, mode_none, mode_early, mode_late}
use Rattle.barcodes_2d.proofs.maxicode.auto_maxicode_mode.Goals as goal

pub returns-then-p-data : goal.returns-then-p-data
returns-then-p-data c = sym (mode_none c.args.«data».now c.header_place-p.ensures c.if-p-data.true)

pub slice_bounds-decoded_len-end : goal.slice_bounds-decoded_len-end
slice_bounds-decoded_len-end c = simp length-take (omega (arith, place_le c.args.«data».now))

pub returns-then-decoded_len-lt6 : goal.returns-then-decoded_len-lt6
returns-then-decoded_len-lt6 c =
    sym (mode_early c.args.«data».now c.header_place-p.ensures c.if-p-data.false c.decoded_len.ensures c.if-decoded_len-lt6.true)

pub slice_bounds-is_postal-end : goal.slice_bounds-is_postal-end
slice_bounds-is_postal-end c = simp length-take (omega (arith, place_le c.args.«data».now))

pub returns-then-is_postal : goal.returns-then-is_postal
returns-then-is_postal c =
    sym (mode_late c.args.«data».now c.header_place-p.ensures c.if-p-data.false c.decoded_len.ensures c.if-decoded_len-lt6.false c.is_postal.ensures ∙ simp c.if-is_postal.true)

pub returns-else-is_postal : goal.returns-else-is_postal
returns-else-is_postal c =
    sym (mode_late c.args.«data».now c.header_place-p.ensures c.if-p-data.false c.decoded_len.ensures c.if-decoded_len-lt6.false c.is_postal.ensures ∙ simp c.if-is_postal.false)
