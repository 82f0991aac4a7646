-- Where a line's command stands in it (`lead_le`), and when it has no data (`quoted_none`). What it says further on is
-- in LineLaterLaws. Assumes nothing.
use mathlib.Core.Path.{◌≡◌, ap, ◌∙◌}
use mathlib.Core.List.{List}
use Prim.Native.Nat.{ℕ, suc, ◌+◌, ◌-◌, ◌<◌, ◌≤◌}
use native.Mathlib.Omega.{arith}
use lib.ListN.{length, length-take, length-drop}
use Rattle.text.specs.Blank.{trim_start, trim}
use Rattle.text.specs.Fields.{index_of, after, quoted}
use Rattle.text.proofs.FieldsLaws.{before_last_le}
use Rattle.text.proofs.BlankTrimLaws.{trim_start_is, trim_end_is}
use Rattle.commands.specs.Line.{lead_of}

-- the blanks before a line, and what is left of it
pub lead_le : (t : List ℕ) → lead_of t + length (trim t) ≤ length t
lead_le t =
    let a = ap length (trim_start_is t) ∙ length-drop (length t - length (trim_start t)) t in
    let b = ap length (trim_end_is (trim_start t)) ∙ length-take (length (trim t)) (trim_start t) in
    omega arith

-- a line with no byte behind its first quote has no data
pub quoted_none : (t : List ℕ) → length t - index_of 34 t < 2 → length (quoted t) ≡ 0
unfolding after
quoted_none t h = omega (arith, before_last_le 34 (after 34 t), length-drop (suc (index_of 34 t)) t)
