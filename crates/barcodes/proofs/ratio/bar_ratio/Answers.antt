-- `barcodes::ratio::bar_ratio` meets its contract: the two numbers are read back from their bits, and the test decides.
use mir.Facts.{to_z-of_z}
use Rattle.barcodes.specs.Ratio.{ratio_of}
use Rattle.barcodes.proofs.ratio.bar_ratio.Goals as goal

pub returns-then-q : goal.returns-then-q
unfolding ratio_of
returns-then-q c =
    simp (simp (to_z-of_z c.ranges.wide, to_z-of_z c.ranges.narrow) at c.if-q.true)

pub returns-else-q : goal.returns-else-q
unfolding ratio_of
returns-else-q c =
    simp (to_z-of_z c.ranges.wide, to_z-of_z c.ranges.narrow, simp (to_z-of_z c.ranges.wide, to_z-of_z c.ranges.narrow) at c.if-q.false)
