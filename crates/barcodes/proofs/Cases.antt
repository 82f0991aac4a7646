-- The definitions on small inputs, by computation.
-- Assumes nothing.
use mathlib.Core.Path.{◌≡◌, refl}
use lib.IntN.{pos}
use lib.Ieee.{binary64, of_int, of_bits, to_bits, div, lt}
use Rattle.barcodes.specs.Ratio.{ratio_of}

-- "Wide 5, narrow 2: ratio 2.5. Wide 3, narrow 2: 2.0."
ratio_above : to_bits binary64 (ratio_of (pos 5) (pos 2)) ≡ 0x4004_0000_0000_0000
unfolding ratio_of of_int of_bits to_bits div lt
ratio_above = refl

ratio_below : to_bits binary64 (ratio_of (pos 3) (pos 2)) ≡ 0x4000_0000_0000_0000
unfolding ratio_of of_int of_bits to_bits div lt
ratio_below = refl
