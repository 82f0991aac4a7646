-- The ratio of wide to narrow (01, "Grammar").
use Rattle.std.specs.Prelude.{cond, ℤ, Float}
use Rattle.std.specs.Float.{binary64}
use Rattle.std.specs.Float.Ieee.{of_int, of_bits, div, lt}

-- "The ratio of wide to narrow is one f64 division, at least 2.0"
abbrev pub two : Float
two = of_bits binary64 0x4000_0000_0000_0000

unfoldable pub ratio_of : ℤ → ℤ → Float
ratio_of w n = let q = div binary64 (of_int binary64 w) (of_int binary64 n) in cond (lt q two) two q
