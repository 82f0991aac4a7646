-- The automatic mode on small data, by computation.
-- Assumes nothing.
use mathlib.Core.Path.{◌≡◌}
use mathlib.Core.List.{List, [], ◌∷◌, ◌++◌, flatten}
use Prim.Native.Nat.{ℕ}
use lib.IntN.{pos}
use Rattle.text.specs.Utf8.{need, low, high, decode}
use Rattle.barcodes_2d.specs.Maxicode.{header, header_at, header_place, postal, auto_mode}

-- 123456
abbrev six : List ℕ
six = 0x31 ∷ 0x32 ∷ 0x33 ∷ 0x34 ∷ 0x35 ∷ 0x36 ∷ []

record Cases : Type 0 where
  -- no header
  no_header : auto_mode (six ++ (0x38 ∷ 0x34 ∷ [])) ≡ pos 4
  -- the header cut short by a byte
  cut : auto_mode (six ++ (0x38 ∷ 0x5b ∷ 0x29 ∷ 0x3e ∷ 0x1e ∷ 0x30 ∷ 0x31 ∷ [])) ≡ pos 4
  -- the header stands at 6: nothing from 6 up to it
  at_six : auto_mode (six ++ header) ≡ pos 3
  -- the header stands at 5
  at_five : auto_mode (0x31 ∷ 0x32 ∷ 0x33 ∷ 0x34 ∷ 0x35 ∷ header) ≡ pos 4
  -- 84 before it, and a second header behind it
  digits : auto_mode (six ++ (0x38 ∷ 0x34 ∷ header) ++ header) ≡ pos 2
  -- 8A
  letter : auto_mode (six ++ (0x38 ∷ 0x41 ∷ header)) ≡ pos 3
  -- places are those of the decoded data: ff is three bytes there, so that the 4 stands at 6, and the header after 12
  -- and ff at 5
  replaced : auto_mode (decode (0x31 ∷ 0x32 ∷ 0x33 ∷ 0xff ∷ 0x34 ∷ header)) ≡ pos 2
  replaced_five : auto_mode (decode (0x31 ∷ 0x32 ∷ 0xff ∷ header)) ≡ pos 4

-- each computes
cases : Cases
unfolding header_at header_place postal auto_mode flatten need low high
cases = search
