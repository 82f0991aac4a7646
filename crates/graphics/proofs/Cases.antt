-- 01's cases of graphic blocks, "Corners" and "Grammar", by computation.
-- Assumes nothing.
use mathlib.Core.Path.{◌≡◌}
use mathlib.Core.List.{[], ◌∷◌}
use Prim.Native.Nat.{ℕ}
use lib.IntN.{ℤ, pos}
use lib.ListN.{take, drop}
use Rattle.text.specs.Ascii.{ascii}
use Rattle.numbers.specs.Number.{number_spelled}
use Rattle.elements.specs.declared.refusal.Refusal.TheVariants as refusal
use Rattle.graphics.specs.declared.gw_span.Graphic.{Graphic}
use Rattle.graphics.specs.declared.gw_span.Graphic.TheVariants as graphic
use Rattle.graphics.specs.Block.{opens_gw, closes, after_header_field, header_number, four_closed, payload_of, gw_numbers, measured, header_of, gw_span}

-- a graphic at 0, 0
abbrev span : ℤ → ℕ → ℕ → Graphic
span w start end = graphic.Span (record { at = record { x = pos 0; y = pos 0 }; width_bytes = w; data_start = start; data_end = end })

record Cases : Type 0 where
  -- no number is given: no bytes
  empty : gw_span (ascii "GW,,,,") ≡ span (pos 0) 6 6
  few : gw_span (ascii "GW1,2,3") ≡ graphic.Refused refusal.GraphicFields
  negative : gw_span (ascii "GW0,0,-1,1,") ≡ graphic.Refused refusal.GraphicNegative
  negative_lines : gw_span (ascii "GW0,0,1,-1,") ≡ graphic.Refused refusal.GraphicNegative
  -- at the end of input: 12; with one LF after it: payload 0a
  cut : gw_span (ascii "GW0,0,1,1,") ≡ graphic.Refused refusal.GraphicTruncated
  whole : gw_span (ascii "GW0,0,1,1,\n") ≡ span (pos 1) 10 11
  its_payload : take 1 (drop 10 (ascii "GW0,0,1,1,\n")) ≡ 0x0a ∷ []
  -- beyond 32 bits: no lines, no width
  no_lines : (gw_numbers (header_of (ascii "GW0,0,1,99999999999,"))).lines ≡ pos 0
  no_lines_read : gw_span (ascii "GW0,0,1,99999999999,") ≡ span (pos 1) 20 20
  no_width : gw_span (ascii "GW0,0,-2147483649,1,") ≡ span (pos 0) 20 20
  -- 0b before `GW` is no blank; 20, 09, 0c, 0d are
  tab : gw_span (0x0b ∷ ascii "GW,,,,") ≡ graphic.NoGraphic
  blanks : gw_span (0x20 ∷ 0x09 ∷ 0x0c ∷ 0x0d ∷ ascii "GW,,,,") ≡ span (pos 0) 10 10
  -- an LF before the fourth comma: 10
  line : gw_span (ascii "GW0,0,1,1\n,A") ≡ graphic.Refused refusal.GraphicFields

-- each computes
cases : Cases
unfolding opens_gw closes after_header_field header_number four_closed payload_of gw_numbers measured gw_span number_spelled
cases = search
