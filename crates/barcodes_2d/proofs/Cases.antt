-- The parameters of `b` on small inputs, by computation.
-- Assumes nothing.
use mathlib.Core.Path.{◌≡◌}
use mathlib.Core.Bool.{true}
use mathlib.Core.List.{List, []}
use Prim.Native.Nat.{ℕ}
use lib.IntN.{pos, negsuc}
use Rattle.text.specs.Ascii.{ascii}
use Rattle.numbers.specs.Number.{number_spelled}
use Rattle.elements.specs.declared.QrErrorCorrectionLevel.TheVariants as level
use Rattle.barcodes_2d.specs.Barcode2d.{aztec_size, aztec_of, datamatrix_of, pdf417_module_width, pdf417_row_height, pdf417_truncate, pdf417_of, level_of}
use Rattle.barcodes_2d.specs.Options.{options_of, last_count, last_number, last_clamped}

-- `s2x3t1`: several in a field
abbrev several : List ℕ
several = ascii "s2x3t1"

record Cases : Type 0 where
  -- `d9,d4`: the last wins
  last_wins : (aztec_of (ascii "d9,d4")).magnification ≡ pos 4
  -- `d9,dX`: the last that is a number
  last_number_lem : (aztec_of (ascii "d9,dX")).magnification ≡ pos 9
  -- `d99`: the nearest limit. `e100`: none of the sizes
  limits : aztec_of (ascii "d99e100") ≡ record { magnification = pos 55; size = pos 0 }
  -- `c5,cX`: a count is 0 where its last is no number
  last_count_lem : (datamatrix_of (ascii "c5,cX")).columns ≡ pos 0
  -- `eH,e1`: the last level
  last_level : level_of (ascii "eH,e1") ≡ level.H
  -- `eHL2`: H is a value and no letter of its own
  value_letter : level_of (ascii "eHL2") ≡ level.H
  no_level : level_of [] ≡ level.M
  -- no parameters: 4 modules of 6, and the encoder's security
  none : ((pdf417_of []).row_height ≡ pos 24) × ((pdf417_of []).security ≡ negsuc 0)
  -- `x2`: 4 modules of 2
  narrow : pdf417_row_height (ascii "x2") ≡ pos 8
  -- `s0`: 1 at least
  least : (pdf417_of (ascii "s0")).security ≡ pos 1
  both : ((pdf417_of several).security ≡ pos 2) × ((pdf417_of several).module_width ≡ pos 3) × ((pdf417_of several).row_height ≡ pos 12) × ((pdf417_of several).truncate ≡ true)

-- each computes
cases : Cases
unfolding aztec_of aztec_size last_clamped last_number options_of number_spelled datamatrix_of last_count level_of pdf417_of pdf417_row_height pdf417_module_width pdf417_truncate
cases = search
