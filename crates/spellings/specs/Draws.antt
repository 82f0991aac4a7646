-- Boxes and diagonals as they are written (01, "Writing EPL"), and which of them a line yields at reference 0,0.
use Rattle.std.specs.Prelude.{Bool, true, false, cond, not, ◌&&◌, ◌||◌, List, [], ◌∷◌, ℕ, ℤ, pos, ◌+ℤ◌}
use Rattle.std.specs.Int.Signed.{le_z, lt_z}
use Rattle.text.specs.Ascii.{letter, spelt}
use Rattle.numbers.specs.Int.{in32, min_z, eq_z}
use Rattle.elements.specs.declared.LabelPosition.{LabelPosition}
use Rattle.elements.specs.declared.LineColor.{LineColor}
use Rattle.elements.specs.declared.LineColor.TheVariants.{Black, White, Xor}
use Rattle.elements.specs.declared.plain.Extent.{Extent}
use Rattle.decimals.specs.Decimal.{decimal}
use Rattle.decimals.specs.Joined.{closed}

-- some numbers, a comma between each two, no blanks
unfoldable pub numbers : ℤ → List ℤ → List ℕ
numbers z [] = decimal z
numbers z (y ∷ zs) = closed (decimal z) (numbers y zs)

abbrev pub is_black : LineColor → Bool
is_black Black = true
is_black White = false
is_black Xor = false

-- the second letter of `LO`, `LW`, `LE`
abbrev pub line_letter : LineColor → ℕ
line_letter Black = letter "O"
line_letter White = letter "W"
line_letter Xor = letter "E"

-- "where its thickness is the smaller side and both sides are at least 1"
unfoldable pub is_line : Extent → Bool
is_line x = le_z (pos 1) x.width && le_z (pos 1) x.height && eq_z x.thickness (min_z x.width x.height)

-- a rectangle from corner to corner, both within 32 bits, and a thickness
unfoldable pub is_cornered : LabelPosition → Extent → Bool
is_cornered p x =
    le_z (pos 0) x.width && le_z (pos 0) x.height && le_z (pos 1) x.thickness
    && in32 (p.x +ℤ x.width) && in32 (p.y +ℤ x.height)

-- x, y, width, height
abbrev pub by_line : LabelPosition → Extent → List ℕ
by_line p x = numbers p.x (p.y ∷ x.width ∷ x.height ∷ [])

-- a corner, the thickness, the corner across: from left to right and down, or up
abbrev pub by_corners : LabelPosition → Extent → List ℕ
by_corners p x = numbers p.x (p.y ∷ x.thickness ∷ (p.x +ℤ x.width) ∷ (p.y +ℤ x.height) ∷ [])

abbrev pub by_corners_up : LabelPosition → Extent → List ℕ
by_corners_up p x = numbers p.x ((p.y +ℤ x.height) ∷ x.thickness ∷ (p.x +ℤ x.width) ∷ p.y ∷ [])

-- "A black box is written as `LO` where .., else as `X`; white and exclusive-OR boxes are `LW` and `LE`"
unfoldable pub spell_box : LabelPosition → Extent → LineColor → List ℕ
spell_box p x c = cond (is_line x) (letter "L" ∷ line_letter c ∷ by_line p x) (spelt "X" (by_corners p x))

unfoldable pub fine_box : LabelPosition → Extent → LineColor → Bool
fine_box p x c = is_line x || (is_black c && is_cornered p x)

-- direction 1: down to the right; direction 0: up to the right
unfoldable pub spell_diagonal : LabelPosition → Extent → Bool → List ℕ
spell_diagonal p x down = spelt "LS" (cond down (by_corners p x) (by_corners_up p x))

-- "both positive, both negative or both zero", or not: of two sides, whether each is above 0
abbrev pub slopes : Bool → Bool → Bool → Bool
slopes true w h = (w && h) || (not w && not h)
slopes false w h = w || h

unfoldable pub fine_diagonal : LabelPosition → Extent → Bool → Bool
fine_diagonal p x down = is_cornered p x && slopes down (lt_z (pos 0) x.width) (lt_z (pos 0) x.height)
