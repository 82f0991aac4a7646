-- Boxes and diagonals as they are written, read back at reference 0,0. Assumes nothing.
use mathlib.Core.Path.{◌≡◌, refl, sym, ap, ◌∙◌}
use mathlib.Core.Bool.{Bool, true, false, true≢false}
use mathlib.Core.List.{[], ◌∷◌}
use Prim.Native.Nat.{ℕ, ◌<◌}
use lib.Dec.{ltb}
use lib.IntN.{ℤ, pos, negsuc, ◌+ℤ◌}
use lib.Signed.{le_z}
use borrow.Author.Tests.{eqb-true, eq-eqb}
use Rattle.numbers.specs.Int.{min_z, eq_z}
use Rattle.elements.specs.declared.GraphicBox.{GraphicBox}
use Rattle.elements.specs.declared.LabelElement.TheVariants as element
use Rattle.elements.specs.declared.LineColor.{LineColor}
use Rattle.elements.specs.declared.LineColor.TheVariants.{Black}
use Rattle.parameters.specs.declared.reading.LineReading.TheVariants as reading
use Rattle.draws.specs.Draw.{line_fields, line_element, line_reading, corners_at, drawn_at, diagonal_reading, box_reading}
use Rattle.draws.specs.Axes.{is_same_way}
use Rattle.spellings.specs.Draws.{numbers, slopes}
use Rattle.spellings.proofs.FieldLaws.{In32, origin, before_front, after_front, size_decimal, point_decimal, fields_numbers, placed_origin}
use Rattle.spellings.proofs.ExtentLaws.{low_forth, low_back, extent_forth, extent_back}
use Rattle.draws.proofs.DrawLaws.{sized_is}
use Rattle.draws.specs.declared.draw.Cornered.TheVariants as cornered

-- `LO`, `LW`

module _ (x y w h : ℤ) (hx : In32 x) (hy : In32 y) (hw : In32 w) (hh : In32 h) (lw : le_z (pos 1) w ≡ true) (lh : le_z (pos 1) h ≡ true) where
  line_fields_lem : line_fields (numbers x (y ∷ w ∷ h ∷ [])) ≡ record { at = record { x = x; y = y }; width = w; height = h }
  unfolding line_fields
  line_fields_lem =
      simp (
        before_front x (y ∷ w ∷ h ∷ []),
        before_front y (w ∷ h ∷ []),
        before_front w (h ∷ []),
        before_front h [],
        after_front x y (w ∷ h ∷ []),
        after_front y w (h ∷ []),
        after_front w h [],
        point_decimal x y hx hy,
        size_decimal (pos 1) w hw lw,
        size_decimal (pos 1) h hh lh,
      )

  pub line_read : (c : LineColor) → line_reading (numbers x (y ∷ w ∷ h ∷ [])) c origin
      ≡ reading.Element (element.GraphicBox (record { position = record { x = x; y = y }; width = w; height = h; border_thickness = min_z w h; line_color = c }))
  unfolding line_reading line_element
  line_read c = rw (fields_numbers x (y ∷ w ∷ h ∷ []), line_fields_lem) (rw (placed_origin x y hx hy) refl)

-- `X`, `LS`

module _ (x1 y1 t x2 y2 : ℤ) (h1 : In32 x1) (g1 : In32 y1) (ht : In32 t) (h2 : In32 x2) (g2 : In32 y2) (lt : le_z (pos 1) t ≡ true) where
  pub corners_read_lem : corners_at (numbers x1 (y1 ∷ t ∷ x2 ∷ y2 ∷ [])) ≡ record { first = record { x = x1; y = y1 }; thickness = t; second = record { x = x2; y = y2 } }
  unfolding corners_at
  corners_read_lem =
      simp (
        before_front x1 (y1 ∷ t ∷ x2 ∷ y2 ∷ []),
        before_front y1 (t ∷ x2 ∷ y2 ∷ []),
        before_front t (x2 ∷ y2 ∷ []),
        before_front x2 (y2 ∷ []),
        before_front y2 [],
        after_front x1 y1 (t ∷ x2 ∷ y2 ∷ []),
        after_front y1 t (x2 ∷ y2 ∷ []),
        after_front t x2 (y2 ∷ []),
        after_front x2 y2 [],
        point_decimal x1 y1 h1 g1,
        size_decimal (pos 1) t ht lt,
        point_decimal x2 y2 h2 g2,
      )

-- drawn from corner to corner

module _ (x y t : ℤ) (n m : ℕ) (hx : In32 x) (hy : In32 y) (hn : n < 2147483648) (hm : m < 2147483648) where
  drawn_down : drawn_at (record { first = record { x = x; y = y }; thickness = t; second = record { x = x +ℤ pos n; y = y +ℤ pos m } }) origin
      ≡ cornered.At (record { position = record { x = x; y = y }; width = pos n; height = pos m; same_way = is_same_way (ltb 0 n) false (ltb 0 m) false })
  unfolding drawn_at
  drawn_down = rw (low_forth x n, low_forth y m, placed_origin x y hx hy) (sized_is _ _ ∙ rw (extent_forth x n hn, extent_forth y m hm) refl)

  drawn_up : drawn_at (record { first = record { x = x; y = y +ℤ pos m }; thickness = t; second = record { x = x +ℤ pos n; y = y } }) origin
      ≡ cornered.At (record { position = record { x = x; y = y }; width = pos n; height = pos m; same_way = is_same_way (ltb 0 n) false false (ltb 0 m) })
  unfolding drawn_at
  drawn_up = rw (low_forth x n, low_back y m, placed_origin x y hx hy) (sized_is _ _ ∙ rw (extent_forth x n hn, extent_back y m hm) refl)

module _ (x y t : ℤ) (n m : ℕ) (hx : In32 x) (hy : In32 y) (ht : In32 t) (hn : n < 2147483648) (hm : m < 2147483648) (fx : In32 (x +ℤ pos n)) (fy : In32 (y +ℤ pos m)) (lt : le_z (pos 1) t ≡ true) where
  pub box_read : box_reading (numbers x (y ∷ t ∷ (x +ℤ pos n) ∷ (y +ℤ pos m) ∷ [])) origin
      ≡ reading.Element (element.GraphicBox (record { position = record { x = x; y = y }; width = pos n; height = pos m; border_thickness = t; line_color = Black }))
  unfolding box_reading
  box_read =
      rw (fields_numbers x (y ∷ t ∷ (x +ℤ pos n) ∷ (y +ℤ pos m) ∷ []), corners_read_lem x y t (x +ℤ pos n) (y +ℤ pos m) hx hy ht fx fy lt)
      (rw (drawn_down x y t n m hx hy hn hm) refl)

  pub diagonal_down : diagonal_reading (numbers x (y ∷ t ∷ (x +ℤ pos n) ∷ (y +ℤ pos m) ∷ [])) origin
      ≡ reading.Element (element.DiagonalLine (record { position = record { x = x; y = y }; width = pos n; height = pos m; border_thickness = t; top_to_bottom = is_same_way (ltb 0 n) false (ltb 0 m) false }))
  unfolding diagonal_reading
  diagonal_down =
      rw (fields_numbers x (y ∷ t ∷ (x +ℤ pos n) ∷ (y +ℤ pos m) ∷ []), corners_read_lem x y t (x +ℤ pos n) (y +ℤ pos m) hx hy ht fx fy lt)
      (rw (drawn_down x y t n m hx hy hn hm) refl)

  pub diagonal_up : diagonal_reading (numbers x ((y +ℤ pos m) ∷ t ∷ (x +ℤ pos n) ∷ y ∷ [])) origin
      ≡ reading.Element (element.DiagonalLine (record { position = record { x = x; y = y }; width = pos n; height = pos m; border_thickness = t; top_to_bottom = is_same_way (ltb 0 n) false false (ltb 0 m) }))
  unfolding diagonal_reading
  diagonal_up =
      rw (fields_numbers x ((y +ℤ pos m) ∷ t ∷ (x +ℤ pos n) ∷ y ∷ []), corners_read_lem x (y +ℤ pos m) t (x +ℤ pos n) y hx fy ht fx hy lt)
      (rw (drawn_up x y t n m hx hy hn hm) refl)

-- the direction

pub slopes_down : (w h : Bool) → slopes true w h ≡ true → is_same_way w false h false ≡ true
slopes_down true true e = refl
slopes_down true false e = e
slopes_down false true e = e
slopes_down false false e = refl

pub slopes_up : (w h : Bool) → slopes false w h ≡ true → is_same_way w false false h ≡ false
slopes_up true true e = refl
slopes_up true false e = refl
slopes_up false true e = refl
slopes_up false false e = absurd (true≢false (sym e))

-- tests on ℤ

pub eq_z_true : (a b : ℤ) → eq_z a b ≡ true → a ≡ b
eq_z_true (pos a) (pos b) e = ap pos (eqb-true a b e)
eq_z_true (pos a) (negsuc b) e = absurd (true≢false (sym e))
eq_z_true (negsuc a) (pos b) e = absurd (true≢false (sym e))
eq_z_true (negsuc a) (negsuc b) e = ap negsuc (eqb-true a b e)

pub eq_z_refl : (a : ℤ) → eq_z a a ≡ true
eq_z_refl (pos a) = eq-eqb a a refl
eq_z_refl (negsuc a) = eq-eqb a a refl

-- a number that is not below 0
pub data Whole (z : ℤ) : Type 0 where
  whole : (n : ℕ) → z ≡ pos n → Whole z

pub not_below : (z : ℤ) → le_z (pos 0) z ≡ true → Whole z
not_below (pos n) e = whole n refl
not_below (negsuc n) e = absurd (true≢false (sym e))
