-- Corners as `read_corners` answers them are those of the fields (`corners_are`), and what they give at a position is
-- what the two axes give (`sized_is`). Assumes nothing.
use mathlib.Core.Path.{◌≡◌, refl}
use mathlib.Core.Bool.{Bool, true, false, cond, not, ◌&&◌, ◌||◌}
use mathlib.Core.List.{List}
use Prim.Native.Nat.{ℕ, zero, suc}
use native.Mathlib.Omega.{arith}
use lib.Dec.{leb, ltb}
use lib.IntN.{ℤ, pos, negsuc, ◌-ℤ◌}
use lib.ListN.{length}
use borrow.Author.Tests.{ne_eqb, lt-ltb}
use Rattle.text.specs.Fields.{fields}
use Rattle.text.proofs.BoolLaws.{test}
use Rattle.numbers.specs.Int.{in32, abs_z}
use Rattle.elements.specs.declared.LabelPosition.{LabelPosition}
use Rattle.parameters.specs.FieldValues.{fields_from}
use Rattle.parameters.proofs.ParamsLaws.{reached}
use Rattle.draws.specs.declared.draw.Corners.{Corners}
use Rattle.draws.specs.declared.draw.CornersRead.{CornersRead}
use Rattle.draws.specs.Draw.{corners_at, is_positive, is_negative, is_zero, direction, sized_at}
use Rattle.draws.specs.Axes.{corners_read, extent_of, is_same_way, on_axes}

module _ (s : List ℕ) {r : CornersRead} (is : r ≡ corners_read s) where
  pub corners_are : r.corners ≡ corners_at s
  unfolding corners_read
  corners_are = rw is

  seen : r.seen ≡ ltb 0 (length (fields_from 4 s))
  unfolding corners_read
  seen = rw is

  -- what `reaches` answers is the number of fields
  pub five : {has : Bool} → has ≡ cond r.seen true (leb 5 (length (fields s))) → has ≡ leb 5 (length (fields s))
  five h = reached 4 s (fields_from 4 s) 0 refl seen h

-- the direction, by the sign of each difference

zero_is : (d : ℤ) → is_zero d ≡ (not (is_positive d) && not (is_negative d))
zero_is (pos zero) = refl
zero_is (pos (suc n)) = simp (ne_eqb (suc n) 0 (λ e. omega arith), lt-ltb 0 (suc n) (omega arith))
zero_is (negsuc n) = refl

pub same_way_is : (dx dy : ℤ) → is_same_way (is_positive dx) (is_negative dx) (is_positive dy) (is_negative dy) ≡ direction dx dy
same_way_is dx dy = rw (zero_is dx, zero_is dy) (by (is_positive dx) (is_negative dx) (is_positive dy) (is_negative dy))
  where
    by : (a b c d : Bool) → is_same_way a b c d ≡ ((a && c) || (b && d) || ((not a && not b) && (not c && not d)))
    by true true c d = refl
    by true false c d = refl
    by false true c d = refl
    by false false c d = refl

-- what the two axes give is what the corners give
pub sized_is : (c : Corners) (p : LabelPosition) → sized_at c p ≡ on_axes p (extent_of c.first.x c.second.x) (extent_of c.first.y c.second.y)
unfolding sized_at extent_of
sized_is c p =
    let dx = c.second.x -ℤ c.first.x in
    let dy = c.second.y -ℤ c.first.y in
    test (in32 dx)
    (λ a. test (in32 (abs_z dx))
    (λ b. test (in32 dy)
    (λ e. test (in32 (abs_z dy))
    (λ f. simp (a, b, e, f, same_way_is dx dy))
    (λ f. simp (a, b, e, f)))
    (λ e. simp (a, b, e)))
    (λ b. simp (a, b)))
    (λ a. simp a)
