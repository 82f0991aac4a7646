-- Positions, closed rectangles and distances over the integers (01, "What lies where").
use Rattle.std.specs.Prelude.{◌≡◌, Bool, true, ◌&&◌, ◌||◌, ℕ, max, ℤ, nat_abs, ◌+ℤ◌, ◌-ℤ◌}
use Rattle.std.specs.Int.Signed.{le_z, lt_z}
use Rattle.elements.specs.declared.LabelPosition.{LabelPosition}
use Rattle.where_element.specs.declared.place.Rectangle.{Rectangle}

-- z in the closed interval from a to b
abbrev pub between : ℤ → ℤ → ℤ → Bool
between a b z = le_z a z && le_z z b

-- "a rectangle whose far corner is below its near one on either axis"
abbrev pub is_turned : Rectangle → Bool
is_turned r = lt_z r.x2 r.x1 || lt_z r.y2 r.y1

-- "position lies in a closed rectangle"
abbrev pub is_inside : LabelPosition → Rectangle → Bool
is_inside p r = between r.x1 r.x2 p.x && between r.y1 r.y2 p.y

-- two closed intervals, a to b and c to d: the first is not empty, and neither lies wholly past the other
abbrev pub meet : ℤ → ℤ → ℤ → ℤ → Bool
meet a b c d = le_z a b && le_z a d && le_z c b

-- "own closed rectangle, from position to position plus width and height, shares a point with it"
abbrev pub is_touching : ℤ → ℤ → ℤ → ℤ → Rectangle → Bool
is_touching x y w h r = meet x (x +ℤ w) r.x1 r.x2 && meet y (y +ℤ h) r.y1 r.y2

-- the words themselves: a point in both
pub record Shared (x y w h : ℤ) (r : Rectangle) : Type 0 where
  pub at : LabelPosition
  pub own : (between x (x +ℤ w) at.x && between y (y +ℤ h) at.y) ≡ true
  pub other : is_inside at r ≡ true

-- how far two numbers are from each other
abbrev pub apart : ℤ → ℤ → ℕ
apart a b = nat_abs (a -ℤ b)

-- "the larger of the two distances along x and y"
abbrev pub distance : LabelPosition → LabelPosition → ℕ
distance p q = max (apart p.x q.x) (apart p.y q.y)
