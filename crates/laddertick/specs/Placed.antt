-- What lies where, by numbers alone (01, "What lies where"): no test of the finder's is used here but `is_touching`,
-- which claim `shares` says by the points of both rectangles.
use Rattle.std.specs.Prelude.{◌≡◌, Bool, true, false, cond, ◌||◌, ◌⊎◌, ℕ, ◌≤◌, eqb}
use Rattle.std.specs.Int.Signed.{le_z}
use Rattle.elements.specs.declared.LabelPosition.{LabelPosition}
use Rattle.structs.specs.declared.answer.Element.{Element}
use Rattle.where_element.specs.declared.place.Rectangle.{Rectangle}
use Rattle.where_element.specs.Place.{is_touching}

-- "position lies in a closed rectangle": between its corners on both axes, those included
pub record Within (p : LabelPosition) (b : Rectangle) : Type 0 where
  pub left : le_z b.x1 p.x ≡ true
  pub right : le_z p.x b.x2 ≡ true
  pub top : le_z b.y1 p.y ≡ true
  pub bottom : le_z p.y b.y2 ≡ true

-- "boxes and diagonals", kinds 02 and 03, "whose own closed rectangle, from position to position plus width and height,
-- shares a point with it", by the fields of an element's struct; no other kind does
abbrev pub own_touches : Rectangle → Element → Bool
own_touches b v = cond (eqb v.kind 2 || eqb v.kind 3) (is_touching v.x v.y v.width v.height b) false

-- "the larger of the two": d of m and n
pub record Larger (m n d : ℕ) : Type 0 where
  pub first : m ≤ d
  pub second : n ≤ d
  pub one : (d ≡ m) ⊎ (d ≡ n)
