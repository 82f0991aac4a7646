-- What lies where on a label (01, "What lies where"): its elements, numbered from 0 in file order.
use Rattle.std.specs.Prelude.{Bool, false, cond, List, [], ◌∷◌, ℕ, suc, ◌<◌, ◌≤◌, ltb, length, get_or}
use Rattle.elements.specs.Plain.{plain_of}
use Rattle.elements.specs.declared.LabelElement.{LabelElement}
use Rattle.elements.specs.declared.LabelPosition.{LabelPosition}
use Rattle.elements.specs.declared.plain.Fields.{Fields}
use Rattle.elements.specs.declared.plain.Fields.TheVariants as fields
use Rattle.where_element.specs.declared.place.Rectangle.{Rectangle}
use Rattle.where_element.specs.Place.{is_inside, is_touching, distance}

abbrev pub position_of : LabelElement → LabelPosition
position_of e = (plain_of e).position

-- "the elements whose position lies in a closed rectangle"
abbrev pub is_in : Rectangle → LabelElement → Bool
is_in r e = is_inside (position_of e) r

-- what is drawn at p, by its fields: "those boxes and diagonals whose own closed rectangle .. shares a point with it";
-- thickness has no part
abbrev pub is_on_by : Rectangle → LabelPosition → Fields → Bool
is_on_by r p (fields.Text reverse scale font) = false
is_on_by r p (fields.Box x colour) = is_touching p.x p.y x.width x.height r
is_on_by r p (fields.Diagonal x down) = is_touching p.x p.y x.width x.height r
is_on_by r p (fields.Graphic rows) = false
is_on_by r p (fields.Code128 b mode) = false
is_on_by r p (fields.Bars b) = false
is_on_by r p (fields.Ratio b check wide ratio) = false
is_on_by r p (fields.Pdf417 b) = false
is_on_by r p (fields.Aztec b) = false
is_on_by r p (fields.Datamatrix b) = false
is_on_by r p (fields.Qr b level) = false
is_on_by r p (fields.Maxicode m) = false

abbrev pub is_on : Rectangle → LabelElement → Bool
is_on r e = is_on_by r (position_of e) (plain_of e).fields

-- the numbers, from n on, of the elements that pass a test, "in file order"
abbrev pub numbers_from : (LabelElement → Bool) → ℕ → List LabelElement → List ℕ
numbers_from t n [] = []
numbers_from t n (e ∷ es) = cond (t e) (n ∷ numbers_from t (suc n) es) (numbers_from t (suc n) es)

-- THE FIRST TWO ANSWERS: "Elements are numbered from 0 in the label"
abbrev pub inside_of : Rectangle → List LabelElement → List ℕ
inside_of r es = numbers_from (is_in r) 0 es

abbrev pub touching_of : Rectangle → List LabelElement → List ℕ
touching_of r es = numbers_from (is_on r) 0 es

-- the distances of elements from a point
abbrev pub distances : LabelPosition → List LabelElement → List ℕ
distances q [] = []
distances q (e ∷ es) = distance (position_of e) q ∷ distances q es

-- the place of the first least number, where k with the value d is it before the ones from n on
abbrev pub least_from : ℕ → ℕ → ℕ → List ℕ → ℕ
least_from n k d [] = k
least_from n k d (x ∷ xs) = cond (ltb x d) (least_from (suc n) n x xs) (least_from (suc n) k d xs)

-- of no number: 0
abbrev pub least_at : List ℕ → ℕ
least_at [] = 0
least_at (x ∷ xs) = least_from 1 0 x xs

-- THE THIRD ANSWER: "the element whose position is nearest to a point .., the earlier one if equal"
abbrev pub nearest_of : LabelPosition → List LabelElement → ℕ
nearest_of q es = least_at (distances q es)

-- the words themselves, of the distances
pub record FirstLeast (ds : List ℕ) (k : ℕ) : Type 0 where
  pub within : k < length ds
  pub least : (j : ℕ) → j < length ds → get_or ds k 0 ≤ get_or ds j 0
  pub first : (j : ℕ) → j < k → get_or ds k 0 < get_or ds j 0
