-- What lies where, by numbers alone: a position in a rectangle (`inside`), a turned one (`turned`), an element's position
-- and own rectangle by the fields of its struct (`position`, `own`), and the distance of two points (`near`). Assumes
-- nothing.
use mathlib.Core.Path.{◌≡◌, refl, ◌∙◌}
use mathlib.Core.Bool.{Bool, true, false, ◌&&◌, ◌||◌}
use mathlib.Core.Logic.{◌↔◌, ◌⊎◌, inl, inr}
use Prim.Native.Nat.{ℕ, max, ◌≤◌, ◌<◌}
use native.Mathlib.Nat.{le-max_left, le-max_right, max_comm, max-eq_left}
use native.Mathlib.Omega.{arith}
use lib.Dec.{ltb}
use lib.IntN.{nat_abs, ◌-ℤ◌}
use lib.Signed.{le_z, lt_z}
use borrow.Author.Tests.{ltb-true, ltb-false}
use Rattle.text.proofs.BoolLaws.{and_both, or_cases, test}
use Rattle.elements.specs.declared.LabelElement.{LabelElement}
use Rattle.elements.specs.declared.LabelElement.TheVariants as element
use Rattle.elements.specs.declared.LabelPosition.{LabelPosition}
use Rattle.structs.specs.Flat.{flat_element}
use Rattle.where_element.specs.declared.place.Rectangle.{Rectangle}
use Rattle.where_element.specs.Place.{is_turned, is_inside, distance}
use Rattle.where_element.specs.Element.{position_of, is_on}
use Rattle.laddertick.specs.Placed.{Within, own_touches, Larger}

all_four : (a b c d : Bool) → a ≡ true → b ≡ true → c ≡ true → d ≡ true → ((a && b) && (c && d)) ≡ true
all_four a b c d p q r s = simp (p, q, r, s)

pub inside : (p : LabelPosition) (b : Rectangle) → (is_inside p b ≡ true) ↔ Within p b
inside p b = (to, from)
  where
    to : is_inside p b ≡ true → Within p b
    to h =
        let w = and_both (le_z b.x1 p.x && le_z p.x b.x2) (le_z b.y1 p.y && le_z p.y b.y2) h in
        let x = and_both (le_z b.x1 p.x) (le_z p.x b.x2) w.0 in
        let y = and_both (le_z b.y1 p.y) (le_z p.y b.y2) w.1 in
        record { left = x.0; right = x.1; top = y.0; bottom = y.1 }

    from : Within p b → is_inside p b ≡ true
    from w = all_four (le_z b.x1 p.x) (le_z p.x b.x2) (le_z b.y1 p.y) (le_z p.y b.y2) w.left w.right w.top w.bottom

or_last : (x y : Bool) → y ≡ true → (x || y) ≡ true
or_last true y e = refl
or_last false y e = e

pub turned : (b : Rectangle) → (is_turned b ≡ true) ↔ ((lt_z b.x2 b.x1 ≡ true) ⊎ (lt_z b.y2 b.y1 ≡ true))
turned b = (or_cases (lt_z b.x2 b.x1) (lt_z b.y2 b.y1) (λ e. inl e) (λ e. inr e), from)
  where
    from : (lt_z b.x2 b.x1 ≡ true) ⊎ (lt_z b.y2 b.y1 ≡ true) → is_turned b ≡ true
    from (inl e) = simp e
    from (inr e) = or_last (lt_z b.x2 b.x1) (lt_z b.y2 b.y1) e

pub position : (e : LabelElement) → position_of e ≡ record { x = (flat_element e).x; y = (flat_element e).y }
position (element.Text e) = refl
position (element.GraphicBox e) = refl
position (element.DiagonalLine e) = refl
position (element.GraphicField e) = refl
position (element.Barcode128 e) = refl
position (element.BarcodeEan13 e) = refl
position (element.BarcodeEan8 e) = refl
position (element.BarcodeUca e) = refl
position (element.BarcodeUcpe e) = refl
position (element.Barcode2of5 e) = refl
position (element.Barcode39 e) = refl
position (element.BarcodePdf417 e) = refl
position (element.BarcodeAztec e) = refl
position (element.BarcodeDatamatrix e) = refl
position (element.BarcodeQr e) = refl
position (element.Maxicode e) = refl

pub own : (b : Rectangle) (e : LabelElement) → is_on b e ≡ own_touches b (flat_element e)
own b (element.Text e) = refl
own b (element.GraphicBox e) = refl
own b (element.DiagonalLine e) = refl
own b (element.GraphicField e) = refl
own b (element.Barcode128 e) = refl
own b (element.BarcodeEan13 e) = refl
own b (element.BarcodeEan8 e) = refl
own b (element.BarcodeUca e) = refl
own b (element.BarcodeUcpe e) = refl
own b (element.Barcode2of5 e) = refl
own b (element.Barcode39 e) = refl
own b (element.BarcodePdf417 e) = refl
own b (element.BarcodeAztec e) = refl
own b (element.BarcodeDatamatrix e) = refl
own b (element.BarcodeQr e) = refl
own b (element.Maxicode e) = refl

larger : (m n : ℕ) → Larger m n (max m n)
larger m n = record {
  first = le-max_left m n;
  second = le-max_right m n;
  one = test (ltb m n) (λ h. inr (max_comm m n ∙ max-eq_left (lt_le m n (ltb-true m n h)))) (λ h. inl (max-eq_left (ltb-false m n h)));
}
  where
    lt_le : (a b : ℕ) → a < b → a ≤ b
    lt_le a b h = omega arith

pub near : (p q : LabelPosition) → Larger (nat_abs (p.x -ℤ q.x)) (nat_abs (p.y -ℤ q.y)) (distance p q)
near p q = larger (nat_abs (p.x -ℤ q.x)) (nat_abs (p.y -ℤ q.y))
