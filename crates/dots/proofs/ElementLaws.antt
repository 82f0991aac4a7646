-- One element: its lengths in their order (`x_out`, .., `all_in`); what converting answers, by its number
-- (`converted_fits`, `converted_number`). Assumes nothing.
use mathlib.Core.Path.{◌≡◌, refl}
use mathlib.Core.Bool.{Bool, true, false, cond}
use Prim.Native.Nat.{ℕ}
use native.Mathlib.Omega.{arith}
use lib.IntN.{ℤ}
use Rattle.numbers.specs.Int.{in32}
use Rattle.structs.specs.declared.answer.Element.{Element}
use Rattle.dots.specs.declared.length.Dots300.{Dots300}
use Rattle.dots.specs.declared.length.Converted.TheVariants.{Dots, Outside}
use Rattle.dots.specs.declared.element.Lengths203.{Lengths203}
use Rattle.dots.specs.declared.element.Lengthened.TheVariants as change
use Rattle.dots.specs.declared.element.ConvertedElement.{ConvertedElement}
use Rattle.dots.specs.declared.element.ConvertedElement.TheVariants as answer
use Rattle.dots.specs.Length.{to300, converted}
use Rattle.dots.specs.Element.{lengths_of, lengths300, place_fits, sizes_fit, outside, lengthened, element300, converted_by, converted_element, or_nothing}

-- ---- what an answer says of the number
dots_by : (t : Bool) (z : ℤ) (d : Dots300) → in32 z ≡ t → cond t (Dots (record { 0 = z })) Outside ≡ Dots d → (d ≡ record { 0 = z }) × (in32 z ≡ true)
dots_by true z d e h = (cc, e)
dots_by false z d e h = let k : ◌≡◌ {A = ℕ} 0 1 = cc in absurd (omega arith)

pub converted_dots : (z : ℤ) (d : Dots300) → converted z ≡ Dots d → (d ≡ record { 0 = z }) × (in32 z ≡ true)
converted_dots z d h = dots_by (in32 z) z d refl h

out_by : (t : Bool) (z : ℤ) → in32 z ≡ t → cond t (Dots (record { 0 = z })) Outside ≡ Outside → in32 z ≡ false
out_by true z e h = let k : ◌≡◌ {A = ℕ} 0 1 = cc in absurd (omega arith)
out_by false z e h = e

pub converted_out : (z : ℤ) → converted z ≡ Outside → in32 z ≡ false
converted_out z h = out_by (in32 z) z refl h

-- ---- the answers in their order
module _ (l : Lengths203) where
  abbrev At : ℤ → Dots300 → Type 0
  At n d = converted (to300 n) ≡ Dots d

  abbrev Out : ℤ → Type 0
  Out n = converted (to300 n) ≡ Outside

  held : (n : ℤ) (d : Dots300) → At n d → in32 (to300 n) ≡ true
  held n d h = (converted_dots (to300 n) d h).1

  pub x_out : Out l.x.0 → change.Position ≡ lengthened l
  unfolding lengthened
  x_out h = simp (converted_out (to300 l.x.0) h)

  pub y_out : (x : Dots300) → At l.x.0 x → Out l.y.0 → change.Position ≡ lengthened l
  unfolding lengthened
  y_out x p h = simp (held l.x.0 x p, converted_out (to300 l.y.0) h)

  module _ (x y : Dots300) (p : At l.x.0 x) (q : At l.y.0 y) where
    pub width_out : Out l.width.0 → change.Size ≡ lengthened l
    unfolding lengthened
    width_out h = simp (held l.x.0 x p, held l.y.0 y q, converted_out (to300 l.width.0) h)

    pub height_out : (w : Dots300) → At l.width.0 w → Out l.height.0 → change.Size ≡ lengthened l
    unfolding lengthened
    height_out w r h = simp (held l.x.0 x p, held l.y.0 y q, held l.width.0 w r, converted_out (to300 l.height.0) h)

    module _ (w g : Dots300) (r : At l.width.0 w) (s : At l.height.0 g) where
      pub thickness_out : Out l.thickness.0 → change.Size ≡ lengthened l
      unfolding lengthened
      thickness_out h = simp (held l.x.0 x p, held l.y.0 y q, held l.width.0 w r, held l.height.0 g s, converted_out (to300 l.thickness.0) h)

      pub all_in : (t : Dots300) → At l.thickness.0 t → change.Lengths (record { x = x; y = y; width = w; height = g; thickness = t }) ≡ lengthened l
      unfolding lengthened
      all_in t u =
          simp (held l.x.0 x p, held l.y.0 y q, held l.width.0 w r, held l.height.0 g s, held l.thickness.0 t u)
          (cc ((converted_dots (to300 l.x.0) x p).0, (converted_dots (to300 l.y.0) y q).0, (converted_dots (to300 l.width.0) w r).0, (converted_dots (to300 l.height.0) g s).0, (converted_dots (to300 l.thickness.0) t u).0))

-- ---- what converting answers, by the element's number
abbrev pub answered : ℕ → ConvertedElement → Type 0
answered n (answer.Element x) = n ≡ 0
answered n answer.Position = n ≡ 13
answered n answer.Size = n ≡ 19

abbrev by_fit : Bool → Bool → ℕ
by_fit s t = cond s (cond t 0 19) 13

module _ (e : Element) where
  number_by_lem : (s t : Bool) → answered (by_fit s t) (converted_by (cond s (cond t (change.Lengths (lengths300 (lengths_of e))) change.Size) change.Position) e)
  number_by_lem true true = refl
  number_by_lem true false = refl
  number_by_lem false t = refl

  pub converted_number : answered (outside e) (converted_element e)
  unfolding outside lengthened converted_element
  converted_number = number_by_lem (place_fits (lengths_of e)) (sizes_fit (lengths_of e))

  fits_by : (s t : Bool) → by_fit s t ≡ 0 → or_nothing (converted_by (cond s (cond t (change.Lengths (lengths300 (lengths_of e))) change.Size) change.Position) e) ≡ element300 e
  unfolding element300
  fits_by true true h = refl
  fits_by true false h = absurd (omega arith)
  fits_by false t h = absurd (omega arith)

  pub converted_fits : outside e ≡ 0 → or_nothing (converted_element e) ≡ element300 e
  unfolding outside lengthened converted_element
  converted_fits h = fits_by (place_fits (lengths_of e)) (sizes_fit (lengths_of e)) h
