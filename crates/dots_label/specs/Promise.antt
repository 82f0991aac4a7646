-- One label from 203 to 300 dots, told element by element (01, "From 203 to 300 dots"): by the kinds of elements and
-- not by the code's numbers for them.
use Rattle.std.specs.Prelude.{◌≡◌, List, [], ◌∷◌, ◌++◌, true, false, ℕ, ◌≤◌, ◌<◌, ℤ, pos, length, drop}
use Rattle.numbers.specs.Int.{in32}
use Rattle.elements.specs.declared.LabelElement.{LabelElement}
use Rattle.elements.specs.declared.LabelElement.TheVariants as element
use Rattle.elements.specs.declared.LabelPosition.{LabelPosition}
use Rattle.walk_theory.specs.Language.{unit, yield}
use Rattle.grammar.specs.Units.{EplUnit}
use Rattle.grammar.specs.Epl.{EplPrint, epl}
use Rattle.grammar.specs.Shapes.{place_of}
use Rattle.structs.specs.declared.answer.Element.{Element}
use Rattle.structs.specs.Flat.{flat_element}
use Rattle.dots.specs.declared.length.Dots300.{Dots300}
use Rattle.dots.specs.declared.element.Element300.{Element300}
use Rattle.dots.specs.Length.{Nearest, to300}
use Rattle.dots_label.specs.Conversion.{Drawn}
use Rattle.dots_label.specs.declared.label.Label300.{Label300}

-- ---- one element
-- "box and diagonal sizes, thickness and bar height"
abbrev pub sizes_of : LabelElement → List ℤ
sizes_of (element.Text e) = []
sizes_of (element.GraphicBox e) = e.width ∷ e.height ∷ e.border_thickness ∷ []
sizes_of (element.DiagonalLine e) = e.width ∷ e.height ∷ e.border_thickness ∷ []
sizes_of (element.GraphicField e) = []
sizes_of (element.Barcode128 e) = e.barcode.height ∷ []
sizes_of (element.BarcodeEan13 e) = e.barcode.height ∷ []
sizes_of (element.BarcodeEan8 e) = e.barcode.height ∷ []
sizes_of (element.BarcodeUca e) = e.barcode.height ∷ []
sizes_of (element.BarcodeUcpe e) = e.barcode.height ∷ []
sizes_of (element.Barcode2of5 e) = e.barcode.height ∷ []
sizes_of (element.Barcode39 e) = e.barcode.height ∷ []
sizes_of (element.BarcodePdf417 e) = []
sizes_of (element.BarcodeAztec e) = []
sizes_of (element.BarcodeDatamatrix e) = []
sizes_of (element.BarcodeQr e) = []
sizes_of (element.Maxicode e) = []

-- where they stand in the new element
abbrev pub new_sizes : LabelElement → Element300 → List ℤ
new_sizes (element.Text e) x = []
new_sizes (element.GraphicBox e) x = x.width.0 ∷ x.height.0 ∷ x.thickness.0 ∷ []
new_sizes (element.DiagonalLine e) x = x.width.0 ∷ x.height.0 ∷ x.thickness.0 ∷ []
new_sizes (element.GraphicField e) x = []
new_sizes (element.Barcode128 e) x = x.height.0 ∷ []
new_sizes (element.BarcodeEan13 e) x = x.height.0 ∷ []
new_sizes (element.BarcodeEan8 e) x = x.height.0 ∷ []
new_sizes (element.BarcodeUca e) x = x.height.0 ∷ []
new_sizes (element.BarcodeUcpe e) x = x.height.0 ∷ []
new_sizes (element.Barcode2of5 e) x = x.height.0 ∷ []
new_sizes (element.Barcode39 e) x = x.height.0 ∷ []
new_sizes (element.BarcodePdf417 e) x = []
new_sizes (element.BarcodeAztec e) x = []
new_sizes (element.BarcodeDatamatrix e) x = []
new_sizes (element.BarcodeQr e) x = []
new_sizes (element.Maxicode e) x = []

-- "narrow .. bars, module widths, row heights": as many dots as before, where the flat element has its lengths
abbrev pub Kept : LabelElement → Element300 → Type 0
Kept (element.Text e) x = Unit
Kept (element.GraphicBox e) x = Unit
Kept (element.DiagonalLine e) x = Unit
Kept (element.GraphicField e) x = Unit
Kept (element.Barcode128 e) x = x.width.0 ≡ e.width
Kept (element.BarcodeEan13 e) x = x.width.0 ≡ e.width
Kept (element.BarcodeEan8 e) x = x.width.0 ≡ e.width
Kept (element.BarcodeUca e) x = x.width.0 ≡ e.width
Kept (element.BarcodeUcpe e) x = x.width.0 ≡ e.width
Kept (element.Barcode2of5 e) x = x.width.0 ≡ e.width
Kept (element.Barcode39 e) x = x.width.0 ≡ e.width
Kept (element.BarcodePdf417 e) x = (x.width.0 ≡ e.barcode.module_width) ×
    (x.height.0 ≡ e.barcode.row_height)
Kept (element.BarcodeAztec e) x = Unit
Kept (element.BarcodeDatamatrix e) x = x.height.0 ≡ e.barcode.height
Kept (element.BarcodeQr e) x = Unit
Kept (element.Maxicode e) x = Unit

-- each new length is the nearest to 300/203 of the old
abbrev pub AllNearest : List ℤ → List ℤ → Type 0
AllNearest [] [] = Unit
AllNearest [] (z ∷ zs) = ⊥
AllNearest (n ∷ ns) [] = ⊥
AllNearest (n ∷ ns) (z ∷ zs) = Nearest n z × AllNearest ns zs

-- the flat element with these five lengths
abbrev pub with_dots : Element → Dots300 → Dots300 → Dots300 → Dots300 → Dots300 → Element300
with_dots e x y width height thickness =
    record {
      kind = e.kind;
      rotation = e.rotation;
      reverse = e.reverse;
      colour = e.colour;
      direction = e.direction;
      line = e.line;
      check = e.check;
      truncate = e.truncate;
      level = e.level;
      x = x;
      y = y;
      width = width;
      height = height;
      thickness = thickness;
      row_bytes = e.row_bytes;
      security = e.security;
      columns = e.columns;
      rows = e.rows;
      magnification = e.magnification;
      size = e.size;
      mode = e.mode;
      font = e.font;
      horizontal = e.horizontal;
      vertical = e.vertical;
      wide = e.wide;
      text_height = e.text_height;
      text_width = e.text_width;
      ratio = e.ratio;
      data_start = e.data_start;
      data_len = e.data_len;
    }

pub record Turned (e : LabelElement) (x : Element300) : Type 0 where
  -- "positions .. become the nearest whole number to 300/203 of the old"
  pub across : Nearest (place_of e).x x.x.0
  pub down : Nearest (place_of e).y x.y.0
  -- so do "box and diagonal sizes, thickness and bar height"
  pub sizes : AllNearest (sizes_of e) (new_sizes e x)
  -- "All else is unchanged"
  pub kept : Kept e x
  pub rest : x ≡ with_dots (flat_element e) x.x x.y x.width x.height x.thickness

-- ---- its refusals
-- all results have 32 bits; one has not
abbrev pub AllFit300 : List ℤ → Type 0
AllFit300 [] = Unit
AllFit300 (n ∷ ns) = (in32 (to300 n) ≡ true) × AllFit300 ns

pub data OneOut300 : List ℤ → Type 0 where
  out_here : {n : ℤ} {ns : List ℤ} → in32 (to300 n) ≡ false → OneOut300 (n ∷ ns)
  out_later : {n : ℤ} {ns : List ℤ} → OneOut300 ns → OneOut300 (n ∷ ns)

abbrev pub positions : LabelElement → List ℤ
positions e = (place_of e).x ∷ (place_of e).y ∷ []

-- "Results beyond 32 bits are 13 for positions and 19 for all others", "13 first"
pub data Beyond : LabelElement → ℕ → Type 0 where
  position : {e : LabelElement} → OneOut300 (positions e) → Beyond e 13
  size : {e : LabelElement} → AllFit300 (positions e) → OneOut300 (sizes_of e) → Beyond e 19

pub record Fits300 (e : LabelElement) : Type 0 where
  pub positions_fit : AllFit300 (positions e)
  pub sizes_fit : AllFit300 (sizes_of e)

abbrev pub IsGraphic : LabelElement → Type 0
IsGraphic (element.GraphicField e) = Unit
IsGraphic (element.Text e) = ⊥
IsGraphic (element.GraphicBox e) = ⊥
IsGraphic (element.DiagonalLine e) = ⊥
IsGraphic (element.Barcode128 e) = ⊥
IsGraphic (element.BarcodeEan13 e) = ⊥
IsGraphic (element.BarcodeEan8 e) = ⊥
IsGraphic (element.BarcodeUca e) = ⊥
IsGraphic (element.BarcodeUcpe e) = ⊥
IsGraphic (element.Barcode2of5 e) = ⊥
IsGraphic (element.Barcode39 e) = ⊥
IsGraphic (element.BarcodePdf417 e) = ⊥
IsGraphic (element.BarcodeAztec e) = ⊥
IsGraphic (element.BarcodeDatamatrix e) = ⊥
IsGraphic (element.BarcodeQr e) = ⊥
IsGraphic (element.Maxicode e) = ⊥

-- ---- a label
-- all of its elements
abbrev pub All : (LabelElement → Type 0) → List Drawn → Type 0
All Q [] = Unit
All Q (d ∷ ds) = Q d.element × All Q ds

-- the first of its elements that is so, its line beginning at p
pub data First (Not Q : LabelElement → Type 0) (p : ℕ) : List Drawn → Type 0 where
  first_here : {d : Drawn} {ds : List Drawn} → Q d.element → d.place ≡ p → First Not Q p (d ∷ ds)
  first_later : {d : Drawn} {ds : List Drawn} → Not d.element → First Not Q p ds → First Not Q p (d ∷ ds)

-- one by one
abbrev pub AllTurned : List Drawn → List Element300 → Type 0
AllTurned [] [] = Unit
AllTurned [] (x ∷ xs) = ⊥
AllTurned (d ∷ ds) [] = ⊥
AllTurned (d ∷ ds) (x ∷ xs) = Turned d.element x × AllTurned ds xs

-- a refused call: its number and place, and the list l as it came
pub record Denied (k p : ℕ) (l n : List Element300) (r : Label300) : Type 0 where
  pub answer : r ≡ record { number = k; place = p; sets = pos 0; copies = pos 0 }
  pub list : n ≡ l

-- what a call does that was lent the list l, of a label with the elements ds whose print says q: l becomes n, and r is
-- given back
pub record Resolved (q : EplPrint) (ds : List Drawn) (l n : List Element300) (r : Label300) : Type 0 where
  -- "24 a label with a graphic (place: its first block's first byte)"
  pub graphic : (p : ℕ) → First (λ e. IsGraphic e → ⊥) IsGraphic p ds → Denied 24 p l n r
  -- "after all checks of opening and before 13 and 19 of the results; these name the first line with such a result"
  pub beyond : (k p : ℕ) → All (λ e. IsGraphic e → ⊥) ds → First Fits300 (λ e. Beyond e k) p ds → Denied k p l n r
  -- "(15 if too short)", last
  pub short : All (λ e. IsGraphic e → ⊥) ds → All Fits300 ds → length l < length ds → Denied 15 (length ds) l n r
  -- the elements stand from the start of l on, the rest is as it came, and "sets and copies are answered beside the
  -- count"
  pub room : All (λ e. IsGraphic e → ⊥) ds → All Fits300 ds → length ds ≤ length l
      → (r ≡ record { number = 0; place = length ds; sets = q.sets; copies = q.copies })
      × (xs : List Element300) × AllTurned ds xs × (n ≡ xs ++ drop (length ds) l)

-- ---- where an element's line begins
-- d is what the unit that stands first at its place in t yields, at some reference
pub record Begins (t : List ℕ) (d : Drawn) : Type 0 where
  pub there : EplUnit
  pub behind : List ℕ
  pub stands : epl.first (drop d.place t) ≡ unit there behind
  pub reference : LabelPosition
  pub yielded : LabelElement
  pub acts : epl.act reference there ≡ yield yielded
  pub moved : d.element ≡ epl.shifted d.place yielded

abbrev pub AllBegin : List ℕ → List Drawn → Type 0
AllBegin t [] = Unit
AllBegin t (d ∷ ds) = Begins t d × AllBegin t ds
