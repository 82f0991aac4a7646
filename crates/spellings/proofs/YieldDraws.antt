-- Boxes and diagonals that lines yield at reference 0,0 are the writable ones. Assumes nothing.
use mathlib.Core.Path.{◌≡◌, refl, sym, ap, ◌∙◌, subst}
use mathlib.Core.Bool.{Bool, true, false, true≢false, ◌&&◌, ◌||◌}
use mathlib.Core.List.{List}
use Prim.Native.Nat.{ℕ, suc}
use native.Mathlib.Omega.{arith}
use lib.Dec.{ltb}
use lib.ListN.{length}
use lib.IntN.{ℤ, pos, negsuc, nat_abs, ◌+ℤ◌, ◌-ℤ◌, +ℤ_comm, +ℤ_idr, -ℤ-+ℤ_cancel, +ℤ-neg_ℤ_cancel}
use lib.Signed.{mag, le_z, lt_z}
use borrow.Author.Tests.{lt-ltb, le-ltb, le-leb}
use Rattle.text.specs.Fields.{fields, field}
use Rattle.text.proofs.BoolLaws.{test}
use Rattle.numbers.specs.Int.{in32, min_z, abs_z}
use Rattle.elements.specs.declared.LabelElement.{LabelElement}
use Rattle.elements.specs.declared.LabelPosition.{LabelPosition}
use Rattle.elements.specs.declared.LineColor.{LineColor}
use Rattle.parameters.specs.declared.position.Placed.{Placed}
use Rattle.parameters.specs.declared.position.Placed.TheVariants as placing
use Rattle.parameters.specs.declared.reading.LineReading.{LineReading}
use Rattle.parameters.specs.Position.{placed, yields}
use Rattle.draws.specs.declared.draw.Extent.{Extent}
use Rattle.draws.specs.declared.draw.Measured.{Measured}
use Rattle.draws.specs.declared.draw.Measured.TheVariants as measured
use Rattle.draws.specs.declared.draw.Cornered.{Cornered}
use Rattle.draws.specs.declared.draw.Cornered.TheVariants as cornered
use Rattle.draws.specs.Draw.{line_fields, line_element, line_reading, corners_at, if_placed, sized_at, drawn_at, diagonal_of, diagonal_reading, box_of, box_reading}
use Rattle.draws.specs.Axes.{extent_of, is_same_way, on_axes}
use Rattle.spellings.specs.Draws.{is_line, is_cornered, fine_box, slopes, fine_diagonal}
use Rattle.spellings.specs.Writable.{fine_fields}
use Rattle.elements.specs.Plain.{plain_of}
use Rattle.draws.specs.declared.draw.Corners.{Corners}
use Rattle.parameters.specs.declared.reading.LineReading.TheVariants as reading
use Rattle.draws.proofs.DrawLaws.{sized_is}
use Rattle.parameters.specs.FieldValues.{size_or, point_of}
use Rattle.spellings.proofs.FieldLaws.{In32, origin}
use Rattle.spellings.proofs.DrawLaws.{eq_z_refl}
use Rattle.spellings.proofs.ExtentLaws.{low_forth, low_back}
use Rattle.spellings.proofs.BoundLaws.{both, number_in, size_ge}

-- what a reading yields, if it yields, is P
abbrev pub Yields : (LabelElement → Type 0) → LineReading → Type 0
Yields P reading.Passed = Unit
Yields P reading.Clear = Unit
Yields P (reading.Reference x y) = Unit
Yields P (reading.Element e) = P e
Yields P (reading.Print sets copies) = Unit
Yields P (reading.Refused n) = Unit

-- the numbers of an element are fine, t being the bytes of its data
abbrev pub fine_of : List ℕ → LabelElement → Bool
fine_of t e = fine_fields (plain_of e).position t (plain_of e).fields

abbrev pub Fine : List ℕ → LineReading → Type 0
Fine t r = Yields (λ e. fine_of t e ≡ true) r

pub yields_by : (P : LabelElement → Type 0) (q : Placed) (e : LabelPosition → LabelElement) → ((p : LabelPosition) → P (e p)) → Yields P (yields q e)
yields_by P (placing.At p) e h = h p
yields_by P placing.Outside e h = tt

-- `LO`, `LW`, `LE`

line_is : (p : LabelPosition) (w h : ℤ) (c : LineColor) → le_z (pos 1) w ≡ true → le_z (pos 1) h ≡ true → fine_box p (record { width = w; height = h; thickness = min_z w h }) c ≡ true
unfolding fine_box is_line
line_is p w h c a b = simp (a, b, eq_z_refl (min_z w h))

pub line_yields : (t s : List ℕ) (c : LineColor) (r : LabelPosition) → Fine t (line_reading s c r)
unfolding line_reading line_element line_fields
line_yields t s c r =
    test (ltb (length (fields s)) 4)
    (λ e. simp e tt)
    (λ e. simp e (yields_by (λ e. fine_of t e ≡ true) (placed (point_of (field s 0) (field s 1)).x (point_of (field s 0) (field s 1)).y r) _
    (λ p. line_is p (size_or (pos 1) (field s 2)) (size_or (pos 1) (field s 3)) c (size_ge (pos 1) (field s 2)) (size_ge (pos 1) (field s 3)))))

-- along one axis

record Good (low : ℤ) (x : Extent) : Type 0 where
  whole : le_z (pos 0) x.size ≡ true
  far : In32 (low +ℤ x.size)
  moved : (x.rises || x.falls) ≡ lt_z (pos 0) x.size
  one : (x.rises && x.falls) ≡ false

abbrev GoodIf : ℤ → Measured → Type 0
GoodIf low (measured.Of x) = Good low x
GoodIf low measured.Outside = Unit

-- the far end is one of the two
far_in : (a b d : ℤ) → b -ℤ a ≡ d → In32 a → In32 b → In32 (min_z a b +ℤ abs_z d)
far_in a b (pos n) e ha hb =
    let f : b ≡ a +ℤ pos n = sym (-ℤ-+ℤ_cancel b a) ∙ ap (λ (z : ℤ). z +ℤ a) e ∙ +ℤ_comm (pos n) a in
    let m : min_z a b ≡ a = ap (min_z a) f ∙ low_forth a n in
    subst In32 (f ∙ ap (λ (z : ℤ). z +ℤ pos n) (sym m)) hb
far_in a b (negsuc n) e ha hb =
    let f : b ≡ a +ℤ negsuc n = sym (-ℤ-+ℤ_cancel b a) ∙ ap (λ (z : ℤ). z +ℤ a) e ∙ +ℤ_comm (negsuc n) a in
    let g : a ≡ b +ℤ pos (suc n) = sym (+ℤ-neg_ℤ_cancel a (negsuc n)) ∙ ap (λ (z : ℤ). z +ℤ pos (suc n)) (sym f) in
    let m : min_z a b ≡ b = ap (λ (z : ℤ). min_z z b) g ∙ low_back b (suc n) in
    subst In32 (g ∙ ap (λ (z : ℤ). z +ℤ pos (suc n)) (sym m)) ha

moved_is : (d : ℤ) → (lt_z (pos 0) d || lt_z d (pos 0)) ≡ lt_z (pos 0) (abs_z d)
moved_is (pos n) = test (ltb 0 n) (λ e. simp e) (λ e. simp (e, le-ltb n 0 (omega arith)))
moved_is (negsuc n) = sym (lt-ltb 0 (suc n) (omega arith))

one_way : (d : ℤ) → (lt_z (pos 0) d && lt_z d (pos 0)) ≡ false
one_way (pos n) = simp (le-ltb n 0 (omega arith)) (test (ltb 0 n) (λ e. simp e) (λ e. simp e))
one_way (negsuc n) = refl

extent_good : (a b : ℤ) → In32 a → In32 b → GoodIf (min_z a b) (extent_of a b)
unfolding extent_of
extent_good a b ha hb =
    let d = b -ℤ a in
    test (in32 d)
    (λ e. test (in32 (abs_z d))
    (λ f. simp (e, f) (record { whole = le-leb 0 (nat_abs d) (omega arith); far = far_in a b d refl ha hb; moved = moved_is d; one = one_way d }))
    (λ f. simp (e, f) tt))
    (λ e. simp e tt)

-- both axes

abbrev CorneredIf : ℤ → Cornered → Type 0
CorneredIf t (cornered.At d) = (is_cornered d.position (record { width = d.width; height = d.height; thickness = t }) ≡ true)
    × (slopes d.same_way (lt_z (pos 0) d.width) (lt_z (pos 0) d.height) ≡ true)
CorneredIf t cornered.Outside = Unit
CorneredIf t cornered.SizeOutside = Unit

-- both positive, both negative or both zero, or not
slopes_are : (rx fx ry fy : Bool) → (rx && fx) ≡ false → (ry && fy) ≡ false → slopes (is_same_way rx fx ry fy) (rx || fx) (ry || fy) ≡ true
slopes_are true true ry fy p q = absurd (true≢false p)
slopes_are true false true true p q = absurd (true≢false q)
slopes_are true false true false p q = refl
slopes_are true false false true p q = refl
slopes_are true false false false p q = refl
slopes_are false true true true p q = absurd (true≢false q)
slopes_are false true true false p q = refl
slopes_are false true false true p q = refl
slopes_are false true false false p q = refl
slopes_are false false true true p q = absurd (true≢false q)
slopes_are false false true false p q = refl
slopes_are false false false true p q = refl
slopes_are false false false false p q = refl

in_true : (z : ℤ) → In32 z → in32 z ≡ true
in_true z h = lt-ltb (mag z) 2147483648 h

-- at reference 0,0 a position is its own place, if it is one
at_origin : (P : Placed → Type 0) (x y : ℤ) → P placing.Outside → P (placing.At (record { x = x; y = y })) → P (placed x y origin)
unfolding placed
at_origin P x y o h =
    rw (+ℤ_idr x, +ℤ_idr y)
    (test (in32 x)
    (λ e. test (in32 y) (λ f. simp (e, f) h) (λ f. simp (e, f) o))
    (λ e. simp e o))

axes_good : (t : ℤ) (p : LabelPosition) (a d : Measured) → le_z (pos 1) t ≡ true → GoodIf p.x a → GoodIf p.y d → CorneredIf t (on_axes p a d)
unfolding is_cornered
axes_good t p (measured.Of a) (measured.Of d) h g k = (
  both (both (both (both g.whole k.whole) h) (in_true (p.x +ℤ a.size) g.far)) (in_true (p.y +ℤ d.size) k.far),
  rw (← g.moved, ← k.moved) (slopes_are a.rises a.falls d.rises d.falls g.one k.one),
)
axes_good t p (measured.Of a) measured.Outside h g k = tt
axes_good t p measured.Outside d h g k = tt

drawn_good : (c : Corners) → In32 c.first.x → In32 c.first.y → In32 c.second.x → In32 c.second.y → le_z (pos 1) c.thickness ≡ true → CorneredIf c.thickness (drawn_at c origin)
unfolding drawn_at
drawn_good c h1 g1 h2 g2 l =
    let p : LabelPosition = record { x = min_z c.first.x c.second.x; y = min_z c.first.y c.second.y } in
    at_origin (λ q. CorneredIf c.thickness (if_placed q (sized_at c))) p.x p.y tt
    (subst (CorneredIf c.thickness) (sym (sized_is c p))
    (axes_good c.thickness p (extent_of c.first.x c.second.x) (extent_of c.first.y c.second.y) l (extent_good c.first.x c.second.x h1 h2) (extent_good c.first.y c.second.y g1 g2)))

corners_in : (s : List ℕ) → In32 (corners_at s).first.x × In32 (corners_at s).first.y × In32 (corners_at s).second.x × In32 (corners_at s).second.y × (le_z (pos 1) (corners_at s).thickness ≡ true)
unfolding corners_at point_of
corners_in s = (
  number_in (pos 0) (field s 0) (omega arith),
  number_in (pos 0) (field s 1) (omega arith),
  number_in (pos 0) (field s 3) (omega arith),
  number_in (pos 0) (field s 4) (omega arith),
  size_ge (pos 1) (field s 2),
)

corners_good : (s : List ℕ) → CorneredIf (corners_at s).thickness (drawn_at (corners_at s) origin)
corners_good s = let i = corners_in s in drawn_good (corners_at s) i.0 i.1 i.2 i.3 i.4

-- `X`, `LS`

box_good : (q : List ℕ) (t : ℤ) (c : Cornered) → CorneredIf t c → Fine q (box_of t c)
unfolding fine_box
box_good q t (cornered.At d) g = or_right (is_line (record { width = d.width; height = d.height; thickness = t })) g.0
  where
    or_right : (x : Bool) {y : Bool} → y ≡ true → (x || y) ≡ true
    or_right true h = refl
    or_right false h = h
box_good q t cornered.Outside g = tt
box_good q t cornered.SizeOutside g = tt

pub box_yields : (q s : List ℕ) → Fine q (box_reading s origin)
unfolding box_reading
box_yields q s =
    test (ltb (length (fields s)) 5)
    (λ e. simp e tt)
    (λ e. simp e (box_good q (corners_at s).thickness (drawn_at (corners_at s) origin) (corners_good s)))

diagonal_good : (q : List ℕ) (t : ℤ) (c : Cornered) → CorneredIf t c → Fine q (diagonal_of t c)
unfolding fine_diagonal
diagonal_good q t (cornered.At d) g = both g.0 g.1
diagonal_good q t cornered.Outside g = tt
diagonal_good q t cornered.SizeOutside g = tt

pub diagonal_yields : (q s : List ℕ) → Fine q (diagonal_reading s origin)
unfolding diagonal_reading
diagonal_yields q s =
    test (ltb (length (fields s)) 5)
    (λ e. simp e tt)
    (λ e. simp e (diagonal_good q (corners_at s).thickness (drawn_at (corners_at s) origin) (corners_good s)))
