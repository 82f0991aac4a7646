-- Lines as they are written: which command they spell, and boxes and diagonals read back whole at reference 0,0.
-- Assumes nothing.
use mathlib.Core.Path.{◌≡◌, refl, sym, ap, ◌∙◌, subst}
use mathlib.Core.Bool.{Bool, true, false, cond, ◌&&◌, true≢false}
use mathlib.Core.List.{List, [], ◌∷◌}
use Prim.Native.Nat.{ℕ, ◌<◌, ◌≤◌}
use native.Mathlib.Omega.{arith}
use lib.Dec.{ltb}
use lib.IntN.{ℤ, pos, ◌+ℤ◌}
use lib.Signed.{mag, le_z, lt_z}
use borrow.Author.Tests.{ltb-true}
use Rattle.text.specs.Blank.{trim}
use Rattle.text.proofs.BoolLaws.{test, and_both}
use Rattle.numbers.specs.Int.{in32, min_z, eq_z}
use Rattle.elements.specs.declared.LabelElement.{LabelElement}
use Rattle.elements.specs.declared.LabelElement.TheVariants as element
use Rattle.elements.specs.declared.LabelPosition.{LabelPosition}
use Rattle.elements.specs.declared.LineColor.{LineColor}
use Rattle.elements.specs.declared.LineColor.TheVariants.{Black, White, Xor}
use Rattle.elements.specs.declared.plain.Extent.{Extent}
use Rattle.parameters.specs.declared.reading.LineReading.TheVariants as reading
use Rattle.command_letters.specs.Command.{is_reference, command_of}
use Rattle.draws.specs.Draw.{line_reading, diagonal_reading, box_reading}
use Rattle.commands.specs.Line.{read_line}
use Rattle.decimals.proofs.ReadLaws.{Ends, ends_append, plain, trim_ends}
use Rattle.spellings.specs.Draws.{is_black, line_letter, is_line, is_cornered, by_line, by_corners, by_corners_up, spell_box, fine_box, slopes, spell_diagonal, fine_diagonal}
use Rattle.spellings.proofs.FieldLaws.{In32, origin, numbers_ends}
use Rattle.spellings.proofs.DrawLaws.{line_read, box_read, diagonal_down, diagonal_up, slopes_down, slopes_up, eq_z_true, Whole, whole, not_below}

-- a line that starts with two plain bytes and ends with one has no blanks to lose
two : (a b : ℕ) (s : List ℕ) → 33 ≤ a → a < 127 → Ends s → trim (a ∷ b ∷ s) ≡ a ∷ b ∷ s
two a b s h g e = trim_ends a (b ∷ s) (plain a h g) (ends_append (b ∷ []) s e)

pub read_line_lem : (c : LineColor) (s : List ℕ) (r : LabelPosition) → Ends s → read_line (76 ∷ line_letter c ∷ s) r ≡ line_reading s c r
unfolding read_line command_of is_reference
read_line_lem Black s r e = rw (two 76 79 s (omega arith) (omega arith) e) refl
read_line_lem White s r e = rw (two 76 87 s (omega arith) (omega arith) e) refl
read_line_lem Xor s r e = rw (two 76 69 s (omega arith) (omega arith) e) refl

pub read_diagonal : (s : List ℕ) (r : LabelPosition) → Ends s → read_line (76 ∷ 83 ∷ s) r ≡ diagonal_reading s r
unfolding read_line command_of is_reference
read_diagonal s r e = rw (two 76 83 s (omega arith) (omega arith) e) refl

pub read_box : (s : List ℕ) (r : LabelPosition) → Ends s → read_line (88 ∷ s) r ≡ box_reading s r
unfolding read_line command_of is_reference
read_box s r e = rw (trim_ends 88 s (plain 88 (omega arith) (omega arith)) e) refl

-- a box and a diagonal by their plain form
abbrev pub box_at : LabelPosition → Extent → LineColor → LabelElement
box_at p x c = element.GraphicBox (record { position = p; width = x.width; height = x.height; border_thickness = x.thickness; line_color = c })

abbrev pub diagonal_at : LabelPosition → Extent → Bool → LabelElement
diagonal_at p x d = element.DiagonalLine (record { position = p; width = x.width; height = x.height; border_thickness = x.thickness; top_to_bottom = d })

-- every number of a box or diagonal has 32 bits, as its Rattle type says
pub record Sides (p : LabelPosition) (x : Extent) : Type 0 where
  pub across : In32 p.x
  pub down : In32 p.y
  pub width : In32 x.width
  pub height : In32 x.height
  pub thick : In32 x.thickness

-- what the test of corners says
record Cornered (p : LabelPosition) (x : Extent) : Type 0 where
  w_whole : Whole x.width
  h_whole : Whole x.height
  thick : le_z (pos 1) x.thickness ≡ true
  far_x : In32 (p.x +ℤ x.width)
  far_y : In32 (p.y +ℤ x.height)

cornered : (p : LabelPosition) (x : Extent) → is_cornered p x ≡ true → Cornered p x
unfolding is_cornered
cornered p x e =
    let w = x.width in let h = x.height in let t = x.thickness in
    let e4 = and_both (le_z (pos 0) w && le_z (pos 0) h && le_z (pos 1) t && in32 (p.x +ℤ w)) (in32 (p.y +ℤ h)) e in
    let e3 = and_both (le_z (pos 0) w && le_z (pos 0) h && le_z (pos 1) t) (in32 (p.x +ℤ w)) e4.0 in
    let e2 = and_both (le_z (pos 0) w && le_z (pos 0) h) (le_z (pos 1) t) e3.0 in
    let e1 = and_both (le_z (pos 0) w) (le_z (pos 0) h) e2.0 in
    record {
      w_whole = not_below w e1.0;
      h_whole = not_below h e1.1;
      thick = e2.1;
      far_x = ltb-true (mag (p.x +ℤ w)) 2147483648 e3.1;
      far_y = ltb-true (mag (p.y +ℤ h)) 2147483648 e4.1;
    }

black_is : (c : LineColor) → is_black c ≡ true → c ≡ Black
black_is Black e = refl
black_is White e = absurd (true≢false (sym e))
black_is Xor e = absurd (true≢false (sym e))

module _ (p : LabelPosition) (x : Extent) (f : Sides p x) where
  -- by `LO`, `LW`, `LE`
  by_line_lem : (c : LineColor) → is_line x ≡ true → read_line (76 ∷ line_letter c ∷ by_line p x) origin ≡ reading.Element (box_at p x c)
  unfolding is_line
  by_line_lem c e =
      let w = x.width in let h = x.height in
      let e2 = and_both (le_z (pos 1) w && le_z (pos 1) h) (eq_z x.thickness (min_z w h)) e in
      let e1 = and_both (le_z (pos 1) w) (le_z (pos 1) h) e2.0 in
      read_line_lem c (by_line p x) origin (numbers_ends p.x (p.y ∷ w ∷ h ∷ []))
      ∙ line_read p.x p.y w h f.across f.down f.width f.height e1.0 e1.1 c
      ∙ ap (λ (t : ℤ). reading.Element (box_at p (record { width = w; height = h; thickness = t }) c))
      (sym (eq_z_true x.thickness (min_z w h) e2.1))

  module _ (c : Cornered p x) where
    -- by `X`
    box_by : Whole x.width → Whole x.height → box_reading (by_corners p x) origin ≡ reading.Element (box_at p x Black)
    box_by (whole n e) (whole m g) =
        rw (e, g)
        (box_read p.x p.y x.thickness n m f.across f.down f.thick (subst In32 e f.width) (subst In32 g f.height)
        (subst (λ (z : ℤ). In32 (p.x +ℤ z)) e c.far_x) (subst (λ (z : ℤ). In32 (p.y +ℤ z)) g c.far_y) c.thick)

    -- by `LS`
    down_by : Whole x.width → Whole x.height → slopes true (lt_z (pos 0) x.width) (lt_z (pos 0) x.height) ≡ true
        → diagonal_reading (by_corners p x) origin ≡ reading.Element (diagonal_at p x true)
    down_by (whole n e) (whole m g) k =
        let k2 : slopes true (ltb 0 n) (ltb 0 m) ≡ true = rw (e, g) at k in
        rw (e, g)
        (diagonal_down p.x p.y x.thickness n m f.across f.down f.thick (subst In32 e f.width) (subst In32 g f.height)
        (subst (λ (z : ℤ). In32 (p.x +ℤ z)) e c.far_x) (subst (λ (z : ℤ). In32 (p.y +ℤ z)) g c.far_y) c.thick
        ∙ ap (λ (d : Bool). reading.Element (diagonal_at p (record { width = pos n; height = pos m; thickness = x.thickness }) d)) (slopes_down (ltb 0 n) (ltb 0 m) k2))

    up_by : Whole x.width → Whole x.height → slopes false (lt_z (pos 0) x.width) (lt_z (pos 0) x.height) ≡ true
        → diagonal_reading (by_corners_up p x) origin ≡ reading.Element (diagonal_at p x false)
    up_by (whole n e) (whole m g) k =
        let k2 : slopes false (ltb 0 n) (ltb 0 m) ≡ true = rw (e, g) at k in
        rw (e, g)
        (diagonal_up p.x p.y x.thickness n m f.across f.down f.thick (subst In32 e f.width) (subst In32 g f.height)
        (subst (λ (z : ℤ). In32 (p.x +ℤ z)) e c.far_x) (subst (λ (z : ℤ). In32 (p.y +ℤ z)) g c.far_y) c.thick
        ∙ ap (λ (d : Bool). reading.Element (diagonal_at p (record { width = pos n; height = pos m; thickness = x.thickness }) d)) (slopes_up (ltb 0 n) (ltb 0 m) k2))

    by_direction : (d : Bool) → slopes d (lt_z (pos 0) x.width) (lt_z (pos 0) x.height) ≡ true
        → diagonal_reading (cond d (by_corners p x) (by_corners_up p x)) origin ≡ reading.Element (diagonal_at p x d)
    by_direction true k = down_by c.w_whole c.h_whole k
    by_direction false k = up_by c.w_whole c.h_whole k

  by_corners_lem : (c : LineColor) → is_black c ≡ true → is_cornered p x ≡ true → read_line (88 ∷ by_corners p x) origin ≡ reading.Element (box_at p x c)
  by_corners_lem c k e =
      let g = cornered p x e in
      read_box (by_corners p x) origin (numbers_ends p.x (p.y ∷ x.thickness ∷ (p.x +ℤ x.width) ∷ (p.y +ℤ x.height) ∷ []))
      ∙ box_by g g.w_whole g.h_whole
      ∙ ap (λ (c : LineColor). reading.Element (box_at p x c)) (sym (black_is c k))

  -- every box that is fine, read back
  pub box_written : (c : LineColor) → fine_box p x c ≡ true → read_line (spell_box p x c) origin ≡ reading.Element (box_at p x c)
  unfolding spell_box fine_box
  box_written c e =
      test (is_line x)
      (λ l. simp l (by_line_lem c l))
      (λ l. let k = and_both (is_black c) (is_cornered p x) (rw l at e) in simp l (by_corners_lem c k.0 k.1))

  -- every diagonal that is fine, read back
  pub diagonal_written : (d : Bool) → fine_diagonal p x d ≡ true → read_line (spell_diagonal p x d) origin ≡ reading.Element (diagonal_at p x d)
  unfolding spell_diagonal fine_diagonal
  diagonal_written d q =
      let k = and_both (is_cornered p x) (slopes d (lt_z (pos 0) x.width) (lt_z (pos 0) x.height)) q in
      read_diagonal (cond d (by_corners p x) (by_corners_up p x)) origin
      (ends_either d (by_corners p x) (by_corners_up p x) (numbers_ends p.x (p.y ∷ x.thickness ∷ (p.x +ℤ x.width) ∷ (p.y +ℤ x.height) ∷ [])) (numbers_ends p.x ((p.y +ℤ x.height) ∷ x.thickness ∷ (p.x +ℤ x.width) ∷ p.y ∷ [])))
      ∙ by_direction (cornered p x k.0) d k.1
    where
      ends_either : (d : Bool) (s u : List ℕ) → Ends s → Ends u → Ends (cond d s u)
      ends_either true s u e g = e
      ends_either false s u e g = g
