-- The spellings that 01 names, by the text that is written (`spelling`): boxes by their sides and colour, Code 128 by its
-- mode. Assumes nothing.
use mathlib.Core.Path.{◌≡◌, refl, sym, ap, subst, ◌∙◌}
use mathlib.Core.Bool.{true, false, true≢false, ◌&&◌}
use mathlib.Core.List.{List, [], ◌∷◌, ◌++◌, append_assoc}
use mathlib.Core.Logic.{◌⊎◌, inl, inr}
use Prim.Native.Nat.{ℕ, suc}
use native.Mathlib.Omega.{arith}
use lib.Dec.{eqb}
use lib.IntN.{ℤ, pos, negsuc}
use lib.ListN.{length}
use lib.Signed.{le_z, lt_z}
use borrow.Author.Tests.{leb-true}
use Rattle.text.specs.Ascii.{letter, spelt}
use Rattle.text.specs.Fields.{index_of}
use Rattle.text.proofs.BoolLaws.{test, or_cases, and_both}
use Rattle.numbers.specs.Int.{min_z, eq_z}
use Rattle.elements.specs.declared.Barcode128WithData.{Barcode128WithData}
use Rattle.elements.specs.declared.BarcodeMode.{BarcodeMode}
use Rattle.elements.specs.declared.GraphicBox as box
use Rattle.elements.specs.declared.LabelElement.TheVariants.{GraphicBox, Barcode128}
use Rattle.elements.specs.declared.LabelPosition.{LabelPosition}
use Rattle.elements.specs.declared.LineColor.{LineColor}
use Rattle.elements.specs.declared.plain.Extent.{Extent}
use Rattle.elements.specs.Plain.{extent}
use Rattle.frame_bytes.specs.Frame.{part}
use Rattle.barcodes.specs.declared.barcode.Symbology.TheVariants.{Code128}
use Rattle.grammar.specs.Units.{all_nil, all_cons}
use Rattle.decimals.specs.Decimal.{decimal}
use Rattle.decimals.specs.Joined.{Without, closed}
use Rattle.decimals.proofs.ReadLaws.{decimal_without}
use Rattle.spellings.specs.Draws.{is_black, line_letter, is_line, is_cornered, by_line, by_corners, spell_box, fine_box}
use Rattle.spellings.specs.Codes.{turns, flagged, type_of, bar_params}
use Rattle.spellings.specs.Quoted.{quotes, quoted_line, numbers_then}
use Rattle.spellings.specs.Spelled.{ended, spell}
use Rattle.spellings.specs.Writable.{writable}
use Rattle.spellings.proofs.BoundLaws.{le_refl, lt_le, not_lt_le}
use Rattle.spellings.proofs.DrawLaws.{eq_z_true, eq_z_refl}
use Rattle.readback.specs.Exact.{Yieldable}
use Rattle.readback.proofs.ExactLaws.{yieldable_writable}
use Rattle.laddertick.specs.Free.{Free}
use Rattle.laddertick.specs.Writing.{Lined, FourthField, Spelling}

-- ---- the smaller of two sides
le_antisym : (a b : ℤ) → le_z a b ≡ true → le_z b a ≡ true → a ≡ b
le_antisym (pos a) (pos b) h g = let k : a ≡ b = omega (arith, leb-true a b h, leb-true b a g) in ap pos k
le_antisym (pos a) (negsuc b) h g = absurd (true≢false (sym h))
le_antisym (negsuc a) (pos b) h g = absurd (true≢false (sym g))
le_antisym (negsuc a) (negsuc b) h g = let k : a ≡ b = omega (arith, leb-true b a h, leb-true a b g) in ap negsuc k

module _ (w h : ℤ) where
  min_left : le_z (min_z w h) w ≡ true
  min_left = test (lt_z w h) (λ l. simp l (le_refl w)) (λ l. simp l (not_lt_le w h l))

  min_right : le_z (min_z w h) h ≡ true
  min_right = test (lt_z w h) (λ l. simp l (lt_le w h l)) (λ l. simp l (le_refl h))

  min_one : (min_z w h ≡ w) ⊎ (min_z w h ≡ h)
  min_one = test (lt_z w h) (λ l. inl (simp l)) (λ l. inr (simp l))

  under_min : (t : ℤ) → le_z t w ≡ true → le_z t h ≡ true → le_z t (min_z w h) ≡ true
  under_min t a b = test (lt_z w h) (λ l. simp l a) (λ l. simp l b)

  smaller_is : (t : ℤ) → le_z t w ≡ true → le_z t h ≡ true → (t ≡ w) ⊎ (t ≡ h) → t ≡ min_z w h
  smaller_is t a b (inl e) = le_antisym t (min_z w h) (under_min t a b) (subst (λ (z : ℤ). le_z (min_z w h) z ≡ true) (sym e) min_left)
  smaller_is t a b (inr e) = le_antisym t (min_z w h) (under_min t a b) (subst (λ (z : ℤ). le_z (min_z w h) z ≡ true) (sym e) min_right)

  lined_line : (t : ℤ) → Lined w h t → is_line (extent w h t) ≡ true
  unfolding is_line
  lined_line t l = simp (l.wide, l.high, subst (λ (z : ℤ). eq_z t z ≡ true) (smaller_is t l.in_width l.in_height l.side) (eq_z_refl t))

  line_lined : (t : ℤ) → is_line (extent w h t) ≡ true → Lined w h t
  unfolding is_line
  line_lined t e =
      let a = and_both (le_z (pos 1) w && le_z (pos 1) h) (eq_z t (min_z w h)) e in
      let b = and_both (le_z (pos 1) w) (le_z (pos 1) h) a.0 in
      let k = sym (eq_z_true t (min_z w h) a.1) in
      record {
        wide = b.0;
        high = b.1;
        in_width = subst (λ (z : ℤ). le_z z w ≡ true) k min_left;
        in_height = subst (λ (z : ℤ). le_z z h ≡ true) k min_right;
        side = subst (λ (z : ℤ). (z ≡ w) ⊎ (z ≡ h)) k min_one;
      }

-- ---- boxes
module _ (p : LabelPosition) (x : Extent) (c : LineColor) where
  as_line : is_line x ≡ true → spell_box p x c ≡ letter "L" ∷ line_letter c ∷ by_line p x
  unfolding spell_box
  as_line h = simp h

  as_corners : is_line x ≡ false → spell_box p x c ≡ spelt "X" (by_corners p x)
  unfolding spell_box
  as_corners h = simp h

  -- one that is not black is no box for `X`
  coloured_line : is_black c ≡ false → fine_box p x c ≡ true → is_line x ≡ true
  unfolding fine_box
  coloured_line b h = or_cases (is_line x) (is_black c && is_cornered p x) (λ e. e) (λ e. absurd (true≢false (sym (and_both (is_black c) (is_cornered p x) e).0 ∙ b))) h

module _ (s : List ℕ) (b : box.GraphicBox) where
  abbrev sides : Extent
  sides = extent b.width b.height b.border_thickness

  begins_line : (c : LineColor) → b.line_color ≡ c → is_line sides ≡ true → spell s (GraphicBox b) ≡ letter "L" ∷ line_letter c ∷ ended (by_line b.position sides)
  begins_line c e h = ap ended (as_line b.position sides b.line_color h ∙ ap (λ (d : LineColor). letter "L" ∷ line_letter d ∷ by_line b.position sides) e)

  fine_box_lem : writable s (GraphicBox b) ≡ true → fine_box b.position sides b.line_color ≡ true
  unfolding writable
  fine_box_lem h = h

  other_line : (c : LineColor) → Yieldable s (GraphicBox b) → b.line_color ≡ c → is_black c ≡ false → is_line sides ≡ true
  other_line c y e n = coloured_line b.position sides b.line_color (ap is_black e ∙ n) (fine_box_lem (yieldable_writable s (GraphicBox b) y))

-- ---- Code 128
free_of : (c : ℕ) (s : List ℕ) → Without c s → Free c s
free_of c [] w = all_nil
free_of c (x ∷ s) w =
    test (eqb x c)
    (λ e. absurd (let z : 0 ≡ suc (length s) = simp e at w in omega arith))
    (λ e. let k : suc (index_of c s) ≡ suc (length s) = simp e at w in all_cons (simp e) (free_of c s (omega arith)))

decimal_free : (z : ℤ) → Free 44 (decimal z)
decimal_free z = free_of 44 (decimal z) (decimal_without 44 refl (λ e. omega arith) z)

closes : (f s z : List ℕ) → closed f s ++ z ≡ closed f (s ++ z)
closes f s z = append_assoc f (44 ∷ s) z

four_closed_lem : (a b c f r z : List ℕ) → closed a (closed b (closed c (closed f r))) ++ z ≡ closed a (closed b (closed c (closed f (r ++ z))))
four_closed_lem a b c f r z =
    closes a (closed b (closed c (closed f r))) z
    ∙ ap (closed a) (closes b (closed c (closed f r)) z ∙ ap (closed b) (closes c (closed f r) z ∙ ap (closed c) (closes f r z)))

fourth : (s : List ℕ) (e : Barcode128WithData) → FourthField (type_of (Code128 e.barcode.mode)) (spell s (Barcode128 e))
unfolding quoted_line bar_params numbers_then
fourth s e =
    let r : List ℕ = numbers_then (e.width ∷ pos 2 ∷ e.barcode.height ∷ []) (flagged e.barcode.line (letter "B") (letter "N")) in
    let q : List ℕ = 44 ∷ quotes (part s e.«data») in
    let x : List ℕ = decimal e.position.x in
    let y : List ℕ = decimal e.position.y in
    let o : List ℕ = decimal (turns e.barcode.orientation) in
    let f : List ℕ = type_of (Code128 e.barcode.mode) in
    record {
      x = x;
      y = y;
      rotation = o;
      rest = r ++ q ++ (10 ∷ []);
      is = ap (λ (l : List ℕ). ended (66 ∷ l)) (four_closed_lem x y o f r q) ∙ ap (λ (l : List ℕ). 66 ∷ l) (four_closed_lem x y o f (r ++ q) (10 ∷ []));
      x_free = decimal_free e.position.x;
      y_free = decimal_free e.position.y;
      rotation_free = decimal_free (turns e.barcode.orientation);
    }

typed : (s : List ℕ) (e : Barcode128WithData) (m : BarcodeMode) → e.barcode.mode ≡ m → FourthField (type_of (Code128 m)) (spell s (Barcode128 e))
typed s e m h = subst (λ (n : BarcodeMode). FourthField (type_of (Code128 n)) (spell s (Barcode128 e))) h (fourth s e)

pub spelling : Spelling
spelling = record {
  black_line = λ s b c l. (_, begins_line s b _ c (lined_line b.width b.height b.border_thickness l));
  black_corners = λ s b c n. (_, ap ended (as_corners b.position (sides s b) b.line_color (test (is_line (sides s b)) (λ e. absurd (n (line_lined b.width b.height b.border_thickness e))) (λ e. e))));
  white = λ s b y c. (_, begins_line s b _ c (other_line s b _ y c refl));
  exclusive_or = λ s b y c. (_, begins_line s b _ c (other_line s b _ y c refl));
  ucc = λ s e h. typed s e _ h;
  automatic = λ s e h. typed s e _ h;
  ean = λ s e h. typed s e _ h;
}
