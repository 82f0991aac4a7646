-- What a label of structs is due, in the words of the claims (`writing`, WritingLaws). Assumes nothing.
use mathlib.Core.Path.{◌≡◌, refl, sym, ap, subst, ◌∙◌}
use mathlib.Core.Bool.{Bool, true, false, cond, ◌&&◌, ◌||◌, true≢false}
use mathlib.Core.List.{List, [], ◌∷◌, ◌++◌, map}
use mathlib.Core.Logic.{◌⊎◌, inl, inr}
use Prim.Native.Nat.{ℕ, zero, suc, ◌≤◌, ◌<◌}
use native.Mathlib.Omega.{arith}
use lib.Dec.{eqb, ltb}
use lib.IntN.{ℤ, pos, negsuc}
use lib.ListN.{length}
use lib.Signed.{lt_z}
use borrow.Author.Tests.{lt-ltb, le-ltb, eq-eqb, ne_eqb, eqb-true, eqb-false, ltb-true, ltb-false}
use Rattle.text.proofs.BoolLaws.{test}
use Rattle.elements.specs.declared.LabelElement.{LabelElement}
use Rattle.elements.specs.declared.LabelElement.TheVariants as element
use Rattle.elements.specs.declared.PrintCounts.{PrintCounts}
use Rattle.elements.specs.Given.{longest, text, denied}
use Rattle.structs.specs.declared.answer.Element.{Element}
use Rattle.structs.specs.Flat.{flat_element}
use Rattle.dots.specs.declared.element.Element300.{Element300}
use Rattle.dots_label.specs.Promise.{Turned}
use Rattle.spellings.specs.Due.{no_label, label_due}
use Rattle.spellings.specs.Spelled.{spell_label}
use Rattle.spellings.specs.Writable.{writable}
use Rattle.structs_read.specs.Unflat.{element_of, standing, Stands}
use Rattle.structs_read.proofs.StandingLaws.{standing_told}
use Rattle.readback.specs.Fits.{Fits, AllFits, no_more_fits, and_fits}
use Rattle.readback.specs.Written.{Reread}
use Rattle.readback.proofs.ExactLaws.{yieldable_writable}
use Rattle.readback.proofs.LabelLaws.{writable_yieldable}
use Rattle.readback.proofs.DueLaws.{due_reread}
use Rattle.writing_element.specs.Plain.{plain_due}
use Rattle.writing_label.specs.Label.{plain_label_due, at300}
use Rattle.writing_label.proofs.LabelLaws.{fine, AllFine, AllSized, Bad, fine_flat, plain_label, label_fine, label_bad, label_parts}
use Rattle.laddertick.specs.Writing.{AllYieldable, no_more_yieldable, and_yieldable, NoLabel, without_element, too_many, negative_sets, negative_copies, IsLabel, NoneYieldable, In32, Typed, AllTyped, AllStructs, FirstNone, same300, resized}

-- ---- a struct's numbers are its element's
fits_flat : (e : LabelElement) → Typed (flat_element e) → Fits e
fits_flat (element.Text e) v = record { across = v.x; down = v.y; numbers = (v.font, (v.horizontal, (v.vertical, tt))); floats = (v.sizes.height, (v.sizes.width, tt)) }
fits_flat (element.GraphicBox e) v = record { across = v.x; down = v.y; numbers = (v.width, (v.height, (v.thickness, tt))); floats = tt }
fits_flat (element.DiagonalLine e) v = record { across = v.x; down = v.y; numbers = (v.width, (v.height, (v.thickness, tt))); floats = tt }
fits_flat (element.GraphicField e) v = record { across = v.x; down = v.y; numbers = (v.bytes_a_row, tt); floats = tt }
fits_flat (element.Barcode128 e) v = record { across = v.x; down = v.y; numbers = (v.width, (v.height, tt)); floats = tt }
fits_flat (element.BarcodeEan13 e) v = record { across = v.x; down = v.y; numbers = (v.width, (v.height, tt)); floats = tt }
fits_flat (element.BarcodeEan8 e) v = record { across = v.x; down = v.y; numbers = (v.width, (v.height, tt)); floats = tt }
fits_flat (element.BarcodeUca e) v = record { across = v.x; down = v.y; numbers = (v.width, (v.height, tt)); floats = tt }
fits_flat (element.BarcodeUcpe e) v = record { across = v.x; down = v.y; numbers = (v.width, (v.height, tt)); floats = tt }
fits_flat (element.Barcode2of5 e) v = record { across = v.x; down = v.y; numbers = (v.width, (v.height, (v.wide, tt))); floats = (v.sizes.ratio, tt) }
fits_flat (element.Barcode39 e) v = record { across = v.x; down = v.y; numbers = (v.width, (v.height, (v.wide, tt))); floats = (v.sizes.ratio, tt) }
fits_flat (element.BarcodePdf417 e) v = record { across = v.x; down = v.y; numbers = (v.height, (v.security, (v.columns, (v.rows, (v.width, tt))))); floats = tt }
fits_flat (element.BarcodeAztec e) v = record { across = v.x; down = v.y; numbers = (v.magnification, (v.size, tt)); floats = tt }
fits_flat (element.BarcodeDatamatrix e) v = record { across = v.x; down = v.y; numbers = (v.height, (v.columns, (v.rows, tt))); floats = tt }
fits_flat (element.BarcodeQr e) v = record { across = v.x; down = v.y; numbers = (v.magnification, tt); floats = tt }
fits_flat (element.Maxicode e) v = record { across = v.x; down = v.y; numbers = (v.mode, tt); floats = tt }

fits_struct : (x : Element) (e : LabelElement) → Stands x e → Typed x → Fits e
fits_struct x e h v = fits_flat e (subst Typed (sym h) v)

sized_all : (xs : List Element) → AllTyped xs → AllSized xs
sized_all [] v = tt
sized_all (x ∷ xs) v = (v.0.sizes, sized_all xs v.1)

-- ---- yieldable and writable
fine_all : (s : List ℕ) (es : List LabelElement) → AllYieldable s es → AllFine s es
fine_all s [] no_more_yieldable = tt
fine_all s (e ∷ es) (and_yieldable f y a) = (yieldable_writable s e y, fine_all s es a)

fits_all : (s : List ℕ) (es : List LabelElement) → AllYieldable s es → AllFits es
fits_all s [] no_more_yieldable = no_more_fits
fits_all s (e ∷ es) (and_yieldable f y a) = and_fits f (fits_all s es a)

and_false : (a b : Bool) → b ≡ false → (a && b) ≡ false
and_false true b h = h
and_false false b h = refl

and_first : (a b : Bool) → a ≡ false → (a && b) ≡ false
and_first true b h = absurd (true≢false h)
and_first false b h = refl

-- ---- which numbers are a label's
all_no : (a b c d : Bool) → a ≡ false → b ≡ false → c ≡ false → d ≡ false → (a || b || c || d) ≡ false
all_no a b c d ha hb hc hd = simp (ha, hb, hc, hd)

or_last : (a b : Bool) → b ≡ true → (a || b) ≡ true
or_last true b h = refl
or_last false b h = h

or_first : (a b : Bool) → a ≡ true → (a || b) ≡ true
or_first true b h = refl
or_first false b h = absurd (true≢false (sym h))

not_below : (z : ℤ) (k : ℕ) → z ≡ pos k → lt_z z (pos 0) ≡ false
not_below z k h = ap (λ (w : ℤ). lt_z w (pos 0)) h ∙ le-ltb k 0 (omega arith)

below : (z : ℤ) (k : ℕ) → z ≡ negsuc k → lt_z z (pos 0) ≡ true
below z k h = ap (λ (w : ℤ). lt_z w (pos 0)) h

is_label : (n : ℕ) (q : PrintCounts) → IsLabel n q → no_label n q ≡ false
is_label n q h =
    all_no (eqb n 0) (ltb longest n) (lt_z q.sets (pos 0)) (lt_z q.copies (pos 0))
    (ne_eqb n 0 (λ e. let k = h.some in omega (arith, e, k))) (le-ltb longest n h.within)
    (not_below q.sets h.sets.0 h.sets.1) (not_below q.copies h.copies.0 h.copies.1)

is_no_label : (n : ℕ) (q : PrintCounts) → NoLabel n q → no_label n q ≡ true
is_no_label n q (without_element e) =
    or_first (eqb n 0 || ltb longest n || lt_z q.sets (pos 0)) (lt_z q.copies (pos 0))
    (or_first (eqb n 0 || ltb longest n) (lt_z q.sets (pos 0)) (or_first (eqb n 0) (ltb longest n) (eq-eqb n 0 e)))
is_no_label n q (too_many h) =
    or_first (eqb n 0 || ltb longest n || lt_z q.sets (pos 0)) (lt_z q.copies (pos 0))
    (or_first (eqb n 0 || ltb longest n) (lt_z q.sets (pos 0)) (or_last (eqb n 0) (ltb longest n) (lt-ltb longest n h)))
is_no_label n q (negative_sets k h) =
    or_first (eqb n 0 || ltb longest n || lt_z q.sets (pos 0)) (lt_z q.copies (pos 0))
    (or_last (eqb n 0 || ltb longest n) (lt_z q.sets (pos 0)) (below q.sets k h))
is_no_label n q (negative_copies k h) =
    or_last (eqb n 0 || ltb longest n || lt_z q.sets (pos 0)) (lt_z q.copies (pos 0)) (below q.copies k h)

sign : (z : ℤ) → ((k : ℕ) × (z ≡ pos k)) ⊎ ((k : ℕ) × (z ≡ negsuc k))
sign (pos k) = inl (k, refl)
sign (negsuc k) = inr (k, refl)

pub label_cases : (n : ℕ) (q : PrintCounts) → IsLabel n q ⊎ NoLabel n q
label_cases n q =
    test (eqb n 0)
    (λ h. inr (without_element (eqb-true n 0 h)))
    (λ h. test (ltb longest n)
    (λ k. inr (too_many (ltb-true longest n k)))
    (λ k. by_sets (some_number n (eqb-false n 0 h)) (ltb-false longest n k) (sign q.sets) (sign q.copies)))
  where
    some_number : (m : ℕ) → (m ≡ 0 → ⊥) → 0 < m
    some_number zero k = absurd (k refl)
    some_number (suc m) k = omega arith

    by_sets : 0 < n → n ≤ longest → ((k : ℕ) × (q.sets ≡ pos k)) ⊎ ((k : ℕ) × (q.sets ≡ negsuc k))
        → ((k : ℕ) × (q.copies ≡ pos k)) ⊎ ((k : ℕ) × (q.copies ≡ negsuc k)) → IsLabel n q ⊎ NoLabel n q
    by_sets h k (inr s) c = inr (negative_sets s.0 s.1)
    by_sets h k (inl s) (inr c) = inr (negative_copies c.0 c.1)
    by_sets h k (inl s) (inl c) = inl (record { some = h; within = k; sets = s; copies = c })

-- ---- what is due
module _ (s : List ℕ) (short : length s ≤ longest) where
  fine_due : (es : List LabelElement) (q : PrintCounts) {b : Bool} → AllYieldable s es → no_label (length es) q ≡ b
      → label_due s es q ≡ cond b (denied 23 (length es)) (text (spell_label s es q))
  fine_due es q a h =
      label_fine s es q short (fine_all s es a)
      ∙ ap (λ (c : Bool). cond c (denied 23 (length es)) (text (spell_label s es q))) h

  pub due_written : (es : List LabelElement) (q : PrintCounts) → AllYieldable s es → IsLabel (length es) q
      → plain_label_due s (map flat_element es) q ≡ text (spell_label s es q)
  due_written es q a h = plain_label s es q ∙ fine_due es q a (is_label (length es) q h)

  pub due_no_label : (es : List LabelElement) (q : PrintCounts) → AllYieldable s es → NoLabel (length es) q
      → plain_label_due s (map flat_element es) q ≡ denied 23 (length es)
  due_no_label es q a h = plain_label s es q ∙ fine_due es q a (is_no_label (length es) q h)

  pub reread_label : (es : List LabelElement) (q : PrintCounts) → AllYieldable s es → IsLabel (length es) q
      → In32 q.sets → In32 q.copies → Reread s es q
  reread_label es q a h hs hc =
      (due_reread s (spell_label s es q) es q (fits_all s es a) hs hc (fine_due es q a (is_label (length es) q h))).1

  none_fine : (x : Element) → Typed x → NoneYieldable s x → fine s x ≡ false
  none_fine x v n =
      test (standing x)
      (λ b. let h = standing_told x v.sizes b in
      and_false (standing x) (writable s (element_of x))
      (test (writable s (element_of x))
      (λ w. absurd (n (element_of x) h (writable_yieldable s short (element_of x) (fits_struct x (element_of x) h v) w)))
      (λ w. w)))
      (λ b. and_first (standing x) (writable s (element_of x)) b)

  pub due_unyieldable : (x : Element) → Typed x → NoneYieldable s x → plain_due s x ≡ denied 23 0
  unfolding plain_due
  due_unyieldable x v n = simp (le-ltb longest (length s) short, none_fine x v n)

  pub due_none : (es : List LabelElement) (x : Element) (ys : List Element) (q : PrintCounts) → AllYieldable s es → Typed x
      → NoneYieldable s x → plain_label_due s (map flat_element es ++ (x ∷ ys)) q ≡ denied 23 (length es)
  due_none es x ys q a v n = label_bad s es x ys q short (fine_all s es a) (none_fine x v n)

  -- ---- every list is one or the other
  fine_none : (x : Element) → fine s x ≡ false → NoneYieldable s x
  fine_none x b e h y =
      let f : fine s (flat_element e) ≡ true = fine_flat s e ∙ yieldable_writable s e y in
      true≢false (sym f ∙ ap (fine s) h ∙ b)

  yieldable_all : (es : List LabelElement) → AllTyped (map flat_element es) → AllFine s es → AllYieldable s es
  yieldable_all [] v a = no_more_yieldable
  yieldable_all (e ∷ es) v a =
      let f = fits_flat e v.0 in
      and_yieldable f (writable_yieldable s short e f a.0) (yieldable_all es v.1 a.1)

  typed_front : (es : List LabelElement) (ys : List Element) → AllTyped (map flat_element es ++ ys) → AllTyped (map flat_element es)
  typed_front [] ys v = tt
  typed_front (e ∷ es) ys v = (v.0, typed_front es ys v.1)

  pub list_cases : (xs : List Element) → AllTyped xs → AllStructs s xs ⊎ FirstNone s xs
  list_cases xs v = by_parts (label_parts s xs (sized_all xs v))
    where
      by_parts : ((es : List LabelElement) × (xs ≡ map flat_element es) × AllFine s es) ⊎ Bad s xs → AllStructs s xs ⊎ FirstNone s xs
      by_parts (inl p) = inl (p.0, p.1, yieldable_all p.0 (subst AllTyped p.1 v) p.2)
      by_parts (inr p) = inr (record {
        before = p.before;
        here = p.here;
        behind = p.behind;
        is = p.is;
        yieldable = yieldable_all p.before (typed_front p.before (p.here ∷ p.behind) (subst AllTyped p.is v)) p.all_fine;
        none = fine_none p.here p.bad;
      })

-- ---- at 300 dots
pub same_back : (xs : List Element) → map at300 (map same300 xs) ≡ xs
same_back [] = refl
same_back (x ∷ xs) = ap (λ (ys : List Element). x ∷ ys) (same_back xs)

pub every_300 : (ys : List Element300) → (xs : List Element) × (ys ≡ map same300 xs)
every_300 [] = ([], refl)
every_300 (y ∷ ys) = let r = every_300 ys in (at300 y ∷ r.0, ap (λ (zs : List Element300). y ∷ zs) r.1)

pub converted_300 : (e : LabelElement) (y : Element300) → Turned e y
    → y ≡ same300 (resized (flat_element e) y.x.0 y.y.0 y.width.0 y.height.0 y.thickness.0)
converted_300 e y t = t.rest
