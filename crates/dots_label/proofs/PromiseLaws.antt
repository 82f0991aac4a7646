-- One label from 203 to 300 dots: what the contract says is what is told element by element (`resolved`, `refused`).
-- Opening with places is opening (`opening_placed`). Assumes nothing.
use mathlib.Core.Path.{◌≡◌, refl, sym, ap, subst, ◌∙◌}
use mathlib.Core.Bool.{Bool, true, false, cond, ◌&&◌, ◌||◌}
use mathlib.Core.Option.{Option}
use mathlib.Core.List.{List, [], ◌∷◌, ◌++◌}
use Prim.Native.Nat.{ℕ, suc, ◌<◌}
use native.Mathlib.Nat.{zero-add}
use native.Mathlib.Omega.{arith}
use lib.Dec.{ltb}
use lib.IntN.{ℤ, pos}
use lib.ListN.{length, take, drop, get_or, get_elem?}
use lib.Seq.{sets-eq}
use borrow.Author.Tests.{lt-ltb, le-ltb, ltb-true, ltb-false, ne_eqb}
use Rattle.text.proofs.BoolLaws.{test}
use Rattle.numbers.specs.Int.{in32}
use Rattle.elements.specs.declared.LabelElement.{LabelElement}
use Rattle.elements.specs.declared.LabelPosition.{LabelPosition}
use Rattle.elements.specs.Given.{longest}
use Rattle.elements.specs.declared.LabelElement.TheVariants as element
use Rattle.walk_theory.specs.Labels.{Label}
use Rattle.walk_theory.specs.Index as index
use Rattle.walk_theory.specs.Index.{first_in, opening_by, opening_found, opening}
use Rattle.walk_theory.specs.Step.{State, state}
use Rattle.walk_theory.specs.Trace.{trace}
use Rattle.grammar.specs.Epl.{EplPrint, epl}
use Rattle.label_index.specs.Entries.{EplEntry, entry_of, entries_of, no_entry}
use Rattle.label_index.specs.declared.entry.LabelEntry.{LabelEntry}
use Rattle.structs.specs.Flat.{flat_element}
use Rattle.dots.specs.declared.element.Element300.{Element300}
use Rattle.dots.specs.Length.{to300}
use Rattle.dots.specs.Element as one
use Rattle.dots.specs.Element.{element300, place_fits, sizes_fit, lengths_of}
use Rattle.dots.proofs.LengthLaws.{to300_nearest}
use Rattle.dots_label.specs.Placed.{placed}
use Rattle.dots_label.proofs.PlacedLaws.{frames_of, framed, opening_forgets}
use Rattle.dots_label.proofs.PlanLaws.{found_at, found_past}
use Rattle.dots_label.specs.Conversion.{Drawn, DrawnOpening, drawn_of, Conversion, converts, denied, graphic, outside, first_of, into, elements300, label_conversion, Converts}
use Rattle.dots_label.specs.declared.label.Label300.{Label300}
use Rattle.dots_label.specs.Promise.{sizes_of, Turned, AllFit300, OneOut300, out_here, out_later, positions, Beyond, position, size, Fits300, IsGraphic, All, First, first_here, first_later, AllTurned, Denied, Resolved}

-- ---- one element
pub turned : (e : LabelElement) → Turned e (element300 (flat_element e))
unfolding element300
turned (element.Text e) = record { across = to300_nearest e.position.x; down = to300_nearest e.position.y; sizes = tt; kept = tt; rest = refl }
turned (element.GraphicBox e) = record { across = to300_nearest e.position.x; down = to300_nearest e.position.y; sizes = (to300_nearest e.width, (to300_nearest e.height, (to300_nearest e.border_thickness, tt))); kept = tt; rest = refl }
turned (element.DiagonalLine e) = record { across = to300_nearest e.position.x; down = to300_nearest e.position.y; sizes = (to300_nearest e.width, (to300_nearest e.height, (to300_nearest e.border_thickness, tt))); kept = tt; rest = refl }
turned (element.GraphicField e) = record { across = to300_nearest e.position.x; down = to300_nearest e.position.y; sizes = tt; kept = tt; rest = refl }
turned (element.Barcode128 e) = record { across = to300_nearest e.position.x; down = to300_nearest e.position.y; sizes = (to300_nearest e.barcode.height, tt); kept = refl; rest = refl }
turned (element.BarcodeEan13 e) = record { across = to300_nearest e.position.x; down = to300_nearest e.position.y; sizes = (to300_nearest e.barcode.height, tt); kept = refl; rest = refl }
turned (element.BarcodeEan8 e) = record { across = to300_nearest e.position.x; down = to300_nearest e.position.y; sizes = (to300_nearest e.barcode.height, tt); kept = refl; rest = refl }
turned (element.BarcodeUca e) = record { across = to300_nearest e.position.x; down = to300_nearest e.position.y; sizes = (to300_nearest e.barcode.height, tt); kept = refl; rest = refl }
turned (element.BarcodeUcpe e) = record { across = to300_nearest e.position.x; down = to300_nearest e.position.y; sizes = (to300_nearest e.barcode.height, tt); kept = refl; rest = refl }
turned (element.Barcode2of5 e) = record { across = to300_nearest e.position.x; down = to300_nearest e.position.y; sizes = (to300_nearest e.barcode.height, tt); kept = refl; rest = refl }
turned (element.Barcode39 e) = record { across = to300_nearest e.position.x; down = to300_nearest e.position.y; sizes = (to300_nearest e.barcode.height, tt); kept = refl; rest = refl }
turned (element.BarcodePdf417 e) = record { across = to300_nearest e.position.x; down = to300_nearest e.position.y; sizes = tt; kept = (refl, refl); rest = refl }
turned (element.BarcodeAztec e) = record { across = to300_nearest e.position.x; down = to300_nearest e.position.y; sizes = tt; kept = tt; rest = refl }
turned (element.BarcodeDatamatrix e) = record { across = to300_nearest e.position.x; down = to300_nearest e.position.y; sizes = tt; kept = refl; rest = refl }
turned (element.BarcodeQr e) = record { across = to300_nearest e.position.x; down = to300_nearest e.position.y; sizes = tt; kept = tt; rest = refl }
turned (element.Maxicode e) = record { across = to300_nearest e.position.x; down = to300_nearest e.position.y; sizes = tt; kept = tt; rest = refl }

-- the results that have 32 bits
abbrev fitting : List ℤ → Bool
fitting [] = true
fitting (n ∷ ns) = in32 (to300 n) && fitting ns

all_fitting : (ns : List ℤ) → AllFit300 ns → fitting ns ≡ true
all_fitting [] h = refl
all_fitting (n ∷ ns) h = simp (h.0, all_fitting ns h.1)

one_fitting : {ns : List ℤ} → OneOut300 ns → fitting ns ≡ false
one_fitting (out_here e) = simp e
one_fitting (out_later {n} {ns} h) = by (in32 (to300 n)) (one_fitting h)
  where
    by : (b : Bool) → fitting ns ≡ false → (b && fitting ns) ≡ false
    by true e = e
    by false e = refl

zero_fits : in32 (to300 (pos 0)) ≡ true
unfolding to300
zero_fits = refl

and_true : (b : Bool) → (b && true) ≡ b
and_true true = refl
and_true false = refl

place_fitting : (e : LabelElement) → place_fits (lengths_of (flat_element e)) ≡ fitting (positions e)
place_fitting (element.Text e) = simp (and_true (in32 (to300 e.position.y)))
place_fitting (element.GraphicBox e) = simp (and_true (in32 (to300 e.position.y)))
place_fitting (element.DiagonalLine e) = simp (and_true (in32 (to300 e.position.y)))
place_fitting (element.GraphicField e) = simp (and_true (in32 (to300 e.position.y)))
place_fitting (element.Barcode128 e) = simp (and_true (in32 (to300 e.position.y)))
place_fitting (element.BarcodeEan13 e) = simp (and_true (in32 (to300 e.position.y)))
place_fitting (element.BarcodeEan8 e) = simp (and_true (in32 (to300 e.position.y)))
place_fitting (element.BarcodeUca e) = simp (and_true (in32 (to300 e.position.y)))
place_fitting (element.BarcodeUcpe e) = simp (and_true (in32 (to300 e.position.y)))
place_fitting (element.Barcode2of5 e) = simp (and_true (in32 (to300 e.position.y)))
place_fitting (element.Barcode39 e) = simp (and_true (in32 (to300 e.position.y)))
place_fitting (element.BarcodePdf417 e) = simp (and_true (in32 (to300 e.position.y)))
place_fitting (element.BarcodeAztec e) = simp (and_true (in32 (to300 e.position.y)))
place_fitting (element.BarcodeDatamatrix e) = simp (and_true (in32 (to300 e.position.y)))
place_fitting (element.BarcodeQr e) = simp (and_true (in32 (to300 e.position.y)))
place_fitting (element.Maxicode e) = simp (and_true (in32 (to300 e.position.y)))

size_fitting : (e : LabelElement) → sizes_fit (lengths_of (flat_element e)) ≡ fitting (sizes_of e)
size_fitting (element.Text e) = simp zero_fits
size_fitting (element.GraphicBox e) = simp (and_true (in32 (to300 e.border_thickness)))
size_fitting (element.DiagonalLine e) = simp (and_true (in32 (to300 e.border_thickness)))
size_fitting (element.GraphicField e) = simp zero_fits
size_fitting (element.Barcode128 e) = simp (zero_fits, and_true (in32 (to300 e.barcode.height)))
size_fitting (element.BarcodeEan13 e) = simp (zero_fits, and_true (in32 (to300 e.barcode.height)))
size_fitting (element.BarcodeEan8 e) = simp (zero_fits, and_true (in32 (to300 e.barcode.height)))
size_fitting (element.BarcodeUca e) = simp (zero_fits, and_true (in32 (to300 e.barcode.height)))
size_fitting (element.BarcodeUcpe e) = simp (zero_fits, and_true (in32 (to300 e.barcode.height)))
size_fitting (element.Barcode2of5 e) = simp (zero_fits, and_true (in32 (to300 e.barcode.height)))
size_fitting (element.Barcode39 e) = simp (zero_fits, and_true (in32 (to300 e.barcode.height)))
size_fitting (element.BarcodePdf417 e) = simp zero_fits
size_fitting (element.BarcodeAztec e) = simp zero_fits
size_fitting (element.BarcodeDatamatrix e) = simp zero_fits
size_fitting (element.BarcodeQr e) = simp zero_fits
size_fitting (element.Maxicode e) = simp zero_fits

module _ (e : LabelElement) where
  number_by_lem : (a b : Bool) → place_fits (lengths_of (flat_element e)) ≡ a → sizes_fit (lengths_of (flat_element e)) ≡ b → outside e ≡ cond a (cond b 0 19) 13
  unfolding one.outside
  number_by_lem a b p q = λ i. cond (p i) (cond (q i) 0 19) 13

  pub fits_number : Fits300 e → outside e ≡ 0
  fits_number f = number_by_lem true true (place_fitting e ∙ all_fitting (positions e) f.positions_fit) (size_fitting e ∙ all_fitting (sizes_of e) f.sizes_fit)

  pub beyond_number : {k : ℕ} → Beyond e k → (outside e ≡ k) × (0 < k)
  beyond_number (position o) = (number_by_lem false (sizes_fit (lengths_of (flat_element e))) (place_fitting e ∙ one_fitting o) refl, omega arith)
  beyond_number (size f o) = (number_by_lem true false (place_fitting e ∙ all_fitting (positions e) f) (size_fitting e ∙ one_fitting o), omega arith)

graphic_number : (e : LabelElement) → IsGraphic e → graphic e ≡ 24
graphic_number (element.Text e) h = absurd h
graphic_number (element.GraphicBox e) h = absurd h
graphic_number (element.DiagonalLine e) h = absurd h
graphic_number (element.GraphicField e) h = refl
graphic_number (element.Barcode128 e) h = absurd h
graphic_number (element.BarcodeEan13 e) h = absurd h
graphic_number (element.BarcodeEan8 e) h = absurd h
graphic_number (element.BarcodeUca e) h = absurd h
graphic_number (element.BarcodeUcpe e) h = absurd h
graphic_number (element.Barcode2of5 e) h = absurd h
graphic_number (element.Barcode39 e) h = absurd h
graphic_number (element.BarcodePdf417 e) h = absurd h
graphic_number (element.BarcodeAztec e) h = absurd h
graphic_number (element.BarcodeDatamatrix e) h = absurd h
graphic_number (element.BarcodeQr e) h = absurd h
graphic_number (element.Maxicode e) h = absurd h

other_number : (e : LabelElement) → (IsGraphic e → ⊥) → graphic e ≡ 0
other_number (element.Text e) h = refl
other_number (element.GraphicBox e) h = refl
other_number (element.DiagonalLine e) h = refl
other_number (element.GraphicField e) h = absurd (h tt)
other_number (element.Barcode128 e) h = refl
other_number (element.BarcodeEan13 e) h = refl
other_number (element.BarcodeEan8 e) h = refl
other_number (element.BarcodeUca e) h = refl
other_number (element.BarcodeUcpe e) h = refl
other_number (element.Barcode2of5 e) h = refl
other_number (element.Barcode39 e) h = refl
other_number (element.BarcodePdf417 e) h = refl
other_number (element.BarcodeAztec e) h = refl
other_number (element.BarcodeDatamatrix e) h = refl
other_number (element.BarcodeQr e) h = refl
other_number (element.Maxicode e) h = refl

-- ---- a label
module _ (f : LabelElement → ℕ) (Not Q : LabelElement → Type 0) (none : (e : LabelElement) → Not e → f e ≡ 0) (k : ℕ) (some : (e : LabelElement) → Q e → f e ≡ k) (k-some : 0 < k) where
  first_of_lem : (p : ℕ) {ds : List Drawn} → First Not Q p ds → (c : Conversion) → first_of f ds c ≡ denied k p
  first_of_lem p (first_here {d} {ds} h e) c = simp (some d.element h, ne_eqb k 0 (λ z. omega (arith, z, k-some))) (ap (denied k) e)
  first_of_lem p (first_later {d} h r) c = simp (none d.element h) (first_of_lem p r c)

none_of : (f : LabelElement → ℕ) (Not : LabelElement → Type 0) → ((e : LabelElement) → Not e → f e ≡ 0) → (ds : List Drawn) → All Not ds → (c : Conversion) → first_of f ds c ≡ c
none_of f Not none [] h c = refl
none_of f Not none (d ∷ ds) h c = simp (none d.element h.0) (none_of f Not none ds h.1 c)

all_turned : (ds : List Drawn) → AllTurned ds (elements300 ds)
all_turned [] = tt
all_turned (d ∷ ds) = (turned d.element, all_turned ds)

length_elements : (ds : List Drawn) → length (elements300 ds) ≡ length ds
length_elements [] = refl
length_elements (d ∷ ds) = ap suc (length_elements ds)

pub denies : (k p : ℕ) (l n : List Element300) (r : Label300) → Converts n l (denied k p) r → Denied k p l n r
denies k p l n r c = record { answer = c.answer; list = c.list }

pub resolved : (q : EplPrint) (ds : List Drawn) (l n : List Element300) (r : Label300) → Converts n l (label_conversion (length l) q ds) r → Resolved q ds l n r
resolved q ds l n r c =
    let no_graphic : All (λ e. IsGraphic e → ⊥) ds → label_conversion (length l) q ds ≡ first_of outside ds (into (length l) q (elements300 ds)) = λ h. none_of graphic (λ e. IsGraphic e → ⊥) other_number ds h _ in
    let all_fit : All (λ e. IsGraphic e → ⊥) ds → All Fits300 ds → label_conversion (length l) q ds ≡ into (length l) q (elements300 ds) = λ h f. no_graphic h ∙ none_of outside Fits300 fits_number ds f _ in
    let m = length_elements ds in
    record {
      graphic = λ p h. denies 24 p l n r (subst (λ (d : Conversion). Converts n l d r) (first_of_lem graphic (λ e. IsGraphic e → ⊥) IsGraphic other_number 24 graphic_number (omega arith) p h _) c);
      beyond = λ k p h f. beyond_of k p h f;
      short = λ h f s. denies 15 (length ds) l n r (subst (λ (d : Conversion). Converts n l d r) (all_fit h f ∙ simp (lt-ltb (length l) (length (elements300 ds)) (omega (arith, s, m))) (ap (denied 15) m)) c);
      room = λ h f s. (let is : label_conversion (length l) q ds ≡ converts q (elements300 ds) = all_fit h f ∙ simp (le-ltb (length l) (length (elements300 ds)) (omega (arith, s, m))) in let w = subst (λ (d : Conversion). Converts n l d r) is c in (
        w.answer ∙ ap (λ (j : ℕ). record { number = 0; place = j; sets = q.sets; copies = q.copies }) m,
        elements300 ds,
        all_turned ds,
        w.list ∙ sets-eq (elements300 ds) l 0 (omega (arith, s, m)) ∙ ap (λ (j : ℕ). elements300 ds ++ drop j l) (zero-add (length (elements300 ds)) ∙ m),
      ));
    }
  where
    beyond_of : (k p : ℕ) → All (λ e. IsGraphic e → ⊥) ds → First Fits300 (λ e. Beyond e k) p ds → Denied k p l n r
    beyond_of k p h f =
        denies k p l n r (subst (λ (d : Conversion). Converts n l d r)
        (none_of graphic (λ e. IsGraphic e → ⊥) other_number ds h _ ∙ first_of_lem outside Fits300 (λ e. Beyond e k) fits_number k (λ e b. (beyond_number e b).0) (some_number f) p f _) c)
      where
        some_number : {es : List Drawn} → First Fits300 (λ e. Beyond e k) p es → 0 < k
        some_number (first_here {d} b e) = (beyond_number d.element b).1
        some_number (first_later g r) = some_number r

-- ---- opening with places, and without
module _ (F : Type 0) (frame : List ℕ → LabelElement → F) (s : List ℕ) (i : ℕ) where
  entry_placed : (x : LabelEntry) → opening_by epl F frame i s (entry_of x) ≡ framed epl F frame (take x.last s) (opening_by (placed epl) Drawn (λ _ d. d) i s (entry_of x))
  entry_placed x = by (ltb (length s) x.last || ltb x.last x.first)
    where
      t : List ℕ
      t = take x.last s

      st : State LabelPosition
      st = state x.first x.reference 0

      by : (b : Bool) → cond b (index.denies 16 x.last) (first_in epl F frame i t [] (trace epl t st))
          ≡ framed epl F frame t (cond b (index.denies 16 x.last) (first_in (placed epl) Drawn (λ _ d. d) i t [] (trace (placed epl) t st)))
      by true = refl
      by false = opening_forgets epl F frame i t st

  pub opening_placed : (es : List LabelEntry) → opening epl F frame s (entries_of es) i ≡ framed epl F frame (take (get_or es i no_entry).last s) (drawn_of s es i)
  opening_placed es = by (ltb longest (length s))
    where
      t : List ℕ
      t = take (get_or es i no_entry).last s

      found : opening_found epl F frame i s (get_elem? (entries_of es) i) ≡ framed epl F frame t (opening_found (placed epl) Drawn (λ _ d. d) i s (get_elem? (entries_of es) i))
      found =
          test (ltb i (length es))
          (λ q.
          let e = found_at es i (ltb-true i (length es) q) in
          ap (opening_found epl F frame i s) e ∙ entry_placed (get_or es i no_entry) ∙ sym (ap (λ (o : Option EplEntry). framed epl F frame t (opening_found (placed epl) Drawn (λ _ d. d) i s o)) e))
          (λ q.
          let e = found_past es i (ltb-false i (length es) q) in
          ap (opening_found epl F frame i s) e ∙ sym (ap (λ (o : Option EplEntry). framed epl F frame t (opening_found (placed epl) Drawn (λ _ d. d) i s o)) e))

      by : (b : Bool) → cond b (index.denies 14 0) (opening_found epl F frame i s (get_elem? (entries_of es) i))
          ≡ framed epl F frame t (cond b (index.denies 14 0) (opening_found (placed epl) Drawn (λ _ d. d) i s (get_elem? (entries_of es) i)))
      by true = refl
      by false = found

  -- what opening with places answers, by what opening answers
  pub placed_denies : (t : List ℕ) (o : DrawnOpening) (k p : ℕ) → framed epl F frame t o ≡ index.denies k p → o ≡ index.denies k p
  placed_denies t (index.opens l) k p e = let z : ◌≡◌ {A = ℕ} 0 1 = cc in absurd (omega arith)
  placed_denies t (index.denies j q) k p e = let a : j ≡ k = cc in let b : q ≡ p = cc in λ ι. index.denies (a ι) (b ι)

  pub placed_opens : (t : List ℕ) (o : DrawnOpening) (f : Label F EplPrint) → framed epl F frame t o ≡ index.opens f
      → (ds : List Drawn) × (o ≡ index.opens (record { count = f.count; says = f.says; frames = ds })) × (f.frames ≡ frames_of epl F frame t ds)
  placed_opens t (index.opens l) f e =
      let k : record { count = l.count; says = l.says; frames = frames_of epl F frame t l.frames } ≡ f = cc in
      (l.frames, ap (λ (y : Label F EplPrint). index.opens (record { count = y.count; says = y.says; frames = l.frames })) k, sym (ap (λ (y : Label F EplPrint). y.frames) k))
  placed_opens t (index.denies j q) f e = let z : ◌≡◌ {A = ℕ} 0 1 = cc in absurd (omega arith)
