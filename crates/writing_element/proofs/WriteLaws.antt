-- What the flat form of an element is due is what the element is due. Assumes nothing.
use mathlib.Core.Path.{◌≡◌, refl, sym, ap, ◌∙◌, subst}
use mathlib.Core.Bool.{true, false}
use mathlib.Core.List.{List}
use Prim.Native.Nat.{ℕ, ◌-◌, ◌<◌, ◌≤◌}
use native.Mathlib.Omega.{arith}
use lib.Dec.{ltb}
use lib.ListN.{length, length-take, length-drop}
use borrow.Author.Tests.{ltb-false, lt-ltb, le-ltb}
use Rattle.text.proofs.BoolLaws.{test}
use Rattle.elements.specs.declared.LabelElement.{LabelElement}
use Rattle.elements.specs.declared.LabelElement.TheVariants as element
use Rattle.elements.specs.Given.{Due, text, denied, longest, Given, bytes, refused, Fills}
use Rattle.text.specs.Wrote.{Put}
use Rattle.elements.specs.declared.DataSpan.{DataSpan}
use Rattle.structs.specs.declared.answer.Element.{Element}
use Rattle.elements.specs.Plain.{plain_of}
use Rattle.frame_bytes.specs.Frame.{part}
use Rattle.structs.specs.Flat.{flat_element}
use Rattle.spellings.specs.Draws.{is_line}
use Rattle.spellings.specs.Due.{element_due}
use Rattle.spellings.specs.Spelled.{bytes_in, spell}
use Rattle.spellings.specs.Writable.{writable}
use Rattle.writing_templates.specs.Fill.{fill}
use Rattle.writing_templates.specs.Template.{template, which_of}
use Rattle.writing_element.specs.Write.{which_at, can_write, span_at, flat_due}
use Rattle.writing_templates.proofs.SpellLaws.{command_is}
use Rattle.writing_limits.proofs.FineLaws.{low_is, writable_is}

bytes_are : (s : List ℕ) (e : LabelElement) → part s (span_at (flat_element e)) ≡ bytes_in s (plain_of e).«data»
bytes_are s (element.Text e) = refl
bytes_are s (element.GraphicBox e) = refl
bytes_are s (element.DiagonalLine e) = refl
bytes_are s (element.GraphicField e) = refl
bytes_are s (element.Barcode128 e) = refl
bytes_are s (element.BarcodeEan13 e) = refl
bytes_are s (element.BarcodeEan8 e) = refl
bytes_are s (element.BarcodeUca e) = refl
bytes_are s (element.Barcode2of5 e) = refl
bytes_are s (element.Barcode39 e) = refl
bytes_are s (element.BarcodePdf417 e) = refl
bytes_are s (element.BarcodeAztec e) = refl
bytes_are s (element.BarcodeDatamatrix e) = refl
bytes_are s (element.BarcodeQr e) = refl
bytes_are s (element.Maxicode e) = refl
bytes_are s (element.BarcodeUcpe e) = refl

which_is : (e : LabelElement) → which_at (flat_element e) ≡ which_of (flat_element e)
unfolding is_line
which_is (element.Text e) = refl
which_is (element.GraphicBox e) = rw (low_is e.width 1, low_is e.height 1) refl
which_is (element.DiagonalLine e) = refl
which_is (element.GraphicField e) = refl
which_is (element.Barcode128 e) = refl
which_is (element.BarcodeEan13 e) = refl
which_is (element.BarcodeEan8 e) = refl
which_is (element.BarcodeUca e) = refl
which_is (element.Barcode2of5 e) = refl
which_is (element.Barcode39 e) = refl
which_is (element.BarcodePdf417 e) = refl
which_is (element.BarcodeAztec e) = refl
which_is (element.BarcodeDatamatrix e) = refl
which_is (element.BarcodeQr e) = refl
which_is (element.Maxicode e) = refl
which_is (element.BarcodeUcpe e) = refl

can_is : (s : List ℕ) (e : LabelElement) → can_write (length s) (flat_element e) (part s (span_at (flat_element e))) ≡ writable s e
can_is s e = ap (can_write (length s) (flat_element e)) (bytes_are s e) ∙ writable_is s e

pub flat_due_lem : (s : List ℕ) (e : LabelElement) → flat_due s (flat_element e) ≡ element_due s e
unfolding element_due
flat_due_lem s e =
    test (ltb longest (length s))
    (λ l. simp l)
    (λ l. test (writable s e)
    (λ w.
    let k : fill (flat_element e) (part s (span_at (flat_element e))) (template (which_at (flat_element e))) ≡ spell s e =
    ap (λ (d : List ℕ). fill (flat_element e) d (template (which_at (flat_element e)))) (bytes_are s e)
    ∙ ap (λ (n : ℕ). fill (flat_element e) (bytes_in s (plain_of e).«data») (template n)) (which_is e)
    ∙ command_is s e (ltb-false longest (length s) l) w in
    simp (l, can_is s e ∙ w, w) (ap text k))
    (λ w. simp (l, can_is s e ∙ w, w)))

-- the three answers

pub due_long : (s : List ℕ) (e : Element) → longest < length s → flat_due s e ≡ denied 14 0
due_long s e h = simp (lt-ltb longest (length s) h)

pub due_bad : (s : List ℕ) (e : Element) → length s ≤ longest → can_write (length s) e (part s (span_at e)) ≡ false → flat_due s e ≡ denied 23 0
due_bad s e h w = simp (le-ltb longest (length s) h, w)

pub due_text : (s : List ℕ) (e : Element) → length s ≤ longest → can_write (length s) e (part s (span_at e)) ≡ true → flat_due s e ≡ text (fill e (part s (span_at e)) (template (which_at e)))
due_text s e h w = simp (le-ltb longest (length s) h, w)

-- what a buffer holds then

pub fills_due : {m l : List ℕ} {d b : Due} {g : Given} → d ≡ b → Fills m l b g → Fills m l d g
fills_due {m} {l} {d} {b} {g} e f = subst (λ (x : Due). Fills m l x g) (sym e) f

pub fills_short : (l t : List ℕ) (n : ℕ) → n ≡ length t → length l < n → Fills l l (text t) (refused 15 n)
fills_short l t n e h =
    let k = lt-ltb (length l) (length t) (omega arith) in
    record { answer = simp k (ap (refused 15) e); buffer = simp k }

pub fills_put : (l : List ℕ) {m t : List ℕ} {r : ℕ} (n : ℕ) → n ≡ length t → n ≤ length l → Put m l 0 t r → Fills m l (text t) (bytes n)
fills_put l {m} {t} {r} n e h p =
    let k = le-ltb (length l) (length t) (omega arith) in
    record { answer = simp k (ap bytes e); buffer = simp k p.wrote.is }

pub part_short : (s : List ℕ) (d : DataSpan) → length (part s d) ≤ length s
part_short s d = simp (length-take, length-drop) (omega arith)
