-- The type of `b`, as the reader tells it, by 01's list and by which of it is QR (`typed_2d`). Assumes nothing.
use mathlib.Core.Path.{◌≡◌, refl}
use mathlib.Core.Bool.{Bool, true, false}
use mathlib.Core.List.{List}
use Prim.Native.Nat.{ℕ}
use Rattle.text.specs.Ascii.{ascii}
use Rattle.text.specs.Fields.{same}
use Rattle.text.specs.Table.{any_of}
use Rattle.text.proofs.BoolLaws.{test}
use Rattle.text.proofs.FieldsLaws.{same_true}
use Rattle.barcodes_2d.specs.declared.barcode_2d.Symbology2d.{Symbology2d}
use Rattle.barcodes_2d.specs.declared.barcode_2d.Symbology2d.TheVariants.{Aztec, Datamatrix, Maxicode, Pdf417, Qr, Unlisted}
use Rattle.barcodes_2d.specs.Barcode2d.{types2d, symbology_of}

abbrev pub is_listed2d : Symbology2d → Bool
is_listed2d Aztec = true
is_listed2d Datamatrix = true
is_listed2d Maxicode = true
is_listed2d Pdf417 = true
is_listed2d Qr = true
is_listed2d Unlisted = false

abbrev pub is_qr : Symbology2d → Bool
is_qr Aztec = false
is_qr Datamatrix = false
is_qr Maxicode = false
is_qr Pdf417 = false
is_qr Qr = true
is_qr Unlisted = false

abbrev Typed : List ℕ → Type 0
Typed t = (is_listed2d (symbology_of t) ≡ any_of types2d t) × (is_qr (symbology_of t) ≡ same t (ascii "Q"))

-- of x, or of another text
or_else : (x t : List ℕ) → Typed x → (same t x ≡ false → Typed t) → Typed t
or_else x t h go = test (same t x) (λ e. rw (same_true t x e) h) go

pub typed_2d : (t : List ℕ) → Typed t
unfolding symbology_of
typed_2d t =
    or_else (ascii "A") t (refl, refl) λ h.
    or_else (ascii "D") t (refl, refl) λ i.
    or_else (ascii "M") t (refl, refl) λ j.
    or_else (ascii "P") t (refl, refl) λ k.
    or_else (ascii "Q") t (refl, refl) λ l.
    (simp (h, i, j, k, l), simp (h, i, j, k, l))
