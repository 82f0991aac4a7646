-- A flat answer says what the library answered (`flat_refusal`, `flat_uncounted`, `flat_spotless`): no refusal has the
-- number 0. Assumes nothing.
use mathlib.Core.Path.{◌≡◌, refl, ap}
use mathlib.Core.Bool.{Bool, false, cond}
use lib.Dec.{eqb}
use Prim.Native.Nat.{ℕ}
use Rattle.elements.specs.declared.refusal.Refusal.{Refusal}
use Rattle.elements.specs.declared.refusal.Refusal.TheVariants.{TextFields, BarcodeFields, Barcode2dFields, LineFields, DiagonalFields, BoxFields, BarcodeType, Barcode2dType, QrData, GraphicFields, GraphicNegative, GraphicTruncated, OutOfRange, InputTooLong, OutputTooShort, StateOutside, NoValue, OutsideProfile, SizeOutside, TooManyLabels, NoSuchLabel, RectangleTurned, NotReadable, GraphicInLabel, JoinedTooLong}
use Rattle.elements.specs.Refusals.{number_of}
use Rattle.elements.specs.Given.{bytes, refused}
use Rattle.label_index.specs.Plan as index
use Rattle.label_index.specs.Plan.{counted}
use Rattle.where_element.specs.Found as spots
use Rattle.structs.specs.Written.{given_flat, counted_flat, spot_flat}

no_zero : (k : Refusal) → eqb (number_of k) 0 ≡ false
no_zero TextFields = refl
no_zero BarcodeFields = refl
no_zero Barcode2dFields = refl
no_zero LineFields = refl
no_zero DiagonalFields = refl
no_zero BoxFields = refl
no_zero BarcodeType = refl
no_zero Barcode2dType = refl
no_zero QrData = refl
no_zero GraphicFields = refl
no_zero GraphicNegative = refl
no_zero GraphicTruncated = refl
no_zero OutOfRange = refl
no_zero InputTooLong = refl
no_zero OutputTooShort = refl
no_zero StateOutside = refl
no_zero NoValue = refl
no_zero OutsideProfile = refl
no_zero SizeOutside = refl
no_zero TooManyLabels = refl
no_zero NoSuchLabel = refl
no_zero RectangleTurned = refl
no_zero NotReadable = refl
no_zero GraphicInLabel = refl
no_zero JoinedTooLong = refl

pub flat_refusal : (k : Refusal) (p : ℕ) → given_flat (record { number = number_of k; place = p }) ≡ refused (number_of k) p
flat_refusal k p = ap (λ (b : Bool). cond b (bytes p) (refused (number_of k) p)) (no_zero k)

pub flat_uncounted : (k : Refusal) (p : ℕ) → counted_flat (record { number = number_of k; place = p }) ≡ index.refused (number_of k) p
flat_uncounted k p = ap (λ (b : Bool). cond b (counted p) (index.refused (number_of k) p)) (no_zero k)

pub flat_spotless : (k : Refusal) (p : ℕ) → spot_flat (record { number = number_of k; place = p }) ≡ spots.refused (number_of k) p
flat_spotless k p = ap (λ (b : Bool). cond b (spots.element p) (spots.refused (number_of k) p)) (no_zero k)
