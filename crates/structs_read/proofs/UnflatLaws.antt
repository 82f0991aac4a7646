-- A struct that an element has tells the element (`back`), so no two have the same, and it is told by what `element_of`
-- makes of it (`told`). Assumes nothing.
use mathlib.Core.Path.{◌≡◌, refl, sym, ap, ◌∙◌}
use mathlib.Core.Bool.{Bool, true, false}
use Prim.Native.Nat.{◌<◌}
use lib.IntN.{ℤ, pos}
use lib.Signed.{mag}
use mir.Syntax.{w32}
use mir.Val.{of_z, to_z}
use Rattle.numbers.specs.Int.{eq_z}
use Rattle.numbers.proofs.IntLaws.{back32}
use Rattle.elements.specs.declared.BarcodeMode.{BarcodeMode}
use Rattle.elements.specs.declared.BarcodeMode.TheVariants.{Ucc, Automatic, Ean}
use Rattle.elements.specs.declared.FieldOrientation.{FieldOrientation}
use Rattle.elements.specs.declared.FieldOrientation.TheVariants.{Normal, Rotated90, Rotated180, Rotated270}
use Rattle.elements.specs.declared.LabelElement.{LabelElement}
use Rattle.elements.specs.declared.LabelElement.TheVariants as element
use Rattle.elements.specs.declared.LineColor.{LineColor}
use Rattle.elements.specs.declared.LineColor.TheVariants.{Black, White, Xor}
use Rattle.elements.specs.declared.QrErrorCorrectionLevel.{QrErrorCorrectionLevel}
use Rattle.elements.specs.declared.QrErrorCorrectionLevel.TheVariants.{H, Q, M, L}
use Rattle.frame_bytes.specs.Frame as frame
use Rattle.structs.specs.declared.answer.Element.{Element}
use Rattle.structs.specs.Flat.{flat_element}
use Rattle.structs_read.specs.Unflat.{is_one, orientation_of, colour_of, mode_of, level_of, element_of, Stands}

-- numbers of 32 bits, compared by a call
pub equal_back : (a b : ℤ) → mag a < 2147483648 → mag b < 2147483648 → eq_z (to_z w32 (of_z w32 a)) (to_z w32 (of_z w32 b)) ≡ eq_z a b
equal_back a b h g = rw (back32 a h, back32 b g)

flag_back : (b : Bool) → is_one (frame.flag b) ≡ b
flag_back true = refl
flag_back false = refl

turn_back : (o : FieldOrientation) → orientation_of (frame.rotation o) ≡ o
turn_back Normal = refl
turn_back Rotated90 = refl
turn_back Rotated180 = refl
turn_back Rotated270 = refl

colour_back : (c : LineColor) → colour_of (frame.colour c) ≡ c
colour_back Black = refl
colour_back White = refl
colour_back Xor = refl

mode_back : (m : BarcodeMode) → mode_of (pos (frame.mode m)) ≡ m
mode_back Ucc = refl
mode_back Automatic = refl
mode_back Ean = refl

level_back : (l : QrErrorCorrectionLevel) → level_of (frame.level l) ≡ l
level_back H = refl
level_back Q = refl
level_back M = refl
level_back L = refl

pub back : (e : LabelElement) → element_of (flat_element e) ≡ e
back (element.Text e) = rw (turn_back e.font.rotation, flag_back e.reverse_print)
back (element.GraphicBox e) = rw (colour_back e.line_color)
back (element.DiagonalLine e) = rw (flag_back e.top_to_bottom)
back (element.GraphicField e) = refl
back (element.Barcode128 e) = rw (turn_back e.barcode.orientation, flag_back e.barcode.line, mode_back e.barcode.mode)
back (element.BarcodeEan13 e) = rw (turn_back e.barcode.orientation, flag_back e.barcode.line)
back (element.BarcodeEan8 e) = rw (turn_back e.barcode.orientation, flag_back e.barcode.line)
back (element.BarcodeUca e) = rw (turn_back e.barcode.orientation, flag_back e.barcode.line)
back (element.Barcode2of5 e) = rw (turn_back e.barcode.orientation, flag_back e.barcode.line, flag_back e.barcode.check_digit)
back (element.Barcode39 e) = rw (turn_back e.barcode.orientation, flag_back e.barcode.line, flag_back e.barcode.check_digit)
back (element.BarcodePdf417 e) = rw (turn_back e.barcode.orientation, flag_back e.barcode.truncate)
back (element.BarcodeAztec e) = refl
back (element.BarcodeDatamatrix e) = refl
back (element.BarcodeQr e) = rw (level_back e.error_correction)
back (element.Maxicode e) = refl
back (element.BarcodeUcpe e) = rw (turn_back e.barcode.orientation, flag_back e.barcode.line)

-- where some element has the struct x, it is `element_of x`
pub told : (x : Element) (e : LabelElement) → Stands x e → (element_of x ≡ e) × Stands x (element_of x)
told x e h = let k : element_of x ≡ e = ap element_of (sym h) ∙ back e in (k, ap flat_element k ∙ h)
