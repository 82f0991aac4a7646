-- In an element's struct a field that its kind does not name is 0 (`zeroed`). Assumes nothing.
use mathlib.Core.Path.{◌≡◌, refl}
use Rattle.elements.specs.declared.LabelElement.{LabelElement}
use Rattle.elements.specs.declared.LabelElement.TheVariants as kind
use Rattle.structs.specs.Flat.{flat_element}
use Rattle.laddertick.specs.Zeroed.{of_its_kind}

pub zeroed : (e : LabelElement) → flat_element e ≡ of_its_kind (flat_element e)
zeroed (kind.Text e) = refl
zeroed (kind.GraphicBox e) = refl
zeroed (kind.DiagonalLine e) = refl
zeroed (kind.GraphicField e) = refl
zeroed (kind.Barcode128 e) = refl
zeroed (kind.BarcodeEan13 e) = refl
zeroed (kind.BarcodeEan8 e) = refl
zeroed (kind.BarcodeUca e) = refl
zeroed (kind.Barcode2of5 e) = refl
zeroed (kind.Barcode39 e) = refl
zeroed (kind.BarcodePdf417 e) = refl
zeroed (kind.BarcodeAztec e) = refl
zeroed (kind.BarcodeDatamatrix e) = refl
zeroed (kind.BarcodeQr e) = refl
zeroed (kind.Maxicode e) = refl
zeroed (kind.BarcodeUcpe e) = refl
