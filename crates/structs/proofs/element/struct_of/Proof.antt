-- `structs::element::struct_of` meets its contract: each kind by its own. Assumes nothing.
use borrow.Author.Rules.{rules}
use Rattle.structs.proofs.element.struct_of.Statement.{statement}
use Rattle.structs.proofs.element.struct_of.Tie as tie

returns : tie.Need-returns-in-Text
returns c = rw c.in-Text.is c.text_field.ensures

returns-2 : tie.Need-returns-in-GraphicBox
returns-2 c = rw c.in-GraphicBox.is c.graphic_box.ensures

returns-3 : tie.Need-returns-in-DiagonalLine
returns-3 c = rw c.in-DiagonalLine.is c.diagonal.ensures

returns-4 : tie.Need-returns-in-GraphicField
returns-4 c = rw c.in-GraphicField.is c.graphic_field.ensures

returns-5 : tie.Need-returns-in-Barcode128
returns-5 c = rw c.in-Barcode128.is c.code_128.ensures

returns-6 : tie.Need-returns-in-BarcodeEan13
returns-6 c = rw c.in-BarcodeEan13.is c.ean13.ensures

returns-7 : tie.Need-returns-in-BarcodeEan8
returns-7 c = rw c.in-BarcodeEan8.is c.ean8.ensures

returns-8 : tie.Need-returns-in-BarcodeUca
returns-8 c = rw c.in-BarcodeUca.is c.upca.ensures

returns-9 : tie.Need-returns-in-Barcode2of5
returns-9 c = rw c.in-Barcode2of5.is c.interleaved.ensures

returns-10 : tie.Need-returns-in-Barcode39
returns-10 c = rw c.in-Barcode39.is c.code_39.ensures

returns-11 : tie.Need-returns-in-BarcodePdf417
returns-11 c = rw c.in-BarcodePdf417.is c.pdf417.ensures

returns-12 : tie.Need-returns-in-BarcodeAztec
returns-12 c = rw c.in-BarcodeAztec.is c.aztec.ensures

returns-13 : tie.Need-returns-in-BarcodeDatamatrix
returns-13 c = rw c.in-BarcodeDatamatrix.is c.datamatrix.ensures

returns-14 : tie.Need-returns-in-BarcodeQr
returns-14 c = rw c.in-BarcodeQr.is c.qr.ensures

returns-15 : tie.Need-returns-in-Maxicode
returns-15 c = rw c.in-Maxicode.is c.maxicode.ensures

returns-16 : tie.Need-returns-in-BarcodeUcpe
returns-16 c = rw c.in-BarcodeUcpe.is c.upce.ensures

pub struct_of_spec : {M : Type 1} → statement M
struct_of_spec =
    tie.close
    (tie.spec
    (λ c. search rules)
    (λ c κs. search rules)
    (λ c. search rules)
    (λ c κs. search rules)
    (λ c. search rules)
    (λ c κs. search rules)
    (λ c. search rules)
    (λ c κs. search rules)
    (λ c. search rules)
    (λ c κs. search rules)
    (λ c. search rules)
    (λ c κs. search rules)
    (λ c. search rules)
    (λ c κs. search rules)
    (λ c. search rules)
    (λ c κs. search rules)
    (λ c. search rules)
    (λ c κs. search rules)
    (λ c. search rules)
    (λ c κs. search rules)
    (λ c. search rules)
    (λ c κs. search rules)
    (λ c. search rules)
    (λ c κs. search rules)
    (λ c. search rules)
    (λ c κs. search rules)
    (λ c. search rules)
    (λ c κs. search rules)
    (λ c. search rules)
    (λ c κs. search rules)
    (λ c. search rules)
    (λ c κs. search rules)
    returns
    returns-2
    returns-3
    returns-4
    returns-5
    returns-6
    returns-7
    returns-8
    returns-9
    returns-10
    returns-11
    returns-12
    returns-13
    returns-14
    returns-15
    returns-16)
