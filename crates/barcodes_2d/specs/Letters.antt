-- Inner: how the reader tells a type. No claim rests on this: `symbology_of` is proved to be it (`Barcode2dLaws`).
use Rattle.std.specs.Prelude.{ℕ, cond, eqb}
use Rattle.text.specs.Ascii.{letter}
use Rattle.barcodes_2d.specs.declared.barcode_2d.Symbology2d.{Symbology2d}
use Rattle.barcodes_2d.specs.declared.barcode_2d.Symbology2d.TheVariants.{Aztec, Datamatrix, Maxicode, Pdf417}
use Rattle.barcodes_2d.specs.declared.barcode_2d.Symbology2d.TheVariants.{Qr, Unlisted}

-- types of one letter
unfoldable pub letter_of : ℕ → Symbology2d
letter_of a =
    cond (eqb a (letter "A")) Aztec
    (cond (eqb a (letter "D")) Datamatrix
    (cond (eqb a (letter "M")) Maxicode
    (cond (eqb a (letter "P")) Pdf417
    (cond (eqb a (letter "Q")) Qr Unlisted))))
