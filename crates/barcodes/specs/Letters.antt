-- Inner: how the reader tells a type, by the number of its letters. No claim rests on these: they are
-- proved to tell what `symbology_of` tells (`BarcodeLaws`).
use Rattle.std.specs.Prelude.{ℕ, true, false, cond, ◌&&◌, ◌||◌, eqb}
use Rattle.text.specs.Ascii.{letter}
use Rattle.elements.specs.declared.BarcodeMode.TheVariants.{Ucc, Automatic, Ean}
use Rattle.barcodes.specs.declared.barcode.Symbology.{Symbology}
use Rattle.barcodes.specs.declared.barcode.Symbology.TheVariants.{Code128, Interleaved, Code39, Ean13, Ean8}
use Rattle.barcodes.specs.declared.barcode.Symbology.TheVariants.{UpcA, UpcE, Unlisted}

-- types of one letter
unfoldable pub one_letter : ℕ → Symbology
one_letter a =
    cond (eqb a (letter "0")) (Code128 Ucc)
    (cond (eqb a (letter "1")) (Code128 Automatic)
    (cond (eqb a (letter "2")) (Interleaved false)
    (cond (eqb a (letter "3")) (Code39 false) Unlisted)))

-- types of two letters, the first of which is 1
unfoldable pub code128_letter : ℕ → Symbology
code128_letter b =
    cond (eqb b (letter "A") || eqb b (letter "B") || eqb b (letter "C")) (Code128 Automatic)
    (cond (eqb b (letter "E")) (Code128 Ean) Unlisted)

-- types of two letters
unfoldable pub two_letters : ℕ → ℕ → Symbology
two_letters a b =
    cond (eqb a (letter "1")) (code128_letter b)
    (cond (eqb a (letter "2") && (eqb b (letter "C") || eqb b (letter "D"))) (Interleaved true)
    (cond (eqb a (letter "3") && eqb b (letter "C")) (Code39 true) Unlisted))

-- types of three letters
unfoldable pub three_letters : ℕ → ℕ → ℕ → Symbology
three_letters a b c =
    cond (eqb a (letter "E") && eqb b (letter "3") && eqb c (letter "0")) Ean13
    (cond (eqb a (letter "E") && eqb b (letter "8") && eqb c (letter "0")) Ean8
    (cond (eqb a (letter "U") && eqb b (letter "A") && eqb c (letter "0")) UpcA
    (cond (eqb a (letter "U") && eqb b (letter "E") && eqb c (letter "0")) UpcE Unlisted)))
