-- Texts and bar codes as they are written (01, "Writing EPL"): their parameters.
use Rattle.std.specs.Prelude.{Bool, true, false, cond, List, [], ◌∷◌, ℕ, ℤ, pos}
use Rattle.text.specs.Ascii.{ascii, letter}
use Rattle.elements.specs.declared.BarcodeMode.TheVariants.{Ucc, Automatic, Ean}
use Rattle.elements.specs.declared.FieldOrientation.{FieldOrientation}
use Rattle.elements.specs.declared.FieldOrientation.TheVariants.{Normal, Rotated90, Rotated180, Rotated270}
use Rattle.elements.specs.declared.FontScale.{FontScale}
use Rattle.elements.specs.declared.LabelPosition.{LabelPosition}
use Rattle.elements.specs.declared.plain.Bars.{Bars}
use Rattle.barcodes.specs.declared.barcode.Symbology.{Symbology}
use Rattle.barcodes.specs.declared.barcode.Symbology.TheVariants.{Code128, Interleaved, Code39, Ean13, Ean8}
use Rattle.barcodes.specs.declared.barcode.Symbology.TheVariants.{UpcA, UpcE, Unlisted}
use Rattle.decimals.specs.Joined.{closed}
use Rattle.spellings.specs.Quoted.{numbers_then}

-- quarter turns
abbrev pub turns : FieldOrientation → ℤ
turns Normal = pos 0
turns Rotated90 = pos 1
turns Rotated180 = pos 2
turns Rotated270 = pos 3

-- one letter where a flag is 1, another where it is not
abbrev pub flagged : Bool → ℕ → ℕ → List ℕ
flagged f a b = cond f a b ∷ []

-- `A`: x, y, rotation, font, horizontal multiplier, vertical multiplier, `R` or `N`
unfoldable pub text_params : LabelPosition → FieldOrientation → FontScale → Bool → List ℕ
text_params p o f reverse =
    numbers_then (p.x ∷ p.y ∷ turns o ∷ f.font ∷ f.horizontal ∷ f.vertical ∷ [])
    (flagged reverse (letter "R") (letter "N"))

-- the type of `B`; "Code 128 in mode Automatic is written with type 1"; 2 of 5 and Code 39 with check end with `C`
abbrev pub type_of : Symbology → List ℕ
type_of (Code128 Ucc) = ascii "0"
type_of (Code128 Automatic) = ascii "1"
type_of (Code128 Ean) = ascii "1E"
type_of (Interleaved false) = ascii "2"
type_of (Interleaved true) = ascii "2C"
type_of (Code39 false) = ascii "3"
type_of (Code39 true) = ascii "3C"
type_of Ean13 = ascii "E30"
type_of Ean8 = ascii "E80"
type_of UpcA = ascii "UA0"
type_of UpcE = ascii "UE0"
type_of Unlisted = []

-- `B`: x, y, rotation, type, narrow bar, wide bar, bar height, `B` or `N`
unfoldable pub bar_params : LabelPosition → Bars → Symbology → ℤ → List ℕ
bar_params p b y wide =
    numbers_then (p.x ∷ p.y ∷ turns b.orientation ∷ [])
    (closed (type_of y)
    (numbers_then (b.narrow ∷ wide ∷ b.height ∷ []) (flagged b.line (letter "B") (letter "N"))))
