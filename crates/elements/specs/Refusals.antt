-- The number of each refusal (01, "Who causes which number").
use Rattle.std.specs.Prelude.{ℕ}
use Rattle.elements.specs.declared.refusal.Refusal.{Refusal}
use Rattle.elements.specs.declared.refusal.Refusal.TheVariants.{TextFields, BarcodeFields, Barcode2dFields}
use Rattle.elements.specs.declared.refusal.Refusal.TheVariants.{LineFields, DiagonalFields, BoxFields}
use Rattle.elements.specs.declared.refusal.Refusal.TheVariants.{BarcodeType, Barcode2dType, QrData}
use Rattle.elements.specs.declared.refusal.Refusal.TheVariants.{GraphicFields, GraphicNegative, GraphicTruncated}
use Rattle.elements.specs.declared.refusal.Refusal.TheVariants.{OutOfRange, InputTooLong, OutputTooShort}
use Rattle.elements.specs.declared.refusal.Refusal.TheVariants.{StateOutside, NoValue, OutsideProfile}
use Rattle.elements.specs.declared.refusal.Refusal.TheVariants.{SizeOutside, TooManyLabels, NoSuchLabel}
use Rattle.elements.specs.declared.refusal.Refusal.TheVariants.{RectangleTurned, NotReadable, GraphicInLabel}
use Rattle.elements.specs.declared.refusal.Refusal.TheVariants.{JoinedTooLong}

abbrev pub number_of : Refusal → ℕ
-- 1 `A`, 2 `B`, 3 `b`, 4 `LO`/`LW`/`LE`, 5 `LS`, 6 `X` with too few fields
number_of TextFields = 1
number_of BarcodeFields = 2
number_of Barcode2dFields = 3
number_of LineFields = 4
number_of DiagonalFields = 5
number_of BoxFields = 6
-- 7 type of `B`; 8 type of `b`; 9 QR data over 9,999 bytes
number_of BarcodeType = 7
number_of Barcode2dType = 8
number_of QrData = 9
-- 10 fewer than four commas, 11 negative, 12 payload passes the end
number_of GraphicFields = 10
number_of GraphicNegative = 11
number_of GraphicTruncated = 12
-- 13 a sum with the reference outside 32 bits
number_of OutOfRange = 13
-- 14 input over 16,777,216 bytes; 15 output longer than its buffer; 16 walk state with its place past the end, or its
-- pending count above its place
number_of InputTooLong = 14
number_of OutputTooShort = 15
number_of StateOutside = 16
-- 17 a field with no value, 18 a value outside the well-site profile: by the strict reading alone
number_of NoValue = 17
number_of OutsideProfile = 18
-- 19 a difference, its absolute value or a font product outside 32 bits
number_of SizeOutside = 19
-- 20 more labels than entries; 21 an entry number past the last label, or an entry that yields none
number_of TooManyLabels = 20
number_of NoSuchLabel = 21
-- 22 a rectangle whose far corner is below its near one on either axis
number_of RectangleTurned = 22
-- 23 an element, or a label, that no file yields
number_of NotReadable = 23
-- 24 a label with a graphic
number_of GraphicInLabel = 24
-- 25 a joined text over 16,777,216 bytes
number_of JoinedTooLong = 25
