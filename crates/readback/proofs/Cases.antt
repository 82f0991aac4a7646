-- One element of each kind as it is written, and the two boxes of the rule for `X` (01, "Writing EPL"), by computation.
-- No two numbers of an element are the same. The claims cite the table Written (crate `laddertick`), which says the
-- same from the characters of files. Assumes nothing.
use mathlib.Core.Path.{◌≡◌, refl}
use mathlib.Core.Bool.{true, false}
use mathlib.Core.List.{List, [], ◌∷◌}
use Prim.Native.Nat.{ℕ}
use lib.Ieee.{binary64, of_int}
use lib.IntN.{pos, negsuc}
use Rattle.text.specs.Ascii.{ascii, spelt}
use Rattle.elements.specs.declared.BarcodeMode.TheVariants.{Ucc, Automatic, Ean}
use Rattle.elements.specs.declared.FieldOrientation.TheVariants.{Normal, Rotated90, Rotated180, Rotated270}
use Rattle.elements.specs.declared.LabelElement.TheVariants as element
use Rattle.elements.specs.declared.LabelPosition.{LabelPosition}
use Rattle.elements.specs.declared.DataSpan.{DataSpan}
use Rattle.elements.specs.declared.LineColor.TheVariants.{Black, White, Xor}
use Rattle.elements.specs.declared.QrErrorCorrectionLevel.TheVariants.{H}
use Rattle.decimals.specs.Decimal.{digits, decimal}
use Rattle.spellings.specs.Draws.{numbers, is_line, is_cornered, spell_box, fine_box, spell_diagonal}
use Rattle.spellings.specs.Quoted.{quoted_line, numbers_then}
use Rattle.spellings.specs.Codes.{text_params, bar_params}
use Rattle.spellings.specs.Codes2d.{options, params2d, aztec_options, datamatrix_options, maxicode_options, pdf417_options, qr_options}
use Rattle.spellings.specs.Spelled.{graphic_line, spell, spell_label}
use Rattle.spellings.specs.Writable.{writable}

at : LabelPosition
at = record { x = pos 11; y = negsuc 21 }

input : List ℕ
input = ascii "-abc-"

here : DataSpan
here = record { start = 1; len = 3 }

-- data between quotes, LF
quoted : List ℕ
quoted = 34 ∷ 97 ∷ 98 ∷ 99 ∷ 34 ∷ 10 ∷ []

text : spell input (element.Text (record { position = at; reverse_print = true; scale = record { font = pos 3; horizontal = pos 4; vertical = pos 5 }; font = record { height = of_int binary64 (pos 60); width = of_int binary64 (pos 70); rotation = Rotated180 }; text = here })) ≡ spelt "A11,-22,2,3,4,5,R," quoted
unfolding at input here quoted quoted_line numbers_then decimal digits text_params
text = refl

black_line : spell input (element.GraphicBox (record { position = at; width = pos 30; height = pos 4; border_thickness = pos 4; line_color = Black })) ≡ spelt "LO11,-22,30,4" (10 ∷ [])
unfolding at input spell_box is_line numbers decimal digits
black_line = refl

white_line : spell input (element.GraphicBox (record { position = at; width = pos 4; height = pos 30; border_thickness = pos 4; line_color = White })) ≡ spelt "LW11,-22,4,30" (10 ∷ [])
unfolding at input spell_box is_line numbers decimal digits
white_line = refl

xor_line : spell input (element.GraphicBox (record { position = at; width = pos 7; height = pos 7; border_thickness = pos 7; line_color = Xor })) ≡ spelt "LE11,-22,7,7" (10 ∷ [])
unfolding at input spell_box is_line numbers decimal digits
xor_line = refl

frame : spell input (element.GraphicBox (record { position = at; width = pos 30; height = pos 40; border_thickness = pos 5; line_color = Black })) ≡ spelt "X11,-22,5,41,18" (10 ∷ [])
unfolding at input spell_box is_line numbers decimal digits
frame = refl

down : spell input (element.DiagonalLine (record { position = at; width = pos 30; height = pos 40; border_thickness = pos 5; top_to_bottom = true })) ≡ spelt "LS11,-22,5,41,18" (10 ∷ [])
unfolding at input spell_diagonal numbers decimal digits
down = refl

up : spell input (element.DiagonalLine (record { position = at; width = pos 30; height = pos 40; border_thickness = pos 5; top_to_bottom = false })) ≡ spelt "LS11,18,5,41,-22" (10 ∷ [])
unfolding at input spell_diagonal numbers decimal digits
up = refl

graphic : spell input (element.GraphicField (record { position = at; row_bytes = pos 2; «data» = record { start = 1; len = 4 } })) ≡ spelt "GW11,-22,2,2,abc-" (10 ∷ [])
unfolding at input graphic_line numbers_then decimal digits
graphic = refl

ucc : spell input (element.Barcode128 (record { barcode = record { orientation = Rotated90; height = pos 50; line = true; mode = Ucc }; width = pos 3; position = at; «data» = here })) ≡ spelt "B11,-22,1,0,3,2,50,B," quoted
unfolding at input here quoted quoted_line numbers_then decimal digits bar_params
ucc = refl

automatic : spell input (element.Barcode128 (record { barcode = record { orientation = Rotated90; height = pos 50; line = true; mode = Automatic }; width = pos 3; position = at; «data» = here })) ≡ spelt "B11,-22,1,1,3,2,50,B," quoted
unfolding at input here quoted quoted_line numbers_then decimal digits bar_params
automatic = refl

ean : spell input (element.Barcode128 (record { barcode = record { orientation = Rotated90; height = pos 50; line = true; mode = Ean }; width = pos 3; position = at; «data» = here })) ≡ spelt "B11,-22,1,1E,3,2,50,B," quoted
unfolding at input here quoted quoted_line numbers_then decimal digits bar_params
ean = refl

ean13 : spell input (element.BarcodeEan13 (record { barcode = record { orientation = Rotated270; height = pos 50; line = false }; width = pos 4; position = at; «data» = here })) ≡ spelt "B11,-22,3,E30,4,2,50,N," quoted
unfolding at input here quoted quoted_line numbers_then decimal digits bar_params
ean13 = refl

ean8 : spell input (element.BarcodeEan8 (record { barcode = record { orientation = Rotated270; height = pos 50; line = false }; width = pos 4; position = at; «data» = here })) ≡ spelt "B11,-22,3,E80,4,2,50,N," quoted
unfolding at input here quoted quoted_line numbers_then decimal digits bar_params
ean8 = refl

upca : spell input (element.BarcodeUca (record { barcode = record { orientation = Rotated270; height = pos 50; line = false }; width = pos 4; position = at; «data» = here })) ≡ spelt "B11,-22,3,UA0,4,2,50,N," quoted
unfolding at input here quoted quoted_line numbers_then decimal digits bar_params
upca = refl

upce : spell input (element.BarcodeUcpe (record { barcode = record { orientation = Rotated270; height = pos 50; line = false }; width = pos 4; position = at; «data» = here })) ≡ spelt "B11,-22,3,UE0,4,2,50,N," quoted
unfolding at input here quoted quoted_line numbers_then decimal digits bar_params
upce = refl

two_of_five : spell input (element.Barcode2of5 (record { barcode = record { orientation = Normal; height = pos 50; line = true; check_digit = false }; width = pos 4; wide = negsuc 6; width_ratio = of_int binary64 (pos 2); position = at; «data» = here })) ≡ spelt "B11,-22,0,2,4,-7,50,B," quoted
unfolding at input here quoted quoted_line numbers_then decimal digits bar_params
two_of_five = refl

two_of_five_check : spell input (element.Barcode2of5 (record { barcode = record { orientation = Normal; height = pos 50; line = true; check_digit = true }; width = pos 4; wide = negsuc 6; width_ratio = of_int binary64 (pos 2); position = at; «data» = here })) ≡ spelt "B11,-22,0,2C,4,-7,50,B," quoted
unfolding at input here quoted quoted_line numbers_then decimal digits bar_params
two_of_five_check = refl

code39 : spell input (element.Barcode39 (record { barcode = record { orientation = Normal; height = pos 50; line = true; check_digit = false }; width = pos 4; wide = negsuc 6; width_ratio = of_int binary64 (pos 2); position = at; «data» = here })) ≡ spelt "B11,-22,0,3,4,-7,50,B," quoted
unfolding at input here quoted quoted_line numbers_then decimal digits bar_params
code39 = refl

code39_check : spell input (element.Barcode39 (record { barcode = record { orientation = Normal; height = pos 50; line = true; check_digit = true }; width = pos 4; wide = negsuc 6; width_ratio = of_int binary64 (pos 2); position = at; «data» = here })) ≡ spelt "B11,-22,0,3C,4,-7,50,B," quoted
unfolding at input here quoted quoted_line numbers_then decimal digits bar_params
code39_check = refl

pdf417 : spell input (element.BarcodePdf417 (record { barcode = record { orientation = Rotated90; row_height = pos 24; security = negsuc 0; columns = pos 5; rows = pos 6; truncate = true; module_width = pos 8 }; position = at; «data» = here })) ≡ spelt "b11,-22,P,o1,x8,y24,l5,r6,t1," quoted
unfolding at input here quoted quoted_line numbers_then decimal digits params2d options pdf417_options
pdf417 = refl

pdf417_secure : spell input (element.BarcodePdf417 (record { barcode = record { orientation = Rotated90; row_height = pos 24; security = pos 7; columns = pos 5; rows = pos 6; truncate = true; module_width = pos 8 }; position = at; «data» = here })) ≡ spelt "b11,-22,P,o1,x8,y24,l5,r6,t1,s7," quoted
unfolding at input here quoted quoted_line numbers_then decimal digits params2d options pdf417_options
pdf417_secure = refl

aztec : spell input (element.BarcodeAztec (record { barcode = record { magnification = pos 9; size = pos 201 }; position = at; «data» = here })) ≡ spelt "b11,-22,A,d9,e201," quoted
unfolding at input here quoted quoted_line numbers_then decimal digits params2d options aztec_options
aztec = refl

datamatrix : spell input (element.BarcodeDatamatrix (record { barcode = record { height = pos 9; columns = pos 5; rows = pos 6 }; position = at; «data» = here })) ≡ spelt "b11,-22,D,h9,c5,r6," quoted
unfolding at input here quoted quoted_line numbers_then decimal digits params2d options datamatrix_options
datamatrix = refl

qr : spell input (element.BarcodeQr (record { barcode = record { magnification = pos 9 }; error_correction = H; position = at; «data» = here })) ≡ spelt "b11,-22,Q,s9,eH," quoted
unfolding at input here quoted quoted_line numbers_then decimal digits params2d options qr_options
qr = refl

maxicode : spell input (element.Maxicode (record { code = record { mode = pos 4 }; position = at; «data» = here })) ≡ spelt "b11,-22,M,m4," quoted
unfolding at input here quoted quoted_line numbers_then decimal digits params2d options maxicode_options
maxicode = refl

-- `N`, a box, sets and copies
label : spell_label input (element.GraphicBox (record { position = at; width = pos 30; height = pos 4; border_thickness = pos 4; line_color = Black }) ∷ []) (record { sets = pos 2; copies = pos 3 }) ≡ 78 ∷ 10 ∷ spelt "LO11,-22,30,4" (10 ∷ spelt "P2,3" (10 ∷ []))
unfolding at input spell_label spell_box is_line numbers decimal digits
label = refl

-- `R2147483647`, `X0,0,1,5,5` prints a box whose far corner passes 32 bits; that of `LO0,0,5,5` is a line
beyond : writable [] (element.GraphicBox (record { position = record { x = pos 2147483647; y = pos 0 }; width = pos 5; height = pos 5; border_thickness = pos 1; line_color = Black })) ≡ false
unfolding writable fine_box is_line is_cornered
beyond = refl

line_beyond : writable [] (element.GraphicBox (record { position = record { x = pos 2147483647; y = pos 0 }; width = pos 5; height = pos 5; border_thickness = pos 5; line_color = Black })) ≡ true
unfolding writable fine_box is_line
line_beyond = refl
