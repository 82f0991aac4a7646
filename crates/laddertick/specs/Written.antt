-- 01, "Writing EPL": files of one label with the label as `write_label` writes it, character by character, or its
-- refusal; then structs as a host makes them. No two numbers of a row are the same where its sentence lets them
-- differ. `written` (proofs/Written.antt): every row holds.
use Rattle.std.specs.Prelude.{◌≡◌, List, [], ◌∷◌, map, ℕ, ℤ, pos, negsuc, length}
use Prim.Native.String.{String}
use Rattle.std.specs.Float.{binary64}
use Rattle.std.specs.Float.Ieee.{of_int}
use Rattle.text.specs.Ascii.{ascii, spelt}
use Rattle.elements.specs.declared.LabelPosition.{LabelPosition}
use Rattle.elements.specs.declared.PrintCounts.{PrintCounts}
use Rattle.elements.specs.Given.{Due, text, denied, fitting}
use Rattle.walk_theory.specs.Index.{opens, denies}
use Rattle.grammar.specs.Epl.{origin}
use Rattle.where_label.specs.Found.{ElementOpening, opening_of}
use Rattle.structs.specs.declared.answer.Element.{Element}
use Rattle.structs.specs.Fields.{saying, rotation, reverse, colour, font, horizontal, vertical, mode, bytes_a_row}
use Rattle.structs.specs.Fields.{height_of_text, width_of_text}
use Rattle.structs.specs.Flat.{drawn, flat_element}
use Rattle.writing_element.specs.Plain.{plain_due}
use Rattle.writing_label.specs.Label.{plain_label_due}

-- what `write_label` is due for an opened label: its elements as structs, its counts, and the file that they lie in
abbrev pub opened_due : List ℕ → ElementOpening → Due
opened_due s (opens f) = plain_label_due s (map flat_element f.frames) f.says
opened_due s (denies k p) = denied k p

-- the same of a file, opened by an entry from its first byte to its last
abbrev pub again_due : List ℕ → Due
again_due s =
    opened_due s (opening_of s (record { first = 0; last = length s; count = 1; reference = origin } ∷ []) 0)

-- a file and what `write_label` is due for its label, whatever the buffer, and with a buffer of so many bytes; an input
-- and a struct, with what `write_plain` is due; an input, structs and counts, with what `write_label` is due
pub data Row : Type 0 where
  again : List ℕ → Due → Row
  again_in : ℕ → List ℕ → Due → Row
  alone : List ℕ → Element → Due → Row
  label : List ℕ → List Element → PrintCounts → Due → Row

abbrev pub Holds : List Row → Type 0
Holds [] = Unit
Holds (again s d ∷ rs) = (again_due s ≡ d) × Holds rs
Holds (again_in m s d ∷ rs) = (fitting (again_due s) m ≡ d) × Holds rs
Holds (alone s x d ∷ rs) = (plain_due s x ≡ d) × Holds rs
Holds (label s xs q d ∷ rs) = (plain_label_due s xs q ≡ d) × Holds rs

-- How the rows are written: a command at the reference 100,200, printed in 11 sets of 12 copies, and the command that
-- is written for its element
abbrev one : String → String → Row
one c w =
    again (spelt "R100,200\n" (spelt c (ascii "\nP11,12\n"))) (text (spelt "N\n" (spelt w (ascii "\nP11,12\n"))))

-- a file and its label as it is written; a file and the number of the element that no line yields
abbrev file : String → String → Row
file s t = again (ascii s) (text (ascii t))

abbrev unwritten : String → ℕ → Row
unwritten s k = again (ascii s) (denied 23 k)

-- a box, a text in font 3, a MaxiCode, a graphic with two bytes a row, each at 11,-22, and counts
abbrev here : LabelPosition
here = record { x = pos 11; y = negsuc 21 }

abbrev box : ℤ → ℤ → ℤ → ℕ → Element
box width height thickness black = drawn 2 here width height thickness colour black

abbrev words : ℕ → ℕ → ℕ → Element
words start n red =
    saying 1 here (record { start = start; len = n }) ((rotation, 2) ∷ (reverse, 1) ∷ (colour, red) ∷ [])
    ((font, pos 3) ∷ (horizontal, pos 4) ∷ (vertical, pos 5) ∷ [])
    ((height_of_text, of_int binary64 (pos 100)) ∷ (width_of_text, of_int binary64 (pos 48)) ∷ [])

abbrev code : ℕ → ℕ → Element
code start n = saying 15 here (record { start = start; len = n }) [] ((mode, pos 6) ∷ []) []

abbrev dots : ℕ → ℕ → Element
dots start n = saying 4 here (record { start = start; len = n }) [] ((bytes_a_row, pos 2) ∷ []) []

abbrev counts : ℤ → ℤ → PrintCounts
counts sets copies = record { sets = sets; copies = copies }

abbrev pub table : List Row
table =
    -- 01 text: `R`, and `N` for what is none; every field, also one that has its default
    one "A1,2,3,4,5,6,R\"x\"" "A101,202,3,4,5,6,R,\"x\""
    ∷ one "A1,2,3,4,5,6,r\"x\"" "A101,202,3,4,5,6,N,\"x\""
    ∷ one "A,,,,,,N\"x\"" "A100,200,0,1,1,1,N,\"x\""
    -- 02 box: "A black box is written as `LO` where its thickness is the smaller side and both sides are at least 1"
    ∷ one "LO1,2,9,4" "LO101,202,9,4"
    ∷ one "LO1,2,1,9" "LO101,202,1,9"
    ∷ one "LO1,2,9,1" "LO101,202,9,1"
    ∷ one "LO1,2,5,5" "LO101,202,5,5"
    ∷ one "X1,2,3,4,9" "LO101,202,3,7"
    ∷ one "X10,6,4,1,2" "LO101,202,9,4"
    -- ".. else as `X`": a thickness below both sides, between them, the larger, above both; a side of 0
    ∷ one "X14,25,3,1,2" "X101,202,3,114,225"
    ∷ one "X1,2,5,4,9" "X101,202,5,104,209"
    ∷ one "X1,2,7,4,9" "X101,202,7,104,209"
    ∷ one "X1,2,8,4,9" "X101,202,8,104,209"
    ∷ one "X1,2,3,4,2" "X101,202,3,104,202"
    ∷ one "X1,2,3,1,5" "X101,202,3,101,205"
    -- "white and exclusive-OR boxes are `LW` and `LE`"
    ∷ one "LW1,2,9,4" "LW101,202,9,4"
    ∷ one "LE1,2,4,9" "LE101,202,4,9"
    -- 03 diagonal: direction 1 from either end, both sides 0, direction 0 from either end, one side 0
    ∷ one "LS1,2,3,14,25" "LS101,202,3,114,225"
    ∷ one "LS14,25,3,1,2" "LS101,202,3,114,225"
    ∷ one "LS1,2,3,1,2" "LS101,202,3,101,202"
    ∷ one "LS14,2,3,1,25" "LS101,225,3,114,202"
    ∷ one "LS1,25,3,14,2" "LS101,225,3,114,202"
    ∷ one "LS1,2,3,1,25" "LS101,225,3,101,202"
    -- 04 graphic: row bytes, lines, its bytes, "every command and block followed by LF"; no bytes
    ∷ one "GW1,2,3,4,ab\ndéfghi\0kl" "GW101,202,3,4,ab\ndéfghi\0kl"
    ∷ one "GW1,2,0,9," "GW101,202,0,0,"
    ∷ one "GW1,2,9,0," "GW101,202,9,0,"
    -- 05 Code 128: Ucc, "in mode Automatic is written with type 1", Ean; it has no wide bar, and 2 stands there
    ∷ one "B1,2,3,0,4,9,5,B\"x\"" "B101,202,3,0,4,2,5,B,\"x\""
    ∷ one "B1,2,3,1,4,9,5,N\"x\"" "B101,202,3,1,4,2,5,N,\"x\""
    ∷ one "B1,2,3,1,2,9,5,N\"x\"" "B101,202,3,1,2,2,5,N,\"x\""
    ∷ one "B1,2,3,1A,4,9,5,B\"x\"" "B101,202,3,1,4,2,5,B,\"x\""
    ∷ one "B1,2,3,1B,4,9,5,B\"x\"" "B101,202,3,1,4,2,5,B,\"x\""
    ∷ one "B1,2,3,1C,4,9,5,B\"x\"" "B101,202,3,1,4,2,5,B,\"x\""
    ∷ one "B1,2,3,1E,4,9,5,B\"x\"" "B101,202,3,1E,4,2,5,B,\"x\""
    -- 06 EAN-13, 07 EAN-8, 08 UPC-A, 10 UPC-E
    ∷ one "B1,2,3,E30,4,9,5,B\"x\"" "B101,202,3,E30,4,2,5,B,\"x\""
    ∷ one "B1,2,3,E80,4,9,5,N\"x\"" "B101,202,3,E80,4,2,5,N,\"x\""
    ∷ one "B1,2,3,UA0,4,9,5,B\"x\"" "B101,202,3,UA0,4,2,5,B,\"x\""
    ∷ one "B1,2,3,UE0,4,9,5,N\"x\"" "B101,202,3,UE0,4,2,5,N,\"x\""
    -- 09 2 of 5, 0a Code 39: without check and with; the wide bar that was read, also below the ratio's floor
    ∷ one "B1,2,3,2,4,14,5,B\"x\"" "B101,202,3,2,4,14,5,B,\"x\""
    ∷ one "B1,2,3,2C,4,14,5,N\"x\"" "B101,202,3,2C,4,14,5,N,\"x\""
    ∷ one "B1,2,3,2D,4,14,5,N\"x\"" "B101,202,3,2C,4,14,5,N,\"x\""
    ∷ one "B1,2,0,3,4,-7,5,N\"x\"" "B101,202,0,3,4,-7,5,N,\"x\""
    ∷ one "B1,2,0,3C,4,14,5,B\"x\"" "B101,202,0,3C,4,14,5,B,\"x\""
    -- 0b PDF417 with a security level and with none
    ∷ one "b1,2,P,s4,t1,r6,l5,y17,x8,o3\"x\"" "b101,202,P,o3,x8,y17,l5,r6,t1,s4,\"x\""
    ∷ one "b1,2,P,r6,l5,y17,x8,o3\"x\"" "b101,202,P,o3,x8,y17,l5,r6,t0,\"x\""
    -- 0c Aztec, 0d Data Matrix, 0e QR, 0f MaxiCode, with the mode that its data gives too
    ∷ one "b1,2,A,e15,d4\"x\"" "b101,202,A,d4,e15,\"x\""
    ∷ one "b1,2,D,r6,c5,h4\"x\"" "b101,202,D,h4,c5,r6,\"x\""
    ∷ one "b1,2,Q,eH,s4\"x\"" "b101,202,Q,s4,eH,\"x\""
    ∷ one "b1,2,Q\"x\"" "b101,202,Q,s3,eM,\"x\""
    ∷ one "b1,2,M,m6\"x\"" "b101,202,M,m6,\"x\""
    ∷ one "b1,2,M\"x\"" "b101,202,M,m4,\"x\""
    -- "data compared by bytes": hexadecimal e9 alone and c3 a9, as they stand in the file; a quote inside
    ∷ one "A1,2,3,4,5,6,R\"éÃ©\"" "A101,202,3,4,5,6,R,\"éÃ©\""
    ∷ one "b1,2,M,m6\"a\"é\"" "b101,202,M,m6,\"a\"é\""
    -- "from a label, `N`, its elements and its print line": in file order, without what no label has; counts that a
    -- print line leaves out are 1
    ∷ file "LO7,8,9,4\nN\n;remark\nR10,20\nLW1,2,3,5\nGW3,4,1,2,a\nX5,6,7,8,9\nP\n"
    "N\nLW11,22,3,5\nGW13,24,1,2,a\n\nX15,26,7,18,29\nP1,1\n"
    ∷ file "LO1,2,9,4\nP0" "N\nLO1,2,9,4\nP0,1\n"
    -- "15 gives its length": 17 bytes
    ∷ again_in 16 (ascii "LO1,2,9,4\nP5,6") (denied 15 17)
    ∷ again_in 17 (ascii "LO1,2,9,4\nP5,6") (text (ascii "N\nLO1,2,9,4\nP5,6\n"))
    -- "23 .. a box for `X` whose far corner passes 32 bits", along x, along y, and of a diagonal; just within; `LO`
    -- spells no far corner
    ∷ unwritten "R2147483640,7\nX0,0,1,8,9\nP" 0
    ∷ unwritten "R7,2147483640\nX0,0,1,9,8\nP" 0
    ∷ unwritten "R2147483640\nLS0,0,1,8,9\nP" 0
    ∷ file "R2147483640\nX0,0,1,7,9\nP" "N\nX2147483640,0,1,2147483647,9\nP1,1\n"
    ∷ file "R2147483640\nLO0,0,8,9\nP" "N\nLO2147483640,0,8,9\nP1,1\n"
    -- "(place: its number in the label ..)", from 0; the first of two; ".. and comes before 15"
    ∷ unwritten "R2147483640\nLO0,0,8,9\nLO0,0,6,5\nX0,0,1,8,9\nP" 2
    ∷ unwritten "R2147483640\nLO0,0,8,9\nX0,0,1,8,9\nX0,0,1,8,9\nP" 1
    ∷ again_in 0 (ascii "R2147483640\nX0,0,1,8,9\nP") (denied 23 0)
    -- "From an element and the input that it lies in, write one command"
    ∷ alone (ascii "-abc-") (words 1 3 0) (text (ascii "A11,-22,2,3,4,5,R,\"abc\"\n"))
    ∷ alone (ascii "-abc-") (box (pos 30) (pos 40) (pos 5) 0) (text (ascii "X11,-22,5,41,18\n"))
    ∷ alone (ascii "-abcd-") (dots 1 4) (text (ascii "GW11,-22,2,2,abcd\n"))
    -- "23 (.. 0 if alone) .. a negative width"; a height; no thickness; a white box and an exclusive-OR one that no
    -- `LW` or `LE` draws
    ∷ alone [] (box (negsuc 29) (pos 40) (pos 5) 0) (denied 23 0)
    ∷ alone [] (box (pos 30) (negsuc 39) (pos 5) 0) (denied 23 0)
    ∷ alone [] (box (pos 30) (pos 40) (pos 0) 0) (denied 23 0)
    ∷ alone [] (box (pos 30) (pos 40) (pos 5) 1) (denied 23 0)
    ∷ alone [] (box (pos 30) (pos 40) (pos 5) 2) (denied 23 0)
    -- ".. or data outside the input": up to its last byte, one byte more; none; an LF
    ∷ alone (ascii "-abc-") (code 2 3) (text (ascii "b11,-22,M,m6,\"bc-\"\n"))
    ∷ alone (ascii "-abc-") (code 2 4) (denied 23 0)
    ∷ alone (ascii "-abc-") (code 6 0) (denied 23 0)
    ∷ alone (ascii "-abc-") (code 2 0) (denied 23 0)
    ∷ alone (ascii "-a\nc-") (code 1 3) (denied 23 0)
    -- a struct that no element has: a text with a colour
    ∷ alone (ascii "-abc-") (words 1 3 1) (denied 23 0)
    -- the same in a label, with its number there, before what is wrong with the label
    ∷ label (ascii "-abc-") (code 2 3 ∷ box (pos 4) (pos 9) (pos 4) 1 ∷ []) (counts (pos 5) (pos 6))
    (text (ascii "N\nb11,-22,M,m6,\"bc-\"\nLW11,-22,4,9\nP5,6\n"))
    ∷ label (ascii "-abc-") (code 2 3 ∷ code 2 4 ∷ code 1 3 ∷ []) (counts (pos 5) (pos 6)) (denied 23 1)
    ∷ label (ascii "-abc-") (code 2 3 ∷ code 2 4 ∷ code 1 3 ∷ []) (counts (negsuc 4) (pos 6)) (denied 23 1)
    -- "A label with no element .. or a negative count .. is 23 too, after its elements (place: its element count)"
    ∷ label (ascii "-abc-") [] (counts (pos 5) (pos 6)) (denied 23 0)
    ∷ label (ascii "-abc-") (code 2 3 ∷ code 1 3 ∷ []) (counts (negsuc 4) (pos 6)) (denied 23 2)
    ∷ label (ascii "-abc-") (code 2 3 ∷ code 1 3 ∷ []) (counts (pos 5) (negsuc 5)) (denied 23 2)
    ∷ []
