-- 01, "From 203 to 300 dots", on files with one label: its elements converted, or a refusal. `converted`
-- (proofs/Converted.antt): every row holds.
use Rattle.std.specs.Prelude.{List, [], ◌∷◌, ℕ, ℤ, pos, negsuc, length}
use Prim.Native.String.{String}
use Rattle.std.specs.Float.{binary64}
use Rattle.std.specs.Float.Ieee.{of_bits, of_int}
use Rattle.text.specs.Ascii.{ascii}
use Rattle.elements.specs.declared.DataSpan.{DataSpan}
use Rattle.elements.specs.declared.LabelPosition.{LabelPosition}
use Rattle.grammar.specs.Epl.{origin}
use Rattle.label_index.specs.declared.entry.LabelEntry.{LabelEntry}
use Rattle.structs.specs.declared.answer.Element.{Element}
use Rattle.structs.specs.Fields.{saying}
use Rattle.structs.specs.Fields.{rotation, reverse, colour, direction, line, check, truncate, level}
use Rattle.structs.specs.Fields.{width, height, security, columns, rows}
use Rattle.structs.specs.Fields.{magnification, size, mode, font, horizontal, vertical, wide}
use Rattle.structs.specs.Fields.{height_of_text, width_of_text, ratio}
use Rattle.structs.specs.Flat.{drawn}
use Rattle.dots.specs.declared.element.Element300.{Element300}
use Rattle.dots_label.specs.Conversion as due
use Rattle.dots_label.specs.Promise.{with_dots}
use Rattle.laddertick.specs.Table.{Case, converts}

-- How the rows are written: a flat element with its new lengths, read as one at 300 dots; a file of one label with its
-- sets, copies and elements, for a list of 9; and a file with its refusal, for the entry i of one and a list of m
abbrev at300 : Element → Element300
at300 e =
    with_dots e (record { 0 = e.x }) (record { 0 = e.y }) (record { 0 = e.width }) (record { 0 = e.height })
    (record { 0 = e.thickness })

abbrev each : List Element → List Element300
each [] = []
each (e ∷ es) = at300 e ∷ each es

abbrev entries : String → List LabelEntry
entries t = record { first = 0; last = length (ascii t); count = 1; reference = origin } ∷ []

abbrev turned : String → ℤ → ℤ → List Element → Case
turned t sets copies es = converts (ascii t) (entries t) 0 9
    (due.converts (record { sets = sets; copies = copies }) (each es))

abbrev untold : String → ℕ → ℕ → ℕ → ℕ → Case
untold t i m k p = converts (ascii t) (entries t) i m (due.denied k p)

abbrev point : ℤ → ℤ → LabelPosition
point x y = record { x = x; y = y }

abbrev span : ℕ → ℕ → DataSpan
span start n = record { start = start; len = n }

abbrev pub table : List Case
table =
    -- -1 becomes -1, and -2 becomes -3; sets and copies
    turned "LO-1,-2,7,5\nP2,3" (pos 2) (pos 3)
    (drawn 2 (point (negsuc 0) (negsuc 2)) (pos 10) (pos 7) (pos 7) colour 0 ∷ [])
    -- box and diagonal sizes and thickness
    ∷ turned "LE11,13,17,19\nP" (pos 1) (pos 1)
    (drawn 2 (point (pos 16) (pos 19)) (pos 25) (pos 28) (pos 25) colour 2 ∷ [])
    ∷ turned "LS14,2,3,1,25\nP" (pos 1) (pos 1)
    (drawn 3 (point (pos 1) (pos 3)) (pos 19) (pos 34) (pos 4) direction 0 ∷ [])
    ∷ turned "X14,25,3,1,2\nP" (pos 1) (pos 1) (drawn 2 (point (pos 1) (pos 3)) (pos 19) (pos 34) (pos 4) colour 0 ∷ [])
    -- a text keeps its font, multipliers and sizes
    ∷ turned "A10,20,1,3,4,2,R,\"ab\"\nP" (pos 1) (pos 1)
    (saying 1 (point (pos 15) (pos 30)) (span 18 2) ((rotation, 1) ∷ (reverse, 1) ∷ [])
    ((font, pos 3) ∷ (horizontal, pos 4) ∷ (vertical, pos 2) ∷ [])
    ((height_of_text, of_int binary64 (pos 40)) ∷ (width_of_text, of_int binary64 (pos 48)) ∷ []) ∷ [])
    -- bar height; narrow and wide bars and the ratio stay
    ∷ turned "B11,22,3,1,2,5,30,B,\"cd\"\nP" (pos 1) (pos 1)
    (saying 5 (point (pos 16) (pos 33)) (span 21 2) ((rotation, 3) ∷ (line, 1) ∷ [])
    ((width, pos 2) ∷ (height, pos 44) ∷ (mode, pos 2) ∷ []) [] ∷ [])
    ∷ turned "B1,2,0,E30,4,5,6,N,\"x\"\nP" (pos 1) (pos 1)
    (saying 6 (point (pos 1) (pos 3)) (span 20 1) ((rotation, 0) ∷ (line, 0) ∷ [])
    ((width, pos 4) ∷ (height, pos 9) ∷ []) [] ∷ [])
    ∷ turned "B1,2,0,E80,4,5,6,N,\"x\"\nP" (pos 1) (pos 1)
    (saying 7 (point (pos 1) (pos 3)) (span 20 1) ((rotation, 0) ∷ (line, 0) ∷ [])
    ((width, pos 4) ∷ (height, pos 9) ∷ []) [] ∷ [])
    ∷ turned "B1,2,0,UA0,4,5,6,N,\"x\"\nP" (pos 1) (pos 1)
    (saying 8 (point (pos 1) (pos 3)) (span 20 1) ((rotation, 0) ∷ (line, 0) ∷ [])
    ((width, pos 4) ∷ (height, pos 9) ∷ []) [] ∷ [])
    ∷ turned "B1,2,0,UE0,4,5,6,N,\"x\"\nP" (pos 1) (pos 1)
    (saying 16 (point (pos 1) (pos 3)) (span 20 1) ((rotation, 0) ∷ (line, 0) ∷ [])
    ((width, pos 4) ∷ (height, pos 9) ∷ []) [] ∷ [])
    ∷ turned "B33,44,1,2D,2,5,50,N,\"12\"\nP" (pos 1) (pos 1)
    (saying 9 (point (pos 49) (pos 65)) (span 22 2) ((rotation, 1) ∷ (line, 0) ∷ (check, 1) ∷ [])
    ((width, pos 2) ∷ (height, pos 74) ∷ (wide, pos 5) ∷ []) ((ratio, of_bits binary64 0x4004000000000000) ∷ []) ∷ [])
    ∷ turned "B33,44,1,3,2,5,50,N,\"12\"\nP" (pos 1) (pos 1)
    (saying 10 (point (pos 49) (pos 65)) (span 21 2) ((rotation, 1) ∷ (line, 0) ∷ (check, 0) ∷ [])
    ((width, pos 2) ∷ (height, pos 74) ∷ (wide, pos 5) ∷ []) ((ratio, of_bits binary64 0x4004000000000000) ∷ []) ∷ [])
    -- a narrow bar is no length: none is too wide
    ∷ turned "B0,0,0,1,2147483647,2,10,N,\"x\"\nP" (pos 1) (pos 1)
    (saying 5 (point (pos 0) (pos 0)) (span 28 1) ((rotation, 0) ∷ (line, 0) ∷ [])
    ((width, pos 2147483647) ∷ (height, pos 15) ∷ (mode, pos 2) ∷ []) [] ∷ [])
    -- row heights, module widths and magnifications stay
    ∷ turned "b1,2,P,o3,y7,s4,l5,r6,t1,x8\"x\"\nP" (pos 1) (pos 1)
    (saying 11 (point (pos 1) (pos 3)) (span 28 1) ((rotation, 3) ∷ (truncate, 1) ∷ [])
    ((height, pos 7) ∷ (security, pos 4) ∷ (columns, pos 5) ∷ (rows, pos 6) ∷ (width, pos 8) ∷ []) [] ∷ [])
    ∷ turned "b1,2,A,d4,e5\"x\"\nP" (pos 1) (pos 1)
    (saying 12 (point (pos 1) (pos 3)) (span 13 1) [] ((magnification, pos 4) ∷ (size, pos 5) ∷ []) [] ∷ [])
    ∷ turned "b1,2,D,h4,c5,r6\"x\"\nP" (pos 1) (pos 1)
    (saying 13 (point (pos 1) (pos 3)) (span 16 1) [] ((height, pos 4) ∷ (columns, pos 5) ∷ (rows, pos 6) ∷ []) [] ∷
    [])
    ∷ turned "b1,2,Q,s4,eH\"x\"\nP" (pos 1) (pos 1)
    (saying 14 (point (pos 1) (pos 3)) (span 13 1) ((level, 72) ∷ []) ((magnification, pos 4) ∷ []) [] ∷ [])
    ∷ turned "b1,2,M,m6\"x\"\nP" (pos 1) (pos 1)
    (saying 15 (point (pos 1) (pos 3)) (span 10 1) [] ((mode, pos 6) ∷ []) [] ∷ [])
    -- both ends of the range
    ∷ turned "LO1453130601,-1453130602,1,1\nP" (pos 1) (pos 1)
    (drawn 2 (point (pos 2147483647) (negsuc 2147483647)) (pos 1) (pos 1) (pos 1) colour 0 ∷ [])
    -- 13 a position, 19 another length outside 32 bits
    ∷ untold "LO1453130602,0,1,1\nP" 0 9 13 0
    ∷ untold "LO0,-1453130603,1,1\nP" 0 9 13 0
    ∷ untold "LO0,0,1453130602,1\nP" 0 9 19 0
    ∷ untold "B0,0,0,1,1,2,1453130602,N,\"x\"\nP" 0 9 19 0
    -- the first line with such a result, its blanks included, 13 first within it
    ∷ untold "LO0,0,1,1\n LO1453130602,0,1453130602,1\nP" 0 9 13 10
    ∷ untold "LO0,0,1453130602,1\nLO1453130602,0,1,1\nP" 0 9 19 0
    -- behind lines that draw nothing: the reference makes it 1453130602
    ∷ untold "q609\nR1,0\n LO1453130601,0,1,1\nP" 0 9 13 10
    -- 24 before 13, 19 and 15: the block's first byte, blanks included
    ∷ untold "LO1453130602,0,1,1\n GW0,0,1,1,zP" 0 0 24 19
    -- a graphic that `N` dropped is none
    ∷ turned "GW0,0,1,1,zN\nLO0,0,1,1\nP" (pos 1) (pos 1)
    (drawn 2 (point (pos 0) (pos 0)) (pos 1) (pos 1) (pos 1) colour 0 ∷ [])
    -- 15 last, with the count
    ∷ untold "LO0,0,1,1\nLO0,0,1,1\nP" 0 1 15 2
    ∷ untold "LO0,0,1453130602,1\nP" 0 0 19 0
    -- all checks of opening come first
    ∷ untold "LO0,0,1,1\nP" 1 9 21 1
    ∷ untold "LO1453130602,0,1,1\nX1\nP" 0 9 6 19
    ∷ []
