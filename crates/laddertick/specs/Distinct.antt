-- A file for each command and type, with all its fields set and distinct, and the lines that `list` writes for it,
-- character by character (01, "Frames"), so that no two fields can change places in a reader, a frame and their
-- definitions together; then files that pin what readers and grammar share: defaults, least values, fonts, flags,
-- parameters of `b`, data, blanks, prints. `distinct` (proofs/Distinct.antt): every row holds.
use Rattle.std.specs.Prelude.{cond, List, [], ◌∷◌, ℕ, eqb}
use Prim.Native.Char.{code}
use Prim.Native.String.{String}
use Prim.Native.String as string
use Rattle.text.specs.Ascii.{ascii, spelt}
use Rattle.walk_theory.specs.Step.{refused}
use Rattle.laddertick.specs.Table.{Case, lists, case, fresh}

-- the characters of a text without its blanks, and then t
abbrev packed : String → List ℕ → List ℕ
packed string.[] t = t
packed (string.◌∷◌ c s) t = cond (eqb (code c) 32) (packed s t) (code c ∷ packed s t)

-- a command at the reference 100,200 (hexadecimal 64, c8), printed in 11 sets of 12 copies (0b, 0c), and the frame of
-- its element; blanks in a frame are for the eye
abbrev alone : String → String → Case
alone c f =
    lists (spelt "R100,200\n" (spelt c (ascii "\nP11,12\n")))
    (spelt "00000000010000000b0000000c\n" (packed f (ascii "\n")))

-- a print line behind a line of one dot, and what its label's frame has behind the element count
abbrev counts : String → String → Case
counts p f =
    lists (spelt "LO,,,\n" (spelt p (ascii "\n")))
    (spelt "0000000001" (packed f (ascii "\n02000000000000000000000001000000010000000100\n")))

-- a file, and all its frames
abbrev several : String → String → Case
several s f = lists (ascii s) (packed f [])

abbrev pub table : List Case
table =
    -- "01 text: rotation flag (0 to 3), reverse flag, font, horizontal and vertical multiplier, height and width f64,
    -- data": 144.0, 70.0
    alone "A1,2,3,4,5,6,R,\"x\""
    "01 00000065 000000ca 03 01 00000004 00000005 00000006 4062000000000000 4051800000000000 00000001 78"
    -- "05 Code 128: rotation, narrow, height, line flag, mode flag (1 Ucc, 2 Automatic, 3 Ean), data"
    ∷ alone "B1,2,3,0,4,9,5,B,\"x\"" "05 00000065 000000ca 03 00000004 00000005 01 01 00000001 78"
    ∷ alone "B1,2,1,1,4,9,5,N,\"x\"" "05 00000065 000000ca 01 00000004 00000005 00 02 00000001 78"
    ∷ alone "B1,2,2,1A,4,9,5,B,\"x\"" "05 00000065 000000ca 02 00000004 00000005 01 02 00000001 78"
    ∷ alone "B1,2,2,1B,4,9,5,B,\"x\"" "05 00000065 000000ca 02 00000004 00000005 01 02 00000001 78"
    ∷ alone "B1,2,2,1C,4,9,5,B,\"x\"" "05 00000065 000000ca 02 00000004 00000005 01 02 00000001 78"
    ∷ alone "B1,2,3,1E,4,9,5,B,\"x\"" "05 00000065 000000ca 03 00000004 00000005 01 03 00000001 78"
    -- "06 EAN-13, 07 EAN-8, 08 UPC-A, 10 UPC-E: rotation, narrow, height, line, data"
    ∷ alone "B1,2,3,E30,4,9,5,B,\"x\"" "06 00000065 000000ca 03 00000004 00000005 01 00000001 78"
    ∷ alone "B1,2,3,E80,4,9,5,B,\"x\"" "07 00000065 000000ca 03 00000004 00000005 01 00000001 78"
    ∷ alone "B1,2,3,UA0,4,9,5,B,\"x\"" "08 00000065 000000ca 03 00000004 00000005 01 00000001 78"
    ∷ alone "B1,2,3,UE0,4,9,5,B,\"x\"" "10 00000065 000000ca 03 00000004 00000005 01 00000001 78"
    -- "09 2 of 5, 0a Code 39: rotation, narrow, height, line, check flag, wide, ratio f64, data": 14 by 4 is 3.5
    ∷ alone "B1,2,3,2,4,14,5,B,\"x\""
    "09 00000065 000000ca 03 00000004 00000005 01 00 0000000e 400c000000000000 00000001 78"
    ∷ alone "B1,2,3,2C,4,14,5,N,\"x\""
    "09 00000065 000000ca 03 00000004 00000005 00 01 0000000e 400c000000000000 00000001 78"
    ∷ alone "B1,2,3,2D,4,14,5,N,\"x\""
    "09 00000065 000000ca 03 00000004 00000005 00 01 0000000e 400c000000000000 00000001 78"
    ∷ alone "B1,2,2,3,4,14,5,B,\"x\""
    "0a 00000065 000000ca 02 00000004 00000005 01 00 0000000e 400c000000000000 00000001 78"
    ∷ alone "B1,2,2,3C,4,14,5,N,\"x\""
    "0a 00000065 000000ca 02 00000004 00000005 00 01 0000000e 400c000000000000 00000001 78"
    -- a ratio with all its 53 bits: 22 by 7
    ∷ alone "B1,2,3,3,7,22,5,N,\"x\""
    "0a 00000065 000000ca 03 00000007 00000005 00 00 00000016 4009249249249249 00000001 78"
    -- "one f64 division": 10 by 3, which is not 10 times a third
    ∷ alone "B0,0,0,3,3,10,9,N,\"x\""
    "0a 00000064 000000c8 00 00000003 00000009 00 00 0000000a 400aaaaaaaaaaaab 00000001 78"
    -- "0b PDF417: rotation, row height, security, columns, rows, truncate flag, module width, data"
    ∷ alone "b1,2,P,o3,y7,s4,l5,r6,t1,x8\"x\""
    "0b 00000065 000000ca 03 00000007 00000004 00000005 00000006 01 00000008 00000001 78"
    -- "0c Aztec: magnification, size, data; 0d Data Matrix: module, columns, rows, data"
    ∷ alone "b1,2,A,d4,e5\"x\"" "0c 00000065 000000ca 00000004 00000005 00000001 78"
    ∷ alone "b1,2,D,h4,c5,r6\"x\"" "0d 00000065 000000ca 00000004 00000005 00000006 00000001 78"
    -- "0e QR: magnification, level letter (1 byte), data; 0f MaxiCode: mode, data"
    ∷ alone "b1,2,Q,s4,eH\"x\"" "0e 00000065 000000ca 00000004 48 00000001 78"
    ∷ alone "b1,2,M,m6\"x\"" "0f 00000065 000000ca 00000006 00000001 78"
    -- "02 box: width, height, thickness, colour flag (0 black, 1 white, 2 exclusive-OR); 03 diagonal: width, height,
    -- thickness, direction flag"
    ∷ alone "LO1,2,9,4" "02 00000065 000000ca 00000009 00000004 00000004 00"
    ∷ alone "LW1,2,9,4" "02 00000065 000000ca 00000009 00000004 00000004 01"
    ∷ alone "LE1,2,9,4" "02 00000065 000000ca 00000009 00000004 00000004 02"
    ∷ alone "X14,25,3,1,2" "02 00000065 000000ca 0000000d 00000017 00000003 00"
    ∷ alone "LS1,2,3,14,25" "03 00000065 000000ca 0000000d 00000017 00000003 01"
    ∷ alone "LS14,25,3,1,2" "03 00000065 000000ca 0000000d 00000017 00000003 01"
    ∷ alone "LS14,2,3,1,25" "03 00000065 000000ca 0000000d 00000017 00000003 00"
    -- "04 graphic: row bytes, total, data (the payload, not decoded)"
    ∷ alone "GW1,2,3,4,abcdefghijkl" "04 00000065 000000ca 00000003 0000000c 0000000c 6162636465666768696a6b6c"
    -- "fonts 1 to 5 are 8×12, 10×16, 12×20, 14×24, 32×48 (width × height); any other is 8×12": multipliers 4 and 3
    ∷ alone "A0,0,0,1,4,3,N,\"x\""
    "01 00000064 000000c8 00 00 00000001 00000004 00000003 4042000000000000 4040000000000000 00000001 78"
    ∷ alone "A0,0,0,2,4,3,N,\"x\""
    "01 00000064 000000c8 00 00 00000002 00000004 00000003 4048000000000000 4044000000000000 00000001 78"
    ∷ alone "A0,0,0,3,4,3,N,\"x\""
    "01 00000064 000000c8 00 00 00000003 00000004 00000003 404e000000000000 4048000000000000 00000001 78"
    ∷ alone "A0,0,0,4,4,3,N,\"x\""
    "01 00000064 000000c8 00 00 00000004 00000004 00000003 4052000000000000 404c000000000000 00000001 78"
    ∷ alone "A0,0,0,5,4,3,N,\"x\""
    "01 00000064 000000c8 00 00 00000005 00000004 00000003 4062000000000000 4060000000000000 00000001 78"
    ∷ alone "A0,0,0,6,4,3,N,\"x\""
    "01 00000064 000000c8 00 00 00000006 00000004 00000003 4042000000000000 4040000000000000 00000001 78"
    ∷ alone "A0,0,0,0,4,3,N,\"x\""
    "01 00000064 000000c8 00 00 00000000 00000004 00000003 4042000000000000 4040000000000000 00000001 78"
    -- "width equals height if the multipliers are equal"
    ∷ alone "A0,0,0,5,3,3,N,\"x\""
    "01 00000064 000000c8 00 00 00000005 00000003 00000003 4062000000000000 4062000000000000 00000001 78"
    -- "else height × (horizontal × font width) / height, each step one f64 rounding": 1571496300 × 201561928 is past
    -- 2^53, and the width is the next f64 above 201561928
    ∷ alone "A1,2,0,1,25195241,130958025,N,\"x\""
    "01 00000065 000000ca 00 00 00000001 018072e9 07ce42c9 41d76ac85b000000 41a8072e90000001 00000001 78"
    -- "else its default: 0; 1 for font, multipliers, narrow bar, thickness, line width and height; 2 wide bar; 10 bar
    -- height"
    ∷ alone "A,,,,,,N,\"x\""
    "01 00000064 000000c8 00 00 00000001 00000001 00000001 4028000000000000 4028000000000000 00000001 78"
    ∷ alone "B,,,3,,,,N,\"x\"" "0a 00000064 000000c8 00 00000001 0000000a 00 00 00000002 4000000000000000 00000001 78"
    ∷ alone "LO,,," "02 00000064 000000c8 00000001 00000001 00000001 00"
    ∷ alone "LE,,," "02 00000064 000000c8 00000001 00000001 00000001 02"
    ∷ alone "LS,,,," "03 00000064 000000c8 00000000 00000000 00000001 01"
    ∷ alone "X,,,," "02 00000064 000000c8 00000000 00000000 00000001 00"
    ∷ alone "b,,P\"x\"" "0b 00000064 000000c8 00 00000018 ffffffff 00000000 00000000 00 00000006 00000001 78"
    ∷ alone "b,,A\"x\"" "0c 00000064 000000c8 00000003 00000000 00000001 78"
    ∷ alone "b,,D\"x\"" "0d 00000064 000000c8 00000005 00000000 00000000 00000001 78"
    ∷ alone "b,,Q\"x\"" "0e 00000064 000000c8 00000003 4d 00000001 78"
    ∷ alone "b,,M\"x\"" "0f 00000064 000000c8 00000004 00000001 78"
    -- "Least value 1 for multipliers, narrow bar, bar height, thickness, line width and height"
    ∷ alone "A0,0,0,1,0,-1,N,\"x\""
    "01 00000064 000000c8 00 00 00000001 00000001 00000001 4028000000000000 4028000000000000 00000001 78"
    ∷ alone "B0,0,0,3,0,3,-9,N,\"x\""
    "0a 00000064 000000c8 00 00000001 00000001 00 00 00000003 4008000000000000 00000001 78"
    ∷ alone "LO0,0,0,-1" "02 00000064 000000c8 00000001 00000001 00000001 00"
    ∷ alone "LO0,0,-1,7" "02 00000064 000000c8 00000001 00000007 00000001 00"
    ∷ alone "LS0,0,-1,0,0" "03 00000064 000000c8 00000000 00000000 00000001 01"
    ∷ alone "X0,0,0,0,0" "02 00000064 000000c8 00000000 00000000 00000001 00"
    -- the font has a default and no least value, and any number is kept; so has the wide bar, and the ratio alone is at
    -- least 2.0
    ∷ alone "A,,,0,,,N\"x\""
    "01 00000064 000000c8 00 00 00000000 00000001 00000001 4028000000000000 4028000000000000 00000001 78"
    ∷ alone "A,,,9,2,1,N\"x\""
    "01 00000064 000000c8 00 00 00000009 00000002 00000001 4028000000000000 4030000000000000 00000001 78"
    ∷ alone "A,,,-7,3,3,N\"x\""
    "01 00000064 000000c8 00 00 fffffff9 00000003 00000003 4042000000000000 4042000000000000 00000001 78"
    ∷ alone "B,,,3,,-5,,N\"x\"" "0a 00000064 000000c8 00 00000001 0000000a 00 00 fffffffb 4000000000000000 00000001 78"
    ∷ alone "B,,,2,3,0,,N\"x\"" "09 00000064 000000c8 00 00000003 0000000a 00 00 00000000 4000000000000000 00000001 78"
    -- "Rotations 1, 2, 3 are quarter turns, others 0"
    ∷ alone "A0,0,4,1,1,1,N,\"x\""
    "01 00000064 000000c8 00 00 00000001 00000001 00000001 4028000000000000 4028000000000000 00000001 78"
    ∷ alone "A0,0,-1,1,1,1,N,\"x\""
    "01 00000064 000000c8 00 00 00000001 00000001 00000001 4028000000000000 4028000000000000 00000001 78"
    -- "(flag 1 if exactly `R`, blanks off)", "(flag 1 if exactly `B`, blanks off)"
    ∷ alone "A0,0,0,1,1,1, R ,\"x\""
    "01 00000064 000000c8 00 01 00000001 00000001 00000001 4028000000000000 4028000000000000 00000001 78"
    ∷ alone "A0,0,0,1,1,1,RR,\"x\""
    "01 00000064 000000c8 00 00 00000001 00000001 00000001 4028000000000000 4028000000000000 00000001 78"
    ∷ alone "B0,0,0,1,1,1,1, B ,\"x\"" "05 00000064 000000c8 00 00000001 00000001 01 02 00000001 78"
    ∷ alone "B0,0,0,1,1,1,1,b,\"x\"" "05 00000064 000000c8 00 00000001 00000001 00 02 00000001 78"
    -- The parameters of `b`: "their meaning is that of `parse_epl_2d_barcode`". Aztec: the nearest `d` of 1 to 55; `e`
    -- 1 to 99, 101 to 104, 201 to 232 and 300 stand, and any other is 0
    ∷ alone "b,,A,d0,e1\"x\"" "0c 00000064 000000c8 00000001 00000001 00000001 78"
    ∷ alone "b,,A,d1,e99\"x\"" "0c 00000064 000000c8 00000001 00000063 00000001 78"
    ∷ alone "b,,A,d55,e101\"x\"" "0c 00000064 000000c8 00000037 00000065 00000001 78"
    ∷ alone "b,,A,d56,e104\"x\"" "0c 00000064 000000c8 00000037 00000068 00000001 78"
    ∷ alone "b,,A,d2147483647,e201\"x\"" "0c 00000064 000000c8 00000037 000000c9 00000001 78"
    ∷ alone "b,,A,d7,e232\"x\"" "0c 00000064 000000c8 00000007 000000e8 00000001 78"
    ∷ alone "b,,A,d8,e300\"x\"" "0c 00000064 000000c8 00000008 0000012c 00000001 78"
    ∷ alone "b,,A,d9,e100\"x\"" "0c 00000064 000000c8 00000009 00000000 00000001 78"
    ∷ alone "b,,A,d10,e105\"x\"" "0c 00000064 000000c8 0000000a 00000000 00000001 78"
    ∷ alone "b,,A,d11,e200\"x\"" "0c 00000064 000000c8 0000000b 00000000 00000001 78"
    ∷ alone "b,,A,d12,e233\"x\"" "0c 00000064 000000c8 0000000c 00000000 00000001 78"
    ∷ alone "b,,A,d13,e299\"x\"" "0c 00000064 000000c8 0000000d 00000000 00000001 78"
    ∷ alone "b,,A,d14,e301\"x\"" "0c 00000064 000000c8 0000000e 00000000 00000001 78"
    -- the last that is a number counts, also where it is none of the sizes; a letter, a number beyond 32 bits and one
    -- with a sign are none; several in a field, blanks around them, a blank before the number, letters of no meaning
    ∷ alone "b,,A,d9,d4,e5,e100\"x\"" "0c 00000064 000000c8 00000004 00000000 00000001 78"
    ∷ alone "b,,A,d9,dX,e5,e\"x\"" "0c 00000064 000000c8 00000009 00000005 00000001 78"
    ∷ alone "b,,A,d9,d2147483648,e5,e-7\"x\"" "0c 00000064 000000c8 00000009 00000005 00000001 78"
    ∷ alone "b,,A, d4 e15 \"x\"" "0c 00000064 000000c8 00000004 0000000f 00000001 78"
    ∷ alone "b,,A,d 4,f9e15m\"x\"" "0c 00000064 000000c8 00000003 0000000f 00000001 78"
    -- Data Matrix: the nearest `h` of 1 to 40; `c` and `r` are any number, 0 where the last is none
    ∷ alone "b,,D,h0,c2,r3\"x\"" "0d 00000064 000000c8 00000001 00000002 00000003 00000001 78"
    ∷ alone "b,,D,h40,c2147483647,r0\"x\"" "0d 00000064 000000c8 00000028 7fffffff 00000000 00000001 78"
    ∷ alone "b,,D,h41,c5,r2147483648\"x\"" "0d 00000064 000000c8 00000028 00000005 00000000 00000001 78"
    ∷ alone "b,,D,hX,c5,cX,r6,r\"x\"" "0d 00000064 000000c8 00000005 00000000 00000000 00000001 78"
    ∷ alone "b,,D,h7h,c5c6,r8r9\"x\"" "0d 00000064 000000c8 00000007 00000006 00000009 00000001 78"
    -- PDF417: the nearest `x` of 2 to 9; the nearest `y` of 4 to 99, four modules by default; the nearest `s` of 1 to
    -- 8, -1 by default; `o` 1 to 3, or 0; `t` is 1 where the last is exactly that; `l` and `r` as `c` and `r` above
    ∷ alone "b,,P,x1,s0,o1,l5,r6\"x\""
    "0b 00000064 000000c8 01 00000008 00000001 00000005 00000006 00 00000002 00000001 78"
    ∷ alone "b,,P,x2,y3,s1,o2,l7,t1\"x\""
    "0b 00000064 000000c8 02 00000004 00000001 00000007 00000000 01 00000002 00000001 78"
    ∷ alone "b,,P,x9,y4,s8,o4,r7,t0\"x\""
    "0b 00000064 000000c8 00 00000004 00000008 00000000 00000007 00 00000009 00000001 78"
    ∷ alone "b,,P,x10,y99,s9,o3,t11\"x\""
    "0b 00000064 000000c8 03 00000063 00000008 00000000 00000000 00 00000009 00000001 78"
    ∷ alone "b,,P,x3,y100,t1,t\"x\""
    "0b 00000064 000000c8 00 00000063 ffffffff 00000000 00000000 00 00000003 00000001 78"
    ∷ alone "b,,P,x4,xX,y,s7,s,o3,oX,l5,lX,r6,r2147483648,t0,t1\"x\""
    "0b 00000064 000000c8 03 00000010 00000007 00000000 00000000 01 00000004 00000001 78"
    -- the last `o`, of 5 none; a last `t` that is no `1` alone
    ∷ alone "b,,P,o1,o5,t1,t01\"x\""
    "0b 00000064 000000c8 00 00000018 ffffffff 00000000 00000000 00 00000006 00000001 78"
    -- letters are A to Z and a to z, as they stand: a parameter begins behind `@`, `[`, a backquote, `{` and e9, none
    -- behind `A`, `Z`, `a` and `z`, and none by a large letter
    ∷ alone "b,,P,@s4[x8`y7{l5ér6\"x\""
    "0b 00000064 000000c8 00 00000007 00000004 00000005 00000006 00 00000008 00000001 78"
    ∷ alone "b,,P,As4Zx8ay7zl5,S4X8Y7L5R6T1O3\"x\""
    "0b 00000064 000000c8 00 00000018 ffffffff 00000000 00000000 00 00000006 00000001 78"
    -- QR: the nearest `s` of 1 to 100; the last `e` with `L`, `M`, `Q` or `H`, a letter behind `e` being its value and
    -- no letter of its own
    ∷ alone "b,,Q,s0,eL\"x\"" "0e 00000064 000000c8 00000001 4c 00000001 78"
    ∷ alone "b,,Q,s100,eQ\"x\"" "0e 00000064 000000c8 00000064 51 00000001 78"
    ∷ alone "b,,Q,s101,eM\"x\"" "0e 00000064 000000c8 00000064 4d 00000001 78"
    ∷ alone "b,,Q,s5,sX,eH,e1,eX\"x\"" "0e 00000064 000000c8 00000005 48 00000001 78"
    ∷ alone "b,,Q,s6eHs9,eLQ\"x\"" "0e 00000064 000000c8 00000009 4c 00000001 78"
    ∷ alone "b,,Q,eH,eq\"x\"" "0e 00000064 000000c8 00000003 48 00000001 78"
    -- "MaxiCode with no `m`, or whose last `m` isn't 2, 3, 4 or 6: .. If [the header] first stands at 6 or later in the
    -- decoded data, mode 2 when the bytes from 6 up to it are digits and at least one, else 3; otherwise mode 4"
    ∷ alone "b,,M,m2\"x\"" "0f 00000064 000000c8 00000002 00000001 78"
    ∷ alone "b,,M,m3\"x\"" "0f 00000064 000000c8 00000003 00000001 78"
    ∷ alone "b,,M,m1\"x\"" "0f 00000064 000000c8 00000004 00000001 78"
    ∷ alone "b,,M,m7\"x\"" "0f 00000064 000000c8 00000004 00000001 78"
    ∷ alone "b,,M,m5,m4\"12345678[)>\u{1e}01\u{1d}\""
    "0f 00000064 000000c8 00000004 0000000f 31323334353637385b293e1e30311d"
    ∷ alone "b,,M\"12345678[)>\u{1e}01\u{1d}\"" "0f 00000064 000000c8 00000002 0000000f 31323334353637385b293e1e30311d"
    ∷ alone "b,,M,m6,m5\"12345678[)>\u{1e}01\u{1d}\""
    "0f 00000064 000000c8 00000002 0000000f 31323334353637385b293e1e30311d"
    ∷ alone "b,,M,m2,m\"123456[)>\u{1e}01\u{1d}\"" "0f 00000064 000000c8 00000003 0000000d 3132333435365b293e1e30311d"
    ∷ alone "b,,M,m0\"1234567A[)>\u{1e}01\u{1d}\""
    "0f 00000064 000000c8 00000003 0000000f 31323334353637415b293e1e30311d"
    ∷ alone "b,,M\"12345[)>\u{1e}01\u{1d}[)>\u{1e}01\u{1d}\""
    "0f 00000064 000000c8 00000004 00000013 31323334355b293e1e30311d5b293e1e30311d"
    ∷ alone "b,,M,mX\"12345678[)>\u{1e}01\"" "0f 00000064 000000c8 00000004 0000000e 31323334353637385b293e1e3031"
    -- places are those of the decoded data, where hexadecimal ff has three bytes: the 4 stands at 6, the header at 5;
    -- "where byte 6 is inside a character; here that gives 3"
    ∷ alone "b,,M\"123ÿ4[)>\u{1e}01\u{1d}\"" "0f 00000064 000000c8 00000002 0000000e 313233efbfbd345b293e1e30311d"
    ∷ alone "b,,M\"12ÿ[)>\u{1e}01\u{1d}\"" "0f 00000064 000000c8 00000004 0000000c 3132efbfbd5b293e1e30311d"
    ∷ alone "b,,M\"12345Ã©[)>\u{1e}01\u{1d}\"" "0f 00000064 000000c8 00000003 0000000e 3132333435c3a95b293e1e30311d"
    -- "Data is decoded as `from_utf8_lossy` does": hexadecimal e9 alone, and c3 a9
    ∷ alone "b0,0,M\"éÃ©\"" "0f 00000064 000000c8 00000004 00000005 efbfbdc3a9"
    -- as many bytes as can begin a sequence are one U+FFFD: e2 82, f0 90 8d; ed, and then a0
    ∷ alone "b0,0,M\"â\u{82} ð\u{90}\u{8d}Aí\u{a0}\""
    "0f 00000064 000000c8 00000004 0000000e efbfbd20efbfbd41efbfbdefbfbd"
    -- "data lies between the first and last quote"; "trailing commas dropped"
    ∷ alone "A1,2,3,4,5,6,R,,,\"a\"b\""
    "01 00000065 000000ca 03 01 00000004 00000005 00000006 4062000000000000 4051800000000000 00000003 612262"
    -- a field of one blank is no trailing comma: there are seven
    ∷ alone "A1,2,3,4,5,6, ,\"x\""
    "01 00000065 000000ca 03 00 00000004 00000005 00000006 4062000000000000 4051800000000000 00000001 78"
    -- 0b and c2 a0 before the letter; a field more than is needed, and none of its commas before the data; what stands
    -- behind the last quote
    ∷ alone "\u{b}Â\u{a0}A1,2,3,4,5,6,R,7\"a\"b\" c"
    "01 00000065 000000ca 03 01 00000004 00000005 00000006 4062000000000000 4051800000000000 00000003 612262"
    -- fields past those that are read
    ∷ alone "B1,2,3,3,4,14,5,B,9,\"x\""
    "0a 00000065 000000ca 03 00000004 00000005 01 00 0000000e 400c000000000000 00000001 78"
    ∷ alone "LO1,2,9,4,7" "02 00000065 000000ca 00000009 00000004 00000004 00"
    ∷ alone "LW1,2,9,4,7" "02 00000065 000000ca 00000009 00000004 00000004 01"
    ∷ alone "LE1,2,9,4,7" "02 00000065 000000ca 00000009 00000004 00000004 02"
    ∷ alone "LS1,2,3,14,25,9" "03 00000065 000000ca 0000000d 00000017 00000003 01"
    ∷ alone "X14,25,3,1,2,9" "02 00000065 000000ca 0000000d 00000017 00000003 00"
    -- "Rotations 1, 2, 3 are quarter turns, others 0"
    ∷ alone "A0,0,5,1,1,1,N,\"x\""
    "01 00000064 000000c8 00 00 00000001 00000001 00000001 4028000000000000 4028000000000000 00000001 78"
    ∷ alone "B0,0,5,1,1,1,1,B,\"x\"" "05 00000064 000000c8 00 00000001 00000001 01 02 00000001 78"
    -- "flag 1 if exactly `R`, blanks off", and `B`: Unicode blanks, 0b and c2 a0
    ∷ alone "A0,0,0,1,1,1,Â\u{a0}R\u{b},\"x\""
    "01 00000064 000000c8 00 01 00000001 00000001 00000001 4028000000000000 4028000000000000 00000001 78"
    ∷ alone "B0,0,0,1,1,1,1,\u{b}BÂ\u{a0},\"x\"" "05 00000064 000000c8 00 00000001 00000001 01 02 00000001 78"
    -- "Fewer than two quotes, or no data: nothing is read"
    ∷ several "A0,0,0,1,1,1,N,\"xy\nb0,0,Q\"\"\nP1\n" ""
    ∷ several "A0,0,0,1,1,1,N,\"x\nb0,0,Q\"\"\nP1\n" ""
    -- "third of `b` `A D M P Q`": a blank is a field, and no type
    ∷ case "b1,2, \"x\"" (refused 8 0 fresh ∷ [])
    -- "what follows its leading ASCII blanks": 20, 09, 0c, 0d before `GW`, and 0b, after which it is passed over
    ∷ several " \t\u{c}\rGW1,2,1,2,a\nP1\n"
    "00 00000001 00000001 00000001\n04 00000001 00000002 00000001 00000002 00000002 610a\n"
    ∷ several "\u{b}GW1,2,1,2,a\nP1\n" ""
    -- "prints if something is pending, and the reference stays"; "nothing is then pending"
    ∷ several "P1\nR1,2\nLO1,2,9,4\nP1\nP\nLO1,2,9,5\nP2\n"
    "00 00000001 00000001 00000001\n02 00000002 00000004 00000009 00000004 00000004 00\n00 00000001 00000002 00000001\n02 00000002 00000004 00000009 00000005 00000005 00\n"
    -- "label sets and, after a comma, copies": two elements, three sets, four copies; "A count that is absent or too
    -- large for signed 32 bits is 1"
    ∷ several "LO,,,\nLW,,,\nP3,4\n"
    "00 00000002 00000003 00000004\n02 00000000 00000000 00000001 00000001 00000001 00\n02 00000000 00000000 00000001 00000001 00000001 01\n"
    ∷ counts "P" "00000001 00000001"
    ∷ counts "P0" "00000000 00000001"
    ∷ counts "P4294967297" "00000001 00000001"
    ∷ counts "P00000000000002,3" "00000002 00000003"
    ∷ counts " P2147483647,2147483648\t" "7fffffff 00000001"
    ∷ counts "P2147483648,2147483647" "00000001 7fffffff"
    -- "`P`, at least one digit, comma, at least one digit .., no blanks between": none of these prints
    ∷ several "LO,,,\nP,1\nP1,\nP1,1,1\nP1 ,1\nP1, 1\nP+1\nP1,-1\n" "fe 00000001\n"
    -- "within signed 32 bits, else its default"; "Unicode blanks off", as c2 a0
    ∷ several "LO2147483648,-2147483649,+9,Â\u{a0}4 \nP1\n"
    "00 00000001 00000001 00000001\n02 00000000 00000000 00000009 00000004 00000004 00\n"
    ∷ several "LO2147483647,-2147483648,12O,- 4\nP1\n"
    "00 00000001 00000001 00000001\n02 7fffffff 80000000 00000001 00000001 00000001 00\n"
    -- "4 `LO`/`LW`/`LE`, .. with too few fields"
    ∷ case "LEFT JAR" (refused 4 0 fresh ∷ [])
    -- "13 a sum with the reference": of x, of y
    ∷ case "R1\nLO2147483647,0,1,1" (refused 13 3 fresh ∷ [])
    ∷ case "R0,-1\nLS0,-2147483648,1,5,5" (refused 13 6 fresh ∷ [])
    -- "19 a size": a difference, an absolute value, a font's height, its width
    ∷ case "X-1,0,1,2147483647,0" (refused 19 0 fresh ∷ [])
    ∷ case "LS0,0,1,0,-2147483648" (refused 19 0 fresh ∷ [])
    ∷ case "A0,0,0,1,1,178956971,N,\"x\"" (refused 19 0 fresh ∷ [])
    ∷ case "A0,0,0,1,268435456,1,N,\"x\"" (refused 19 0 fresh ∷ [])
    -- "Where a line has both faults, the position comes first"
    ∷ case "R0,-2147483648\nX2147483647,-1,1,-1,-1" (refused 13 15 fresh ∷ [])
    ∷ case "R1\nA2147483647,0,0,1,1,178956971,N,\"x\"" (refused 13 3 fresh ∷ [])
    ∷ []
