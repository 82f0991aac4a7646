-- 01, "The well-site profile", on files: the number of the refusal, the field, what it held and the place, all 0 where
-- the file is accepted. `profiled` (proofs/Profiled.antt): every row holds.
use Rattle.std.specs.Prelude.{List, [], ◌∷◌, ℕ}
use Prim.Native.String.{String}
use Rattle.elements.specs.Given.{text, denied}
use Rattle.text.specs.Ascii.{ascii}
use Rattle.laddertick.specs.Table.{Case, judges, strictly}

-- How the rows are written: a file that is accepted; one whose first line is refused for a field, by the number, the
-- field and what it held; and one that is refused at a place
abbrev fine : String → Case
fine s = judges (ascii s) (record { number = 0; field = 0; held = 0; place = 0 })

abbrev objects : String → ℕ → ℕ → ℕ → Case
objects s n k h = judges (ascii s) (record { number = n; field = k; held = h; place = 0 })

abbrev refuses : String → ℕ → ℕ → Case
refuses s n p = judges (ascii s) (record { number = n; field = 0; held = 0; place = p })

abbrev pub table : List Case
table =
    fine ""
    -- 17 (a field with no value: empty, no number, or beyond 32 bits) and 18, field by field, "first field first"
    ∷ objects "A0,0,9,,1,1,N,\"x\"" 18 3 4
    ∷ objects "A0,0,,9,1,1,N,\"x\"" 17 3 1
    ∷ objects "A0,0,1O,9,1,1,N,\"x\"" 17 3 2
    ∷ objects "A0,99999999999,1,9,1,1,N,\"x\"" 17 2 3
    -- "before the type": `B`'s number fields behind its type too
    ∷ objects "B0,0,0,9,,2,9,B,\"x\"" 17 5 1
    ∷ objects "b1,,Z,\"x\"" 17 2 1
    ∷ refuses "B0,0,0,1D,2,2,9,B,\"x\"" 7 0
    -- values are tested "before least values"
    ∷ objects "A0,0,0,1,0,1,N,\"x\"" 18 5 4
    ∷ objects "A0,0,0,1,7,1,N,\"x\"" 18 5 4
    ∷ fine "A0,0,0,1,8,1,N,\"x\""
    ∷ objects "A0,0,0,1,9,1,N,\"x\"" 18 5 4
    ∷ fine "LO1,2,0,-4"
    ∷ fine "B0,0,0,1,0,2,9,B,\"x\""
    -- font 0 and 6, rotation 4 and -1, vertical 10 and 0 are 18
    ∷ objects "A0,0,0,0,1,1,N,\"x\"" 18 4 4
    ∷ objects "A0,0,0,6,1,1,N,\"x\"" 18 4 4
    ∷ objects "A0,0,4,1,1,1,N,\"x\"" 18 3 4
    ∷ objects "A0,0,-1,1,1,1,N,\"x\"" 18 3 4
    ∷ objects "B0,0,4,1,2,2,9,B,\"x\"" 18 3 4
    ∷ objects "B0,0,-1,1,2,2,9,B,\"x\"" 18 3 4
    ∷ objects "A0,0,0,1,1,10,N,\"x\"" 18 6 4
    ∷ objects "A0,0,0,1,1,0,N,\"x\"" 18 6 4
    -- the ends of each range
    ∷ fine "A0,0,3,5,6,9,N,\"x\"\nA-1,+2,0,1,1,1,R,\"x\"\nB0,0,3,1,2,2,9,B,\"x\"\nB0,0,0,1,2,2,9,N,\"x\""
    -- `GW`: 10, 11, 12, 17 and 18, 13
    ∷ objects "GW0,0,0,," 18 3 4
    ∷ objects "GW0,0,1,," 17 4 1
    ∷ fine "GW0,0,1,0,"
    ∷ objects "GW,,,," 17 1 1
    ∷ refuses "GW0,0,-1,1," 11 0
    ∷ refuses "GW,,1" 10 0
    ∷ refuses "GW,,1,1," 12 0
    ∷ judges (ascii "R1\nGW2147483647,0,0,0,") (record { number = 18; field = 3; held = 4; place = 3 })
    -- `R1,` and `R7,2,3` are 17, `R1` is fine
    ∷ objects "R1," 17 2 1
    ∷ objects "R7,2,3" 17 2 2
    ∷ objects "R1x,2" 17 1 2
    ∷ fine "R1"
    ∷ fine "R1,2"
    -- "every number field that has a default must hold a value": each of each command, empty; those of `R` and some of
    -- `A`, `B`, `X` and `GW` stand above and below
    ∷ objects "A,0,0,1,1,1,N,\"x\"" 17 1 1
    ∷ objects "A0,,0,1,1,1,N,\"x\"" 17 2 1
    ∷ objects "A0,0,0,,1,1,N,\"x\"" 17 4 1
    ∷ objects "A0,0,0,1,,1,N,\"x\"" 17 5 1
    ∷ objects "A0,0,0,1,1,,N,\"x\"" 17 6 1
    ∷ objects "B,0,0,1,2,2,9,B,\"x\"" 17 1 1
    ∷ objects "B0,,0,1,2,2,9,B,\"x\"" 17 2 1
    ∷ objects "B0,0,,1,2,2,9,B,\"x\"" 17 3 1
    ∷ objects "B0,0,0,1,2,,9,B,\"x\"" 17 6 1
    ∷ objects "B0,0,0,1,2,2,,B,\"x\"" 17 7 1
    ∷ objects "b,2,Q,s3,\"x\"" 17 1 1
    ∷ objects "b1,,Q,s3,\"x\"" 17 2 1
    ∷ objects "LO,2,3,4" 17 1 1
    ∷ objects "LO1,,3,4" 17 2 1
    ∷ objects "LO1,2,,4" 17 3 1
    ∷ objects "LO1,2,3," 17 4 1
    ∷ objects "LW,2,3,4" 17 1 1
    ∷ objects "LW1,,3,4" 17 2 1
    ∷ objects "LW1,2,,4" 17 3 1
    ∷ objects "LW1,2,3," 17 4 1
    ∷ objects "LE,2,3,4" 17 1 1
    ∷ objects "LE1,,3,4" 17 2 1
    ∷ objects "LE1,2,,4" 17 3 1
    ∷ objects "LE1,2,3," 17 4 1
    ∷ objects "LS,2,3,4,5" 17 1 1
    ∷ objects "LS1,,3,4,5" 17 2 1
    ∷ objects "LS1,2,,4,5" 17 3 1
    ∷ objects "LS1,2,3,,5" 17 4 1
    ∷ objects "LS1,2,3,4," 17 5 1
    ∷ objects "X,2,3,4,5" 17 1 1
    ∷ objects "X1,,3,4,5" 17 2 1
    ∷ objects "X1,2,3,,5" 17 4 1
    ∷ objects "X1,2,3,4," 17 5 1
    ∷ objects "GW0,,1,0," 17 2 1
    ∷ objects "GW0,0,,0," 17 3 1
    -- exempt: parameters of `b`, counts of print lines, "`A`, `B`, `b` lines that nothing is read from", fields past
    -- those that are read
    ∷ fine "b1,2,Q,s99999999999,\"x\""
    ∷ fine "LO1,2,3,4\nP99999999999"
    ∷ fine "A,,,,,,N\"\""
    ∷ fine "A,,,,,,N\"\"\nB,,,\nb,\"x"
    ∷ fine "LO1,2,3,4,,x\nX1,2,3,4,5,,x"
    -- the field count first, then 17 and 18, then type, data size, 13, 19
    ∷ refuses "A,,9,,1,1,,\"x\"" 1 0
    ∷ refuses "LO,,9" 4 0
    ∷ judges (ascii "R1\nLO2147483647,0,,1") (record { number = 17; field = 3; held = 1; place = 3 })
    ∷ refuses "R1\nLO2147483647,0,1,1" 13 3
    ∷ objects "X2147483647,0,,-1,0" 17 3 1
    ∷ refuses "X2147483647,0,1,-1,0" 19 0
    -- the earliest line, whatever it is refused for
    ∷ refuses "X1\nR1," 6 0
    ∷ objects "R1,\nLO1" 17 2 1
    ∷ judges (ascii "N\n R1,\nX1") (record { number = 17; field = 2; held = 1; place = 2 })
    -- the listing under the profile is the plain one, or the refusal
    ∷ strictly (ascii "R10,20\nLO5,6,30,4\nP1\n")
    (text (ascii "00000000010000000100000001\n020000000f0000001a0000001e000000040000000400\n"))
    ∷ strictly (ascii "LO5,6,30,4\nR1,\nP1\n") (denied 17 11)
    ∷ strictly (ascii "GW0,0,0,0,") (denied 18 0)
    ∷ strictly (ascii "LO5,6") (denied 4 0)
    ∷ []
