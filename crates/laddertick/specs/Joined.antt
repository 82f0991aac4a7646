-- 01, "Joining two files", on pairs of files: the joined text, character by character, and what `list` writes for it;
-- or the refusal, and which file was refused. `joined` (proofs/JoinedRows.antt): every row holds.
use Rattle.std.specs.Prelude.{List, [], ◌∷◌, ℕ}
use Prim.Native.String.{String}
use Rattle.elements.specs.Given.{text, denied}
use Rattle.text.specs.Ascii.{ascii, spelt}
use Rattle.laddertick.specs.Table.{Case, lists, joins}

-- How the rows are written: lines, each with its LF; two files and the lines of the joined text; a file by its lines,
-- and what `list` writes for it; two files, the file that is refused, number and place
abbrev lines : List String → List ℕ
lines [] = []
lines (l ∷ ls) = spelt l (10 ∷ lines ls)

abbrev unites : String → String → List String → Case
unites s t j = joins (ascii s) (ascii t) 0 (text (lines j))

abbrev listing : List String → List String → Case
listing s f = lists (lines s) (lines f)

abbrev refuses : String → String → ℕ → ℕ → ℕ → Case
refuses s t f n p = joins (ascii s) (ascii t) f (denied n p)

-- two labels and two labels
abbrev four : List String
four =
    "R100,200" ∷ "LO1,2,3,4" ∷ "P1" ∷ "LO5,6,7,8" ∷ "P2,3"
    ∷ "N"
    ∷ "LO9,10,11,12" ∷ "P4" ∷ "R1,1" ∷ "LO13,14,15,16" ∷ "P5,6" ∷ []

-- two elements that no print line prints, then a label and an element behind it
abbrev unprinted : List String
unprinted = "LO1,2,3,4" ∷ "LO5,6,7,8" ∷ "N" ∷ "LO9,10,11,12" ∷ "P1" ∷ "LO13,14,15,16" ∷ []

abbrev pub table : List Case
table =
    -- empty and empty is the line alone
    unites "" "" ("N" ∷ [])
    ∷ listing ("N" ∷ []) []
    -- the reference of the first is not the second's
    ∷ unites "R100,200\nLO1,2,3,4\nP1\nLO5,6,7,8\nP2,3" "LO9,10,11,12\nP4\nR1,1\nLO13,14,15,16\nP5,6" four
    ∷ listing four
    ("00000000010000000100000001" ∷ "0200000065000000ca00000003000000040000000300"
    ∷ "00000000010000000200000003" ∷ "0200000069000000ce00000007000000080000000700"
    ∷ "00000000010000000400000001" ∷ "02000000090000000a0000000b0000000c0000000b00"
    ∷ "00000000010000000500000006" ∷ "020000000e0000000f0000000f000000100000000f00" ∷ [])
    -- what is pending in the first is neither printed nor counted; what is pending in the second is counted
    ∷ unites "LO1,2,3,4\n LO5,6,7,8" "LO9,10,11,12\nP1\nLO13,14,15,16" unprinted
    ∷ listing unprinted
    ("00000000010000000100000001" ∷ "02000000090000000a0000000b0000000c0000000b00" ∷ "fe00000001" ∷ [])
    ∷ unites "LO1,2,3,4" "" ("LO1,2,3,4" ∷ "N" ∷ [])
    ∷ listing ("LO1,2,3,4" ∷ "N" ∷ []) []
    -- graphic blocks of both, one of them at the end of its file and with an LF in its payload
    ∷ unites "GW1,2,1,2,x\n" " GW3,4,1,1,y\t\n\nP1" ("GW1,2,1,2,x" ∷ "" ∷ "N" ∷ " GW3,4,1,1,y" ∷ "P1" ∷ [])
    -- the first file's refusal, whatever the second is; the second's
    ∷ refuses "N\nLO1" "" 1 4 2
    ∷ refuses "N\nLO1" "\nA1,\"x\"" 1 4 2
    ∷ refuses "N\nLO1,2,3,4" "\nA1,\"x\"" 2 1 1
    ∷ refuses "" "GW1" 2 10 0
    ∷ []
