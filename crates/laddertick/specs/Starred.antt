-- The starred cases of 01 ("Corners") and its worked example ("Frames"). `starred` (proofs/Starred.antt): every row
-- holds.
use Rattle.std.specs.Prelude.{Bool, true, false, List, [], ◌∷◌, ℕ, Float, pos, negsuc}
use Rattle.std.specs.Float.{binary64}
use Rattle.std.specs.Float.Ieee.{of_int}
use Rattle.elements.specs.declared.FieldOrientation.TheVariants.{Normal}
use Rattle.elements.specs.declared.LabelElement.{LabelElement}
use Rattle.elements.specs.declared.LabelElement.TheVariants.{Text, GraphicBox, DiagonalLine, GraphicField}
use Rattle.elements.specs.declared.LabelPosition.{LabelPosition}
use Rattle.elements.specs.declared.LineColor.TheVariants.{Black}
use Rattle.walk_theory.specs.Step.{state, element, cleared, printed, ended, refused}
use Rattle.grammar.specs.Epl.{origin, EplPrint}
use Rattle.walk.specs.Steps.{EplAnswer}
use Rattle.laddertick.specs.Table.{fresh, Case, case, normal, listing}

-- How the rows are written:

-- the end, at n, with k elements pending at the reference 0,0: "The end prints nothing"
abbrev closes : ℕ → ℕ → List EplAnswer
closes n k = ended (state n origin k) ∷ []

-- one element that reaches to the end
abbrev alone : ℕ → LabelElement → List EplAnswer
alone n e = element e (state n origin 1) ∷ closes n 1

-- one set, one copy
abbrev once : EplPrint
once = record { sets = pos 1; copies = pos 1 }

-- a whole number as f64
abbrev f64 : ℕ → Float
f64 n = of_int binary64 (pos n)

abbrev point : ℕ → ℕ → LabelPosition
point x y = record { x = pos x; y = pos y }

-- the text of the `A` lines below, by its horizontal multiplier, its height and its width
abbrev text : ℕ → ℕ → ℕ → LabelElement
text m h w =
    Text
    (record {
      position = point 1 2;
      reverse_print = false;
      scale = record { font = pos 1; horizontal = pos m; vertical = pos 1 };
      font = record { height = f64 h; width = f64 w; rotation = Normal };
      text = record { start = 16; len = 1 };
    })

-- a box by its width, height and thickness
abbrev box : LabelPosition → ℕ → ℕ → ℕ → LabelElement
box at w h t =
    GraphicBox (record {
      position = at;
      width = pos w;
      height = pos h;
      border_thickness = pos t;
      line_color = Black;
    })

-- a diagonal of thickness 1 by its width, height and direction
abbrev diagonal : LabelPosition → ℕ → ℕ → Bool → LabelElement
diagonal at w h d =
    DiagonalLine (record {
      position = at;
      width = pos w;
      height = pos h;
      border_thickness = pos 1;
      top_to_bottom = d;
    })

-- a graphic at 0,0 by its row bytes, and the place and length of its payload
abbrev graphic : ℕ → ℕ → ℕ → LabelElement
graphic w start len =
    GraphicField (record { position = origin; row_bytes = pos w; «data» = record { start = start; len = len } })

abbrev pub table : List Case
table =
    -- "Empty input: accepted, no labels."
    case "" (ended fresh ∷ [])
    -- "`R1,2` then `R7`: reference 7,2. `R7,` gives y 0; so does `R7,2,3`. `R-1` is no reference line."
    ∷ case "R1,2\nR7" (ended (state 7 (point 7 2) 0) ∷ [])
    ∷ case "R1,2\nR7," (ended (state 8 (point 7 0) 0) ∷ [])
    ∷ case "R1,2\nR7,2,3" (ended (state 11 (point 7 0) 0) ∷ [])
    ∷ case "R1,2\nR-1" (ended (state 8 (point 1 2) 0) ∷ [])
    -- "`N` alone drops pending elements and sets the reference to 0,0."
    ∷ case "R1,2\nLO1,2,3,4\nN\nLO1,2,3,4"
    (element (box (point 2 4) 3 4 3) (state 15 (point 1 2) 1) ∷ cleared (state 17 origin 0)
    ∷ alone 26 (box (point 1 2) 3 4 3))
    -- "the starred `P1,1` turns": it prints the first box, as `P1` does; `P1,` prints nothing, and both are pending
    ∷ case "LO1,2,3,4\nP1,1\nLO5,6,7,8\n"
    (element (box (point 1 2) 3 4 3) (state 10 origin 1) ∷ printed 1 once (state 15 origin 0)
    ∷ alone 25 (box (point 5 6) 7 8 7))
    ∷ case "LO1,2,3,4\nP1\nLO5,6,7,8\n"
    (element (box (point 1 2) 3 4 3) (state 10 origin 1) ∷ printed 1 once (state 13 origin 0)
    ∷ alone 23 (box (point 5 6) 7 8 7))
    ∷ case "LO1,2,3,4\nP1,\nLO5,6,7,8\n"
    (element (box (point 1 2) 3 4 3) (state 10 origin 1) ∷ element (box (point 5 6) 7 8 7) (state 24 origin 2)
    ∷ closes 24 2)
    -- "`A1,2,0,1,1,1,,"x"`: refused 1."
    ∷ case "A1,2,0,1,1,1,,\"x\"" (refused 1 0 fresh ∷ [])
    -- "`N` in the seventh field: height 12, width 12. With multipliers 2,1: height 12, width 16."
    ∷ case "A1,2,0,1,1,1,N,\"x\"" (alone 18 (text 1 12 12))
    ∷ case "A1,2,0,1,2,1,N,\"x\"" (alone 18 (text 2 12 16))
    -- "`LS5,5,1,5,5`: direction 1." "`LS0,0,1,9,0`: direction 0."
    ∷ case "LS5,5,1,5,5" (alone 11 (diagonal (point 5 5) 0 0 true))
    ∷ case "LS0,0,1,9,0" (alone 11 (diagonal origin 9 0 false))
    -- "The starred `X2147483647,0,1,-1,0` becomes 19." "`X2147483646,0,1,-1,0`: accepted, x −1, width 2147483647."
    ∷ case "X2147483647,0,1,-1,0" (refused 19 0 fresh ∷ [])
    ∷ case "X2147483646,0,1,-1,0" (alone 20 (box (record { x = negsuc 0; y = pos 0 }) 2147483647 0 1))
    -- "`B0,0,0,1D,2,2,9,B,"x"`: refused 7."
    ∷ case "B0,0,0,1D,2,2,9,B,\"x\"" (refused 7 0 fresh ∷ [])
    -- "`GW,,,,`: accepted, no bytes." "`GW1,2,3`: 10." "`GW0,0,-1,1,`: 11."
    ∷ case "GW,,,," (alone 6 (graphic 0 6 0))
    ∷ case "GW1,2,3" (refused 10 0 fresh ∷ [])
    ∷ case "GW0,0,-1,1," (refused 11 0 fresh ∷ [])
    -- "`GW0,0,1,1,` at the end of input: 12. With one LF after it: payload 0a."
    ∷ case "GW0,0,1,1," (refused 12 0 fresh ∷ [])
    ∷ case "GW0,0,1,1,\n" (alone 11 (graphic 1 10 1))
    -- "` N ` CR LF becomes `N` LF. A malformed `GW` line is normalised as text, so `GW0,0,1,1,` becomes a line that
    -- then reads as a block."
    ∷ normal " N \r\n" "N\n"
    ∷ normal "GW0,0,1,1," "GW0,0,1,1,\n"
    -- with too few commas, or a negative width: the blanks at its ends go, and what follows is normalised too
    ∷ normal " GW1,2,3 \nN" "GW1,2,3\nN\n"
    ∷ normal "GW0,0,-1,1,x \nN" "GW0,0,-1,1,x\nN\n"
    -- so is a line that is refused; hexadecimal 0c is an ASCII blank
    ∷ normal "LO1\n N\n" "LO1\nN\n"
    ∷ normal "\u{c}N\u{c}\n" "N\n"
    -- "hexadecimal 0b before `GW` stays; one left empty is dropped"
    ∷ normal "\u{b}GW,,,, \n \t\n" "\u{b}GW,,,,\n"
    -- "every other line, and every block, copied whole, is followed by one LF"
    ∷ normal " GW1,2,1,3,a\n N\n" " GW1,2,1,3,a\n \nN\n"
    -- the worked example: "`R10,20`, `LO5,6,30,4`, `P1`, each with LF"
    ∷ case "R10,20\nLO5,6,30,4\nP1\n"
    (element (box (point 15 26) 30 4 4) (state 18 (point 10 20) 1) ∷ printed 1 once (state 21 (point 10 20) 0)
    ∷ ended (state 21 (point 10 20) 0) ∷ [])
    ∷ listing "R10,20\nLO5,6,30,4\nP1\n" "00000000010000000100000001\n020000000f0000001a0000001e000000040000000400\n"
    -- "the listing ends with frame fe and their count, only if there are some": two boxes behind the print line
    ∷ listing "R10,20\nLO5,6,30,4\nP1\nLO1,2,3,4\nLO5,6,7,8\n"
    "00000000010000000100000001\n020000000f0000001a0000001e000000040000000400\nfe00000002\n"
    -- "`N` drops what is pending": none are left
    ∷ listing "LO1,2,3,4\nN\n" ""
    ∷ []
