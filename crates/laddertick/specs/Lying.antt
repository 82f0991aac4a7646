-- 01, "What lies where", on files: what is found on one label. `lying` (proofs/Lying.antt): every row holds.
use Rattle.std.specs.Prelude.{◌≡◌, List, [], ◌∷◌, ℕ, ℤ, pos, negsuc}
use Prim.Native.String.{String}
use Rattle.text.specs.Ascii.{ascii}
use Rattle.elements.specs.Given.{Due, text, denied}
use Rattle.elements.specs.declared.LabelPosition.{LabelPosition}
use Rattle.label_index.specs.declared.entry.LabelEntry.{LabelEntry}
use Rattle.where_element.specs.declared.place.Rectangle.{Rectangle}
use Rattle.where_element.specs.Found.{Spot, element, refused}
use Rattle.where_label.specs.Found.{inside_due, touching_due, nearest_due}

-- a file and its entries, the number of an entry, a rectangle or a point, and what is due
pub data Row : Type 0 where
  inside : List ℕ → List LabelEntry → ℕ → Rectangle → Due → Row
  touching : List ℕ → List LabelEntry → ℕ → Rectangle → Due → Row
  nearest : List ℕ → List LabelEntry → ℕ → LabelPosition → Spot → Row

abbrev pub Holds : List Row → Type 0
Holds [] = Unit
Holds (inside s es i b d ∷ rs) = (inside_due s es i b ≡ d) × Holds rs
Holds (touching s es i b d ∷ rs) = (touching_due s es i b ≡ d) × Holds rs
Holds (nearest s es i q d ∷ rs) = (nearest_due s es i q ≡ d) × Holds rs

-- How the rows are written
abbrev entry : ℕ → ℕ → ℕ → ℤ → ℤ → LabelEntry
entry first last count x y = record { first = first; last = last; count = count; reference = record { x = x; y = y } }

abbrev box : ℤ → ℤ → ℤ → ℤ → Rectangle
box x1 y1 x2 y2 = record { x1 = x1; y1 = y1; x2 = x2; y2 = y2 }

abbrev point : ℤ → ℤ → LabelPosition
point x y = record { x = x; y = y }

-- the second label has what stands behind its `N`: a box from 11, 22 to 44, 66, a text at 100, 200, a diagonal from
-- 300, 410 to 350, 470, and a box that ends past 32 bits
abbrev file : String
file = "LO1,2,3,4\nP\nLO5,6,7,8\nN\nLO11,22,33,44\nA100,200,0,1,1,1,N,\"a\"\nLS300,410,5,350,470\nLO2147483000,9,2147483647,1\nP\n"

abbrev entries : List LabelEntry
entries = entry 0 12 1 (pos 0) (pos 0) ∷ entry 12 111 4 (pos 0) (pos 0) ∷ []

abbrev pub table : List Row
table =
    -- "closed": the edges belong to it; numbers from 0 in the label, what `N` dropped has none
    inside (ascii file) entries 1 (box (pos 11) (pos 22) (pos 100) (pos 200)) (text (0 ∷ 1 ∷ []))
    ∷ inside (ascii file) entries 1 (box (pos 12) (pos 22) (pos 300) (pos 410)) (text (1 ∷ 2 ∷ []))
    -- in the columns of the rectangle, below it and above it
    ∷ inside (ascii file) entries 1 (box (pos 11) (pos 22) (pos 100) (pos 199)) (text (0 ∷ []))
    ∷ inside (ascii file) entries 1 (box (pos 11) (pos 23) (pos 100) (pos 200)) (text (1 ∷ []))
    ∷ inside (ascii file) entries 0 (box (pos 1) (pos 2) (pos 1) (pos 2)) (text (0 ∷ []))
    ∷ inside (ascii file) entries 0 (box (pos 5) (pos 6) (pos 5) (pos 6)) (text [])
    -- far edges: 11 + 33, 22 + 44; 300 + 50, 410 + 60; a text has no rectangle of its own
    ∷ touching (ascii file) entries 1 (box (pos 44) (pos 66) (pos 300) (pos 410)) (text (0 ∷ 2 ∷ []))
    ∷ touching (ascii file) entries 1 (box (pos 45) (pos 66) (pos 299) (pos 470)) (text [])
    ∷ touching (ascii file) entries 1 (box (pos 350) (pos 470) (pos 999) (pos 999)) (text (2 ∷ []))
    -- apart along y alone: the diagonal begins below the rectangle, the box ends above it
    ∷ touching (ascii file) entries 1 (box (pos 44) (pos 66) (pos 300) (pos 409)) (text (0 ∷ []))
    ∷ touching (ascii file) entries 1 (box (pos 11) (pos 67) (pos 44) (pos 409)) (text [])
    -- the diagonal's width along x and its height along y, without its thickness
    ∷ touching (ascii file) entries 1 (box (pos 351) (pos 410) (pos 999) (pos 999)) (text [])
    ∷ touching (ascii file) entries 1 (box (pos 300) (pos 471) (pos 350) (pos 999)) (text [])
    -- "those boxes and diagonals": a graphic, a bar code and a 2D code at the same place are none
    ∷ touching (ascii "GW5,5,1,1,a\nB5,5,0,E30,2,2,9,N,\"1\"\nb5,5,Q,\"1\"\nLO5,5,1,1\nP")
    (entry 0 57 4 (pos 0) (pos 0) ∷ []) 0 (box (pos 0) (pos 0) (pos 9) (pos 9)) (text (3 ∷ []))
    -- "An element's far edges may pass 32 bits and must not wrap"
    ∷ touching (ascii file) entries 1 (box (pos 2147483647) (pos 10) (pos 2147483647) (pos 10)) (text (3 ∷ []))
    ∷ touching (ascii file) entries 1 (box (negsuc 0) (pos 9) (pos 0) (pos 10)) (text [])
    -- "by the larger of the two distances along x and y": of 60, 60 the text is 140 away, the box 49
    ∷ nearest (ascii file) entries 1 (point (pos 60) (pos 60)) (element 0)
    ∷ nearest (ascii file) entries 1 (point (pos 101) (pos 150)) (element 1)
    ∷ nearest (ascii file) entries 1 (point (pos 290) (pos 900)) (element 2)
    -- "the earlier one if equal": 100 from both of 0, 0 and 200, 0
    ∷ nearest (ascii "LO0,0,1,1\nLO200,0,1,1\nLO100,101,1,1\nP") (entry 0 37 3 (pos 0) (pos 0) ∷ []) 0
    (point (pos 100) (pos 0)) (element 0)
    -- the larger of 70 and 70 is less than 100, their sum is not
    ∷ nearest (ascii "LO100,0,1,1\nLO70,70,1,1\nP") (entry 0 25 2 (pos 0) (pos 0) ∷ []) 0 (point (pos 0) (pos 0))
    (element 1)
    -- the smaller distance has no part: 100 and 0, 99 and 99
    ∷ nearest (ascii "LO100,0,1,1\nLO99,99,1,1\nP") (entry 0 25 2 (pos 0) (pos 0) ∷ []) 0 (point (pos 0) (pos 0))
    (element 1)
    -- a distance past 32 bits
    ∷ nearest (ascii "LO2147483647,0,1,1\nLO0,0,1,1\nP") (entry 0 30 2 (pos 0) (pos 0) ∷ []) 0
    (point (negsuc 2147483647) (pos 0)) (element 1)
    -- "22 a rectangle whose far corner is below its near one on either axis (place 0), directly after 14 and before 21"
    ∷ inside (ascii file) entries 7 (box (pos 2) (pos 1) (pos 1) (pos 1)) (denied 22 0)
    ∷ touching (ascii file) entries 7 (box (pos 1) (pos 2) (pos 1) (pos 1)) (denied 22 0)
    -- "all checks of opening"
    ∷ inside (ascii file) entries 7 (box (pos 1) (pos 1) (pos 1) (pos 1)) (denied 21 7)
    ∷ touching (ascii file) (entry 3 2 1 (pos 0) (pos 0) ∷ []) 0 (box (pos 1) (pos 1) (pos 1) (pos 1)) (denied 16 2)
    ∷ nearest (ascii file) entries 2 (point (pos 1) (pos 1)) (refused 21 2)
    ∷ nearest (ascii file) (entry 0 5 1 (pos 0) (pos 0) ∷ []) 0 (point (pos 1) (pos 1)) (refused 4 0)
    ∷ []
