-- The units of an EPL file and where they stand (01, "Grammar"). Nothing here speaks of how they are found.
use Rattle.std.specs.Prelude.{◌≡◌, Bool, true, not, List, [], ◌∷◌, ◌++◌, ℕ, ◌*◌, ◌<◌, eqb, ℤ, pos, length}
use Rattle.text.specs.Blank.{trim}
use Rattle.numbers.specs.Number.{field_or}
use Rattle.graphics.specs.Block.{is_line_blank, in_field}
use Rattle.text.specs.Ascii.{spelt}
use Rattle.grammar.specs.LineFaults.{LineFault}

-- the four fields of a graphic block, as they stand between the commas
pub record Header : Type 0 where
  pub x : List ℕ
  pub y : List ℕ
  pub width : List ℕ
  pub lines : List ℕ

-- a graphic block: its blanks, its fields, its payload; a command line that LF ends, without that LF; one that the
-- end of input ends
pub data EplUnit : Type 0 where
  block : List ℕ → Header → List ℕ → EplUnit
  line : List ℕ → EplUnit
  last : List ℕ → EplUnit

-- a field, closed by a comma, before s
abbrev pub closed : List ℕ → List ℕ → List ℕ
closed f s = f ++ 44 ∷ s

-- `GW` and the four fields before s
abbrev pub gw : Header → List ℕ → List ℕ
gw h s = spelt "GW" (closed h.x (closed h.y (closed h.width (closed h.lines s))))

-- "A line's LF belongs to it"
abbrev pub bytes : EplUnit → List ℕ
bytes (block bs h payload) = bs ++ gw h payload
bytes (line t) = t ++ 10 ∷ []
bytes (last t) = t

-- each byte of s is one that p takes
pub data All (p : ℕ → Bool) : List ℕ → Type 0 where
  all_nil : All p []
  all_cons : {b : ℕ} {s : List ℕ} → p b ≡ true → All p s → All p (b ∷ s)

abbrev pub not_lf : ℕ → Bool
not_lf b = not (eqb b 10)

-- a number field's value, 0 by default
abbrev pub number : List ℕ → ℤ
number f = field_or (pos 0) f

pub record Block (bs : List ℕ) (h : Header) (payload : List ℕ) : Type 0 where
  -- "ASCII blanks other than LF (20, 09, 0c, 0d)"
  pub blanks : All is_line_blank bs
  -- "four fields each closed by a comma, no LF before the fourth comma"
  pub in_x : All in_field h.x
  pub in_y : All in_field h.y
  pub in_width : All in_field h.width
  pub in_lines : All in_field h.lines
  -- "then width × lines bytes, neither negative"
  pub w : ℕ
  pub l : ℕ
  pub width_is : number h.width ≡ pos w
  pub lines_is : number h.lines ≡ pos l
  pub whole : length payload ≡ w * l

-- what follows the leading ASCII blanks of s begins with `GW`
pub record Opens (s : List ℕ) : Type 0 where
  pub bs : List ℕ
  pub header : List ℕ
  pub cut : s ≡ bs ++ spelt "GW" header
  pub blanks : All is_line_blank bs

pub record Command (t : List ℕ) : Type 0 where
  -- "no LF inside"
  pub one_line : All not_lf t
  -- "what follows its leading ASCII blanks within the line doesn't begin with `GW`"
  pub no_graphic : Opens t → ⊥
  -- "After its Unicode blanks .. are taken off both ends it must be well formed": none of its faults
  pub is_well_formed : (n : ℕ) → LineFault (trim t) n → ⊥

-- a unit stands before what follows it: a line is "ended by LF or, if not empty, by the end of input"
abbrev pub Stands : EplUnit → List ℕ → Type 0
Stands (block bs h payload) rest = Block bs h payload
Stands (line t) rest = Command t
Stands (last t) rest = Command t × (0 < length t) × (rest ≡ [])
