-- What is wrong with what stands first in a string, and its number (01, "Who causes which number"). Nothing here
-- speaks of how it is found.
use Rattle.std.specs.Prelude.{◌≡◌, cond, List, [], ◌∷◌, ◌++◌, ◌⊎◌, ℕ, zero, suc, ◌*◌, ◌<◌, eqb, ℤ, pos, negsuc, length}
use Rattle.text.specs.Blank.{trim}
use Rattle.graphics.specs.Block.{is_line_blank, in_field}
use Rattle.grammar.specs.LineFaults.{LineFault}
use Rattle.grammar.specs.Units.{Header, gw, All, not_lf, number, Opens}

-- the end of input, or an LF
abbrev pub Ends : List ℕ → Type 0
Ends [] = Unit
Ends (b ∷ s) = b ≡ 10

-- the line that stands first, without its LF
pub record FirstLine (s t : List ℕ) : Type 0 where
  pub rest : List ℕ
  pub cut : s ≡ t ++ rest
  pub one_line : All not_lf t
  pub ends : Ends rest

abbrev pub commas : List ℕ → ℕ
commas [] = zero
commas (b ∷ s) = cond (eqb b 44) (suc (commas s)) (commas s)

-- "`GW`, four fields each closed by a comma, no LF before the fourth comma", before q
pub record Headed (s : List ℕ) (h : Header) (q : List ℕ) : Type 0 where
  pub bs : List ℕ
  pub cut : s ≡ bs ++ gw h q
  pub blanks : All is_line_blank bs
  pub in_x : All in_field h.x
  pub in_y : All in_field h.y
  pub in_width : All in_field h.width
  pub in_lines : All in_field h.lines

abbrev pub Negative : ℤ → Type 0
Negative (pos n) = ⊥
Negative (negsuc n) = Unit

pub data Fault (s : List ℕ) : ℕ → Type 0 where
  -- "10 fewer than four commas" before an LF or the end
  few_commas : {t : List ℕ} (o : Opens s) → FirstLine o.header t → commas t < 4 → Fault s 10
  -- "11 negative"
  negative : {h : Header} {q : List ℕ}
      → Headed s h q → Negative (number h.width) ⊎ Negative (number h.lines) → Fault s 11
  -- "12 payload passes the end"
  past_end : {h : Header} {q : List ℕ} {w l : ℕ}
      → Headed s h q → number h.width ≡ pos w → number h.lines ≡ pos l → length q < w * l → Fault s 12
  -- a command line that is not well formed
  ill_formed : {t : List ℕ} {n : ℕ} → FirstLine s t → (Opens t → ⊥) → LineFault (trim t) n → Fault s n
