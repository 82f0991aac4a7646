-- Which command a line spells, its blanks off, by its letters (01, "Grammar"). Nothing here speaks of how it is told:
-- `command_of` is proved to tell it.
use Rattle.std.specs.Prelude.{List, [], ◌∷◌, ◌++◌, ℕ, ◌≤◌}
use Rattle.elements.specs.declared.LineColor.TheVariants.{Black, White, Xor}
use Rattle.command_letters.specs.declared.command.Command.{Command}
use Rattle.command_letters.specs.declared.command.Command.TheVariants.{Clear, Reference, Data, Line}
use Rattle.command_letters.specs.declared.command.Command.TheVariants.{Diagonal, Box, Print}
use Rattle.command_letters.specs.declared.command.Command.TheVariants.{Other}
use Rattle.command_letters.specs.declared.command.DataCommand.TheVariants.{Text, Barcode, Barcode2d}
use Rattle.text.specs.Ascii.{ascii, letter, spelt}

-- 0 to 9
abbrev pub Digit : ℕ → Type 0
Digit b = (letter "0" ≤ b) × (b ≤ letter "9")

abbrev pub Digits : List ℕ → Type 0
Digits [] = Unit
Digits (b ∷ s) = Digit b × Digits s

-- the letters of each command; no line has those of two
pub data Letters : Command → List ℕ → Type 0 where
  -- "`N`; `R` and a digit"
  is_n : Letters Clear (ascii "N")
  is_r : {d : ℕ} {t : List ℕ} → Digit d → Letters Reference (spelt "R" (d ∷ t))
  -- "`A`, `B`, `b`"
  is_a : {t : List ℕ} → Letters (Data Text) (spelt "A" t)
  is_b : {t : List ℕ} → Letters (Data Barcode) (spelt "B" t)
  is_2d : {t : List ℕ} → Letters (Data Barcode2d) (spelt "b" t)
  -- "`LO`, `LW`, `LE` ..; `LS`, `X`"; "`LO` (black), `LW` (white) and `LE` (exclusive-OR)"
  is_lo : {t : List ℕ} → Letters (Line Black) (spelt "LO" t)
  is_lw : {t : List ℕ} → Letters (Line White) (spelt "LW" t)
  is_le : {t : List ℕ} → Letters (Line Xor) (spelt "LE" t)
  is_ls : {t : List ℕ} → Letters Diagonal (spelt "LS" t)
  is_x : {t : List ℕ} → Letters Box (spelt "X" t)
  -- "`P` or `P` with digits"; "`P`, at least one digit, comma, at least one digit .., no blanks between"
  is_p : {t : List ℕ} → Digits t → Letters Print (spelt "P" t)
  is_p_p : (d : ℕ) (t : List ℕ) (e : ℕ) (u : List ℕ) → Digits (d ∷ t) → Digits (e ∷ u)
      → Letters Print (spelt "P" ((d ∷ t) ++ spelt "," (e ∷ u)))

-- "anything else is passed over"
pub data Spells : Command → List ℕ → Type 0 where
  by_letters : {c : Command} {t : List ℕ} → Letters c t → Spells c t
  else : {t : List ℕ} → ((c : Command) → Letters c t → ⊥) → Spells Other t
