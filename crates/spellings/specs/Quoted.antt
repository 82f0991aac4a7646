-- A line with data as it is written (01, "Writing EPL"): the letter, the fields, a comma, the data between quotes.
use Rattle.std.specs.Prelude.{List, [], ◌∷◌, ◌++◌, ℕ, ◌+◌, ℤ, length}
use Rattle.text.specs.Ascii.{letter}
use Rattle.elements.specs.declared.DataSpan.{DataSpan}
use Rattle.command_letters.specs.declared.command.DataCommand.{DataCommand}
use Rattle.command_letters.specs.declared.command.DataCommand.TheVariants.{Text, Barcode, Barcode2d}
use Rattle.decimals.specs.Decimal.{decimal}
use Rattle.decimals.specs.Joined.{closed}

abbrev pub letter_of : DataCommand → ℕ
letter_of Text = letter "A"
letter_of Barcode = letter "B"
letter_of Barcode2d = letter "b"

-- data d between quotes
abbrev pub quotes : List ℕ → List ℕ
quotes d = 34 ∷ (d ++ (34 ∷ []))

-- the command c with the parameters s and the data d
unfoldable pub quoted_line : DataCommand → List ℕ → List ℕ → List ℕ
quoted_line c s d = letter_of c ∷ closed s (quotes d)

-- where the data stands in it
abbrev pub span_in : List ℕ → List ℕ → DataSpan
span_in s d = record { start = length s + 3; len = length d }

-- numbers, each closed by a comma, before s
unfoldable pub numbers_then : List ℤ → List ℕ → List ℕ
numbers_then [] s = s
numbers_then (z ∷ zs) s = closed (decimal z) (numbers_then zs s)
