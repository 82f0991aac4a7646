-- Which command a line spells by its first letters, its blanks off (01, "Grammar").
use Rattle.std.specs.Prelude.{ℕ, Bool, cond, ◌&&◌, List, eqb, get_or, drop}
use Prim.Native.String.{String}
use Rattle.text.specs.Ascii.{ascii, letter}
use Rattle.text.specs.Class.{is_digit}
use Rattle.text.specs.Fields.{same}
use Rattle.elements.specs.declared.LineColor.TheVariants.{Black, White, Xor}
use Rattle.command_letters.specs.Print.{is_counts}
use Rattle.command_letters.specs.declared.command.Command.{Command}
use Rattle.command_letters.specs.declared.command.Command.TheVariants.{Clear, Reference, Data}
use Rattle.command_letters.specs.declared.command.Command.TheVariants.{Line, Diagonal, Box}
use Rattle.command_letters.specs.declared.command.Command.TheVariants.{Print, Other}
use Rattle.command_letters.specs.declared.command.DataCommand.TheVariants.{Text, Barcode, Barcode2d}

-- the first byte of t is the letter c
abbrev pub first : String → List ℕ → Bool
first c t = eqb (get_or t 0 0) (letter c)

-- the second byte of t is the letter c
abbrev pub second : String → List ℕ → Bool
second c t = eqb (get_or t 1 0) (letter c)

-- "`R` and a digit"
unfoldable pub is_reference : List ℕ → Bool
is_reference t = first "R" t && is_digit (get_or t 1 0)

-- `P` and nothing, a count, or two counts
unfoldable pub is_print : List ℕ → Bool
is_print t = first "P" t && is_counts (drop 1 t)

-- the command of a line whose blanks are off, "Tested in this order"
unfoldable pub command_of : List ℕ → Command
command_of t =
    cond (same t (ascii "N")) Clear
    (cond (is_reference t) Reference
    (cond (first "A" t) (Data Text)
    (cond (first "B" t) (Data Barcode)
    (cond (first "b" t) (Data Barcode2d)
    (cond (first "L" t && second "O" t) (Line Black)
    (cond (first "L" t && second "W" t) (Line White)
    (cond (first "L" t && second "E" t) (Line Xor)
    (cond (first "L" t && second "S" t) Diagonal
    (cond (first "X" t) Box
    (cond (is_print t) Print Other))))))))))
