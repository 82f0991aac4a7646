-- 01, "The well-site profile": what it has against the number fields of what stands first, a command line or the header
-- of a graphic block. A field is held to a rule, written as a letter: `R` rotation, `F` font, `H` and `V` multipliers,
-- `W` the width of `GW`; any small letter takes every value, and `-` stands for a field that is no number. A unit's
-- rules stand in the order of its fields. What an accepted file's fields hold is said apart from this, in Asks.
use Rattle.std.specs.Prelude.{ℕ, ◌+◌, Bool, true, cond, ◌&&◌, ◌||◌, List, [], ◌∷◌, eqb, ℤ, pos, length, take, drop}
use Rattle.std.specs.Int.Signed.{le_z}
use Rattle.text.specs.Ascii.{ascii, letter}
use Rattle.text.specs.Blank.{trim}
use Rattle.text.specs.Fields.{index_of, before, after}
use Rattle.numbers.specs.Int.{eq_z}
use Rattle.numbers.specs.Number.{field_number}
use Rattle.numbers.specs.declared.number.Number.{Number}
use Rattle.numbers.specs.declared.number.Number.TheVariants.{Value, Empty, NoNumber, Beyond}
use Rattle.profile.specs.declared.rule.Objection.{Objection}
use Rattle.profile.specs.declared.rule.Objection.TheVariants.{Fine, To}
use Rattle.profile.specs.declared.rule.Held.{Held}
use Rattle.profile.specs.declared.rule.Held.TheVariants as held
use Rattle.profile.specs.declared.unit.Looked.{Looked}
use Rattle.profile.specs.declared.unit.Looked.TheVariants.{Passed, Objected}
use Rattle.command_letters.specs.declared.command.Command.{Command}
use Rattle.command_letters.specs.declared.command.Command.TheVariants as command
use Rattle.command_letters.specs.declared.command.DataCommand.{DataCommand}
use Rattle.command_letters.specs.declared.command.DataCommand.TheVariants as data_command
use Rattle.command_letters.specs.Command.{command_of}
use Rattle.graphics.specs.declared.gw_span.Graphic.{Graphic}
use Rattle.graphics.specs.declared.gw_span.Graphic.TheVariants as graphic
use Rattle.graphics.specs.Block.{header_of, gw_span}
use Rattle.commands.specs.Line.{params_of}
use Rattle.grammar.specs.WellFormed.{at_least, is_read, data_counted}

-- "17 a field with no value", "18 a value outside the profile"
abbrev pub number_of : Held → ℕ
number_of held.Empty = 17
number_of held.NoNumber = 17
number_of held.Beyond = 17
number_of held.Outside = 18

-- what a field held: 1 nothing, 2 no number, 3 one beyond 32 bits, 4 a value outside the profile
abbrev pub kind_of : Held → ℕ
kind_of held.Empty = 1
kind_of held.NoNumber = 2
kind_of held.Beyond = 3
kind_of held.Outside = 4

-- lo to hi
abbrev pub between : ℤ → ℤ → ℤ → Bool
between lo hi z = le_z lo z && le_z z hi

-- "rotation is 0 to 3, font 1 to 5, horizontal multiplier 1 to 6 or 8, vertical 1 to 9, and `GW` width is at least 1";
-- the value itself, before its least value
unfoldable pub allowed : ℕ → ℤ → Bool
allowed q z =
    cond (eqb q (letter "R")) (between (pos 0) (pos 3) z)
    (cond (eqb q (letter "F")) (between (pos 1) (pos 5) z)
    (cond (eqb q (letter "H")) (between (pos 1) (pos 6) z || eq_z z (pos 8))
    (cond (eqb q (letter "V")) (between (pos 1) (pos 9) z)
    (cond (eqb q (letter "W")) (le_z (pos 1) z) true))))

-- "every number field that has a default must hold a value": what the k-th field held
abbrev pub judged : ℕ → ℕ → Number → Objection
judged k q (Value z) = cond (allowed q z) Fine (To k held.Outside)
judged k q Empty = To k held.Empty
judged k q NoNumber = To k held.NoNumber
judged k q Beyond = To k held.Beyond

-- the k-th field by its rule
unfoldable pub ruled : ℕ → ℕ → List ℕ → Objection
ruled k q f = cond (eqb q (letter "-")) Fine (judged k q (field_number f))

-- "first field first": the objection to a field comes before those to later ones
abbrev pub then : Objection → Objection → Objection
then Fine o = o
then (To k h) o = To k h

-- the fields of s, one after the other, by their rules; k fields stand before them
abbrev pub rules_from : ℕ → List ℕ → List ℕ → Objection
rules_from k [] s = Fine
rules_from k (q ∷ qs) s = then (ruled (k + 1) q (before 44 s)) (rules_from (k + 1) qs (after 44 s))

abbrev pub by_rules : List ℕ → List ℕ → Objection
by_rules qs s = rules_from 0 qs s

-- "both come after the field count": nothing is said of too few fields
abbrev pub if_counted : Bool → List ℕ → List ℕ → Objection
if_counted enough qs s = cond enough (by_rules qs s) Fine

-- `A`: x, y, rotation, font, horizontal, vertical. `B`: x, y, rotation, its type, which is no number, narrow, wide,
-- height. `b`: x, y: "Parameters of `b` past its type are exempt"
abbrev pub data_rules : DataCommand → List ℕ
data_rules data_command.Text = ascii "xyRFHV"
data_rules data_command.Barcode = ascii "xyR-nwh"
data_rules data_command.Barcode2d = ascii "xy"

-- `LO`, `LW`, `LE`: x, y, width, height
abbrev pub line_rules : List ℕ
line_rules = ascii "xywh"

-- `LS`, `X`: x, y, thickness, x, y
abbrev pub corner_rules : List ℕ
corner_rules = ascii "xytxy"

-- `GW`: x, y, width, lines
abbrev pub block_rules : List ℕ
block_rules = ascii "xyWl"

-- `R`: x, then all after the first comma as y; "the y that a one-field `R` lacks" is exempt
unfoldable pub reference_objection : List ℕ → Objection
reference_objection s =
    then (ruled 1 (letter "x") (before 44 s))
    (cond (eqb (index_of 44 s) (length s)) Fine (ruled 2 (letter "y") (after 44 s)))

-- `A`, `B`, `b` with their parameters s
abbrev pub data_objection : DataCommand → List ℕ → Objection
data_objection c s = if_counted (data_counted c s) (data_rules c) s

-- exempt: "`A`, `B`, `b` lines that nothing is read from"
unfoldable pub quoted_objection : DataCommand → List ℕ → Objection
quoted_objection c t = cond (is_read t) (data_objection c (params_of t)) Fine

-- a line t, its blanks off, that spells c
abbrev pub command_objection : Command → List ℕ → Objection
command_objection command.Clear t = Fine
command_objection command.Reference t = reference_objection (drop 1 t)
command_objection (command.Data c) t = quoted_objection c t
command_objection (command.Line c) t = if_counted (at_least 4 (drop 2 t)) line_rules (drop 2 t)
command_objection command.Diagonal t = if_counted (at_least 5 (drop 2 t)) corner_rules (drop 2 t)
command_objection command.Box t = if_counted (at_least 5 (drop 1 t)) corner_rules (drop 1 t)
command_objection command.Print t = Fine
command_objection command.Other t = Fine

unfoldable pub line_objection : List ℕ → Objection
line_objection line = command_objection (command_of (trim line)) (trim line)

-- what stands first: the line up to its LF; a block that is at fault; or one that is not, "for `GW` after 12"
abbrev pub objection_by : List ℕ → Graphic → Objection
objection_by s graphic.NoGraphic = line_objection (take (index_of 10 s) s)
objection_by s (graphic.Refused n) = Fine
objection_by s (graphic.Span g) = by_rules block_rules (header_of s)

unfoldable pub objection : List ℕ → Objection
objection s = objection_by s (gw_span s)

-- a look at it: how many bytes it has, where nothing is objected to
abbrev pub looked_as : Objection → ℕ → Looked
looked_as Fine size = Passed size
looked_as (To k h) size = Objected k h
