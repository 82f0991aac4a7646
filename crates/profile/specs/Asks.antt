-- 01, "The well-site profile": what it asks of the fields of a file, by the commands that are spelled and their fields
-- alone. Nothing here speaks of how it is checked: `objection` is proved to tell it.
use Rattle.std.specs.Prelude.{◌≡◌, cond, List, [], ◌∷◌, ◌++◌, ◌⊎◌, ℕ, suc, ◌+◌, ◌*◌, ◌≤◌, eqb, ℤ, pos, negsuc, length, drop}
use Rattle.text.specs.Blank.{trim}
use Rattle.text.specs.Fields.{field}
use Rattle.elements.specs.declared.LabelPosition.{LabelPosition}
use Rattle.numbers.specs.declared.number.Number.TheVariants.{Value, Empty, NoNumber, Beyond}
use Rattle.command_letters.specs.declared.command.Command.{Command}
use Rattle.command_letters.specs.declared.command.Command.TheVariants.{Clear, Reference, Data, Line}
use Rattle.command_letters.specs.declared.command.Command.TheVariants.{Diagonal, Box, Print}
use Rattle.command_letters.specs.declared.command.Command.TheVariants.{Other}
use Rattle.command_letters.specs.declared.command.DataCommand.{DataCommand}
use Rattle.command_letters.specs.declared.command.DataCommand.TheVariants.{Text, Barcode, Barcode2d}
use Rattle.command_letters.specs.Command.{command_of}
use Rattle.commands.specs.Line.{params_of}
use Rattle.grammar.specs.LineFaults.{LineFault}
use Rattle.grammar.specs.Units.{Header, EplUnit, block, line, last, bytes, number, Opens, Stands}
use Rattle.grammar.specs.WellFormed.{is_read}
use Rattle.grammar.specs.NumberField.{Held}
use Rattle.grammar.specs.Faults.{FirstLine, Headed}
use Rattle.grammar.specs.Ranges.{AllFit, numbers_of, ref_after}

-- what a field must hold: any value, or one of a range
pub data Rule : Type 0 where
  any : Rule
  rotation : Rule
  font : Rule
  horizontal : Rule
  vertical : Rule
  width : Rule

abbrev pub Between : ℕ → ℕ → ℤ → Type 0
Between lo hi (pos n) = (lo ≤ n) × (n ≤ hi)
Between lo hi (negsuc n) = ⊥

abbrev pub AtLeast : ℕ → ℤ → Type 0
AtLeast lo (pos n) = lo ≤ n
AtLeast lo (negsuc n) = ⊥

-- "rotation is 0 to 3, font 1 to 5, horizontal multiplier 1 to 6 or 8, vertical 1 to 9, and `GW` width is at least 1"
abbrev pub Allows : Rule → ℤ → Type 0
Allows any z = Unit
Allows rotation z = Between 0 3 z
Allows font z = Between 1 5 z
Allows horizontal z = Between 1 6 z ⊎ (z ≡ pos 8)
Allows vertical z = Between 1 9 z
Allows width z = AtLeast 1 z

-- a field that is asked for a value: its number, counted from 1, and what it must hold
pub record Ask : Type 0 where
  pub number : ℕ
  pub rule : Rule
  pub field : List ℕ

abbrev pub ask : ℕ → Rule → List ℕ → Ask
ask n q f = record { number = n; rule = q; field = f }

-- the k-th field of s, from 0
abbrev pub nth : List ℕ → ℕ → Rule → Ask
nth s k q = ask (suc k) q (field s k)

-- "every number field that has a default":
-- "`A`: x, y, rotation, font, horizontal multiplier, vertical multiplier, .."; "`B`: x, y, rotation, type, narrow bar,
-- wide bar, bar height, .."; "`b`: x, y, ..": "Parameters of `b` past its type are exempt"
abbrev pub data_asks : DataCommand → List ℕ → List Ask
data_asks Text s =
    nth s 0 any ∷ nth s 1 any ∷ nth s 2 rotation ∷ nth s 3 font ∷ nth s 4 horizontal ∷ nth s 5 vertical ∷ []
data_asks Barcode s = nth s 0 any ∷ nth s 1 any ∷ nth s 2 rotation ∷ nth s 4 any ∷ nth s 5 any ∷ nth s 6 any ∷ []
data_asks Barcode2d s = nth s 0 any ∷ nth s 1 any ∷ []

-- "`LO` (black), `LW` (white) and `LE` (exclusive-OR): x, y, width, height"
abbrev pub side_asks : List ℕ → List Ask
side_asks s = nth s 0 any ∷ nth s 1 any ∷ nth s 2 any ∷ nth s 3 any ∷ []

-- "`LS` and `X` (black): x1, y1, thickness, x2, y2"
abbrev pub corner_asks : List ℕ → List Ask
corner_asks s = nth s 0 any ∷ nth s 1 any ∷ nth s 2 any ∷ nth s 3 any ∷ nth s 4 any ∷ []

-- "`R`: x, then everything after the first comma as y": exempt is "the y that a one-field `R` lacks"
abbrev pub y_ask : List ℕ → List Ask
y_ask [] = []
y_ask (b ∷ s) = cond (eqb b 44) (ask 2 any s ∷ []) (y_ask s)

-- "`GW`: x, y, width in bytes (the row bytes), lines"
abbrev pub header_asks : Header → List Ask
header_asks h = ask 1 any h.x ∷ ask 2 any h.y ∷ ask 3 width h.width ∷ ask 4 any h.lines ∷ []

-- of a line t, its blanks off, that spells c; exempt are "`A`, `B`, `b` lines that nothing is read from"
abbrev pub asks_as : Command → List ℕ → List Ask
asks_as (Data c) t = cond (is_read t) (data_asks c (params_of t)) []
asks_as (Line c) t = side_asks (drop 2 t)
asks_as Diagonal t = corner_asks (drop 2 t)
asks_as Box t = corner_asks (drop 1 t)
asks_as Reference t = nth (drop 1 t) 0 any ∷ y_ask (drop 1 t)
asks_as Clear t = []
asks_as Print t = []
asks_as Other t = []

abbrev pub asks_of : EplUnit → List Ask
asks_of (block bs h p) = header_asks h
asks_of (line t) = asks_as (command_of (trim t)) (trim t)
asks_of (last t) = asks_as (command_of (trim t)) (trim t)

-- ---- met
-- it "must hold a value", and one in its range: as it stands, "before least values"
abbrev pub Meets : Ask → Type 0
Meets a = (z : ℤ) × Held a.field (Value z) × Allows a.rule z

abbrev pub AllMeet : List Ask → Type 0
AllMeet [] = Unit
AllMeet (a ∷ qs) = Meets a × AllMeet qs

-- every field of every unit
abbrev pub InProfile : List EplUnit → Type 0
InProfile [] = Unit
InProfile (u ∷ us) = AllMeet (asks_of u) × InProfile us

-- ---- not met
-- "17 a field with no value", which held 1 nothing, 2 no number, 3 one beyond 32 bits; "18 a value outside the
-- profile", 4
pub data Amiss (a : Ask) : ℕ → ℕ → Type 0 where
  empty : Held a.field Empty → Amiss a 17 1
  no_number : Held a.field NoNumber → Amiss a 17 2
  beyond : Held a.field Beyond → Amiss a 17 3
  outside : {z : ℤ} → Held a.field (Value z) → (Allows a.rule z → ⊥) → Amiss a 18 4

-- "first field first": the refusal's number, the field, what it held
pub data FirstAmiss : List Ask → ℕ → ℕ → ℕ → Type 0 where
  here : {a : Ask} {qs : List Ask} {n h : ℕ} → Amiss a n h → FirstAmiss (a ∷ qs) n a.number h
  later : {a : Ask} {qs : List Ask} {n k h : ℕ} → Meets a → FirstAmiss qs n k h → FirstAmiss (a ∷ qs) n k h

-- the fields that are asked of what stands first in s, whatever else is wrong with it: "both come after the field count
-- (for `GW` after 12) and before the type"; 1 to 6 are the faults of the count
pub data Asked (s : List ℕ) : List Ask → Type 0 where
  of_line : {t : List ℕ} → FirstLine s t → (Opens t → ⊥) → ((n : ℕ) → n ≤ 6 → LineFault (trim t) n → ⊥)
      → Asked s (asks_as (command_of (trim t)) (trim t))
  of_block : {h : Header} {q : List ℕ} {w l : ℕ} → Headed s h q → number h.width ≡ pos w → number h.lines ≡ pos l
      → w * l ≤ length q → Asked s (header_asks h)

-- s, which stands at a place with the reference r, is refused for a field of its earliest unit that is not as the
-- profile asks: number and place, the field, what it held. Every unit before it stands, is in range and is as asked
pub data Objected : List ℕ → ℕ → LabelPosition → ℕ → ℕ → ℕ → ℕ → Type 0 where
  amiss : {s : List ℕ} {at : ℕ} {r : LabelPosition} {qs : List Ask} {n k h : ℕ} → Asked s qs → FirstAmiss qs n k h
      → Objected s at r n at k h
  behind : (u : EplUnit) (rest : List ℕ) {s : List ℕ} {at : ℕ} {r : LabelPosition} {n p k h : ℕ} → s ≡ bytes u ++ rest
      → Stands u rest → AllFit (numbers_of r u) → AllMeet (asks_of u)
      → Objected rest (at + length (bytes u)) (ref_after r u) n p k h → Objected s at r n p k h
