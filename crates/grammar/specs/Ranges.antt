-- "every position and size within signed 32 bits" (01, "For demand 3"), from the fields of a unit and the reference
-- alone. No answer of a reader is asked: which command a line has, its parameters and its numbers are.
use Rattle.std.specs.Prelude.{◌≡◌, cond, List, [], ◌∷◌, ◌++◌, ◌⊎◌, ℕ, ◌<◌, eqb, ℤ, pos, negsuc, ◌+ℤ◌, ◌-ℤ◌, ◌*ℤ◌, drop}
use Rattle.text.specs.Blank.{trim}
use Rattle.text.specs.Fields.{field}
use Rattle.numbers.specs.Int.{min_z, abs_z, eq_z}
use Rattle.numbers.specs.Number.{field_or}
use Rattle.elements.specs.declared.LabelElement.{LabelElement}
use Rattle.elements.specs.declared.LabelPosition.{LabelPosition}
use Rattle.parameters.specs.FieldValues.{size_or}
use Rattle.command_letters.specs.declared.command.Command.{Command}
use Rattle.command_letters.specs.declared.command.Command.TheVariants.{Clear, Reference, Data, Line}
use Rattle.command_letters.specs.declared.command.Command.TheVariants.{Diagonal, Box, Print}
use Rattle.command_letters.specs.declared.command.Command.TheVariants.{Other}
use Rattle.command_letters.specs.declared.command.DataCommand.{DataCommand}
use Rattle.command_letters.specs.declared.command.DataCommand.TheVariants.{Text, Barcode, Barcode2d}
use Rattle.command_letters.specs.Command.{command_of}
use Rattle.commands.specs.Line.{params_of}
use Rattle.walk_theory.specs.Language.{keep, clear, yield, print}
use Rattle.grammar.specs.Units.{EplUnit, block, line, last, number}
use Rattle.grammar.specs.WellFormed.{is_read}
use Rattle.grammar.specs.Epl.{origin, EplPrint, EplAct}

-- "within signed 32 bits"; `negsuc n` is −1 − n
abbrev pub Signed32 : ℤ → Type 0
Signed32 (pos n) = n < 2147483648
Signed32 (negsuc n) = n < 2147483648

abbrev pub AllFit : List ℤ → Type 0
AllFit [] = Unit
AllFit (z ∷ zs) = Signed32 z × AllFit zs

abbrev pub OneOut : List ℤ → Type 0
OneOut [] = ⊥
OneOut (z ∷ zs) = (Signed32 z → ⊥) ⊎ OneOut zs

-- "Positions and sizes are the sums with the reference, differences, their absolute values and font products"

-- "The reference is added to every position"
abbrev pub sums : ℤ → ℤ → LabelPosition → List ℤ
sums x y r = (x +ℤ r.x) ∷ (y +ℤ r.y) ∷ []

-- "fonts 1 to 5 are 8×12, 10×16, 12×20, 14×24, 32×48 (width × height); any other is 8×12"
abbrev pub cell : {A : Type 0} → ℤ → (ℤ → ℤ → A) → A
cell n go =
    cond (eq_z n (pos 2)) (go (pos 10) (pos 16))
    (cond (eq_z n (pos 3)) (go (pos 12) (pos 20))
    (cond (eq_z n (pos 4)) (go (pos 14) (pos 24))
    (cond (eq_z n (pos 5)) (go (pos 32) (pos 48))
    (go (pos 8) (pos 12)))))

-- "Text height is font height times vertical multiplier; width equals height if the multipliers are equal, else
-- height × (horizontal × font width) / height"
abbrev pub products : ℤ → ℤ → ℤ → List ℤ
products n h v = cell n λ width height. (height *ℤ v) ∷ cond (eq_z h v) [] ((h *ℤ width) ∷ [])

-- ".. width and height are the absolute differences"
abbrev pub differences : ℤ → ℤ → ℤ → ℤ → List ℤ
differences x1 y1 x2 y2 = (x2 -ℤ x1) ∷ (y2 -ℤ y1) ∷ abs_z (x2 -ℤ x1) ∷ abs_z (y2 -ℤ y1) ∷ []

-- ---- every position and size, by command

-- "`A`: x, y, rotation, font, horizontal multiplier, vertical multiplier, .."; "`B`: x, y, .."; "`b`: x, y, .."
abbrev pub data_numbers : DataCommand → List ℕ → LabelPosition → List ℤ
data_numbers Text s r =
    sums (number (field s 0)) (number (field s 1)) r
    ++ products (field_or (pos 1) (field s 3)) (size_or (pos 1) (field s 4)) (size_or (pos 1) (field s 5))
data_numbers Barcode s r = sums (number (field s 0)) (number (field s 1)) r
data_numbers Barcode2d s r = sums (number (field s 0)) (number (field s 1)) r

-- "the position is the smaller of each pair, width and height are the absolute differences"
abbrev pub between : ℤ → ℤ → ℤ → ℤ → LabelPosition → List ℤ
between x1 y1 x2 y2 r = sums (min_z x1 x2) (min_z y1 y2) r ++ differences x1 y1 x2 y2

-- "`LS` and `X` (black): x1, y1, thickness, x2, y2"
abbrev pub corner_numbers : List ℕ → LabelPosition → List ℤ
corner_numbers s r = between (number (field s 0)) (number (field s 1)) (number (field s 3)) (number (field s 4)) r

-- the numbers that must fit for a line t that spells c, at the reference r
abbrev pub numbers_as : Command → List ℕ → LabelPosition → List ℤ
-- "Fewer than two quotes, or no data: nothing is read"
numbers_as (Data c) t r = cond (is_read t) (data_numbers c (params_of t) r) []
-- "`LO` (black), `LW` (white) and `LE` (exclusive-OR): x, y, .."
numbers_as (Line c) t r = sums (number (field (drop 2 t) 0)) (number (field (drop 2 t) 1)) r
numbers_as Diagonal t r = corner_numbers (drop 2 t) r
numbers_as Box t r = corner_numbers (drop 1 t) r
numbers_as Clear t r = []
numbers_as Reference t r = []
numbers_as Print t r = []
numbers_as Other t r = []

-- the numbers that must fit for a unit at the reference r; "`GW`: x, y, .."
abbrev pub numbers_of : LabelPosition → EplUnit → List ℤ
numbers_of r (block bs h p) = sums (number h.x) (number h.y) r
numbers_of r (line t) = numbers_as (command_of (trim t)) (trim t) r
numbers_of r (last t) = numbers_as (command_of (trim t)) (trim t) r

-- ---- the sums with the reference among them: 13

abbrev pub corner_sums : List ℕ → LabelPosition → List ℤ
corner_sums s r =
    sums (min_z (number (field s 0)) (number (field s 3))) (min_z (number (field s 1)) (number (field s 4))) r

abbrev pub sums_as : Command → List ℕ → LabelPosition → List ℤ
sums_as (Data c) t r = cond (is_read t) (sums (number (field (params_of t) 0)) (number (field (params_of t) 1)) r) []
sums_as (Line c) t r = sums (number (field (drop 2 t) 0)) (number (field (drop 2 t) 1)) r
sums_as Diagonal t r = corner_sums (drop 2 t) r
sums_as Box t r = corner_sums (drop 1 t) r
sums_as Clear t r = []
sums_as Reference t r = []
sums_as Print t r = []
sums_as Other t r = []

abbrev pub sums_of : LabelPosition → EplUnit → List ℤ
sums_of r (block bs h p) = sums (number h.x) (number h.y) r
sums_of r (line t) = sums_as (command_of (trim t)) (trim t) r
sums_of r (last t) = sums_as (command_of (trim t)) (trim t) r

-- ---- the sizes among them, which no reference is added to: 19

abbrev pub data_sizes : DataCommand → List ℕ → List ℤ
data_sizes Text s = products (field_or (pos 1) (field s 3)) (size_or (pos 1) (field s 4)) (size_or (pos 1) (field s 5))
data_sizes Barcode s = []
data_sizes Barcode2d s = []

abbrev pub corner_sizes : List ℕ → List ℤ
corner_sizes s = differences (number (field s 0)) (number (field s 1)) (number (field s 3)) (number (field s 4))

abbrev pub sizes_as : Command → List ℕ → List ℤ
sizes_as (Data c) t = cond (is_read t) (data_sizes c (params_of t)) []
sizes_as Diagonal t = corner_sizes (drop 2 t)
sizes_as Box t = corner_sizes (drop 1 t)
sizes_as (Line c) t = []
sizes_as Clear t = []
sizes_as Reference t = []
sizes_as Print t = []
sizes_as Other t = []

abbrev pub sizes_of : EplUnit → List ℤ
sizes_of (block bs h p) = []
sizes_of (line t) = sizes_as (command_of (trim t)) (trim t)
sizes_of (last t) = sizes_as (command_of (trim t)) (trim t)

-- the number of a unit that has one outside at the reference r: "13 a sum with the reference", "19 a size .., directly
-- after 13"
pub data Beyond (r : LabelPosition) (u : EplUnit) : ℕ → Type 0 where
  position : OneOut (sums_of r u) → Beyond r u 13
  size : AllFit (sums_of r u) → OneOut (sizes_of u) → Beyond r u 19

-- the same where positions and sizes have one number, 13
abbrev pub Beyond13 : LabelPosition → EplUnit → ℕ → Type 0
Beyond13 r u n = OneOut (numbers_of r u) × (n ≡ 13)

-- "`R`: x, then everything after the first comma as y; without a comma y stays"
abbrev pub y_of : List ℕ → ℤ → ℤ
y_of [] y = y
y_of (b ∷ s) y = cond (eqb b 44) (number s) (y_of s y)

-- "`R` and `N` set the reference"; "`N` .. sets the reference to 0,0"
abbrev pub ref_as : Command → List ℕ → LabelPosition → LabelPosition
ref_as Reference t r = record { x = number (field (drop 1 t) 0); y = y_of (drop 1 t) r.y }
ref_as Clear t r = origin
ref_as (Data c) t r = r
ref_as (Line c) t r = r
ref_as Diagonal t r = r
ref_as Box t r = r
ref_as Print t r = r
ref_as Other t r = r

abbrev pub ref_after : LabelPosition → EplUnit → LabelPosition
ref_after r (block bs h p) = r
ref_after r (line t) = ref_as (command_of (trim t)) (trim t) r
ref_after r (last t) = ref_as (command_of (trim t)) (trim t) r

-- every unit's numbers fit at the reference that stands there, "of dropped elements too"
abbrev pub InRange : LabelPosition → List EplUnit → Type 0
InRange r [] = Unit
InRange r (u ∷ us) = AllFit (numbers_of r u) × InRange (ref_after r u) us

-- what a unit does: "an element that the unit yields becomes pending; `N` drops what is pending; a print line ..
-- prints it"
pub data Role : Type 0 where
  passes : Role
  clears : Role
  yields : Role
  prints : EplPrint → Role

-- "label sets and, after a comma, copies"; "A count that is absent or too large for signed 32 bits is 1"
abbrev pub counts_in : List ℕ → EplPrint
counts_in t = record { sets = field_or (pos 1) (field (drop 1 t) 0); copies = field_or (pos 1) (field (drop 1 t) 1) }

abbrev pub role_as : Command → List ℕ → Role
role_as (Data c) t = cond (is_read t) yields passes
role_as (Line c) t = yields
role_as Diagonal t = yields
role_as Box t = yields
role_as Clear t = clears
role_as Reference t = passes
role_as Print t = prints (counts_in t)
role_as Other t = passes

abbrev pub role_of : EplUnit → Role
role_of (block bs h p) = yields
role_of (line t) = role_as (command_of (trim t)) (trim t)
role_of (last t) = role_as (command_of (trim t)) (trim t)

-- an act of a role at the reference r, after which the reference is q: it is kept where an element is yielded or a
-- label printed
abbrev pub Does : Role → LabelPosition → LabelPosition → EplAct → Type 0
Does passes r q a = a ≡ keep q
Does clears r q a = a ≡ clear q
Does yields r q a = (e : LabelElement) × (a ≡ yield e) × (q ≡ r)
Does (prints c) r q a = (a ≡ print c) × (q ≡ r)
