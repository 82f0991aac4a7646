-- Inner: a template filled from a flat element. No claim rests on these: what they give is proved to be what is spelled
-- (`command_is`, SpellLaws).
use Rattle.std.specs.Prelude.{◌≡◌, cond, List, [], ◌∷◌, ◌++◌, ℕ, ◌+◌, ◌-◌, ◌/◌, ◌≤◌, eqb, ltb, ℤ, pos, nat_abs, ◌+ℤ◌, length}
use Rattle.std.specs.Int.Signed.{lt_z}
use Rattle.text.specs.Ascii.{letter}
use Rattle.numbers.specs.Int.{in32, eq_z}
use Rattle.decimals.specs.Decimal.{decimal}
use Rattle.structs.specs.declared.answer.Element.{Element}

abbrev pub field_at : Element → ℕ → ℤ
field_at e i =
    cond (eqb i 0) e.x (cond (eqb i 1) e.y (cond (eqb i 2) e.width (cond (eqb i 3) e.height
    (cond (eqb i 4) e.thickness (cond (eqb i 5) e.row_bytes (cond (eqb i 6) e.security
    (cond (eqb i 7) e.columns (cond (eqb i 8) e.rows (cond (eqb i 9) e.magnification (cond (eqb i 10) e.size
    (cond (eqb i 11) e.mode (cond (eqb i 12) e.font (cond (eqb i 13) e.horizontal
    (cond (eqb i 14) e.vertical e.wide))))))))))))))

-- a sum that has 32 bits, else 0
abbrev pub far : ℤ → ℤ → ℤ
far a b = cond (in32 (a +ℤ b)) (a +ℤ b) (pos 0)

-- the lines of a graphic, 0 where row is none or they are too many
abbrev pub lines : ℕ → ℤ → ℤ
lines len row =
    cond (lt_z row (pos 1)) (pos 0) (cond (ltb 2147483647 (len / nat_abs row)) (pos 0) (pos (len / nat_abs row)))

abbrev pub number_at : Element → ℕ → ℤ
number_at e i =
    cond (ltb i 16) (field_at e i)
    (cond (eqb i 16) (far e.x e.width)
    (cond (eqb i 17) (far e.y e.height) (lines e.data_len e.row_bytes)))

abbrev pub either : ℕ → ℕ → ℕ → ℕ
either flag a b = cond (eqb flag 1) a b

abbrev pub colour_letter : ℕ → ℕ
colour_letter c = cond (eqb c 0) (letter "O") (cond (eqb c 1) (letter "W") (letter "E"))

abbrev pub turn_letter : ℕ → ℕ
turn_letter r = cond (eqb r 0) (letter "0") (cond (eqb r 1) (letter "1") (cond (eqb r 2) (letter "2") (letter "3")))

abbrev pub mode_first : ℤ → ℕ
mode_first m = cond (eq_z m (pos 1)) (letter "0") (letter "1")

abbrev pub mode_second : ℤ → ℕ
mode_second m = cond (eq_z m (pos 3)) (letter "E") 0

abbrev pub letter_at : Element → ℕ → ℕ
letter_at e i =
    cond (eqb i 0) (either e.reverse (letter "R") (letter "N"))
    (cond (eqb i 1) (either e.line (letter "B") (letter "N"))
    (cond (eqb i 2) (colour_letter e.colour)
    (cond (eqb i 3) (either e.truncate (letter "1") (letter "0"))
    (cond (eqb i 4) e.level
    (cond (eqb i 5) (mode_first e.mode)
    (cond (eqb i 6) (mode_second e.mode)
    (cond (eqb i 7) (either e.check (letter "C") 0) (turn_letter e.rotation))))))))

-- a byte, none for 0
abbrev pub letter_of : ℕ → List ℕ
letter_of b = cond (eqb b 0) [] (b ∷ [])

-- what stands where b stands in a template: b itself, nothing for 0; from 128 on one of nineteen numbers; from 148 on
-- one of nine letters; then the data d
abbrev pub slot : Element → List ℕ → ℕ → List ℕ
slot e d b =
    cond (ltb b 128) (letter_of b)
    (cond (ltb b 148) (decimal (number_at e (b - 128)))
    (cond (ltb b 160) (letter_of (letter_at e (b - 148))) d))

unfoldable pub fill : Element → List ℕ → List ℕ → List ℕ
fill e d [] = []
fill e d (b ∷ t) = slot e d b ++ fill e d t

-- what `slot_len` answers, len being the length of the data
pub record SlotLen (e : Element) (len b r : ℕ) : Type 0 where
  pub is : (d : List ℕ) → length d ≡ len → r ≡ length (slot e d b)
  pub small : r ≤ 11 + len

-- what `fill_len` answers
pub record FillLen (e : Element) (len : ℕ) (t : List ℕ) (r : ℕ) : Type 0 where
  pub is : (d : List ℕ) → length d ≡ len → r ≡ length (fill e d t)
  pub small : r ≤ 1073742528
