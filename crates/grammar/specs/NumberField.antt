-- A number field (01, "Grammar"), by its characters. `field_number` is proved to be what it held, `field_or` its value.
use Rattle.std.specs.Prelude.{◌≡◌, List, [], ◌∷◌, ℕ, ◌+◌, ◌-◌, ◌*◌, ℤ, pos, neg_ℤ}
use Rattle.text.specs.Ascii.{spelt}
use Rattle.text.specs.Blank.{trim}
use Rattle.numbers.specs.declared.number.Number.{Number}
use Rattle.numbers.specs.declared.number.Number.TheVariants.{Value, Empty, NoNumber, Beyond}
use Rattle.grammar.specs.Spelled.{Digits}
use Rattle.grammar.specs.Ranges.{Signed32}

-- the value of digits that follow others of the value n
abbrev pub decimal : ℕ → List ℕ → ℕ
decimal n [] = n
decimal n (b ∷ s) = decimal (n * 10 + (b - 48)) s

-- "an optional sign and at least one digit"
pub data Writes : List ℕ → ℤ → Type 0 where
  unsigned : {b : ℕ} {s : List ℕ} → Digits (b ∷ s) → Writes (b ∷ s) (pos (decimal 0 (b ∷ s)))
  plus : {b : ℕ} {s : List ℕ} → Digits (b ∷ s) → Writes (spelt "+" (b ∷ s)) (pos (decimal 0 (b ∷ s)))
  minus : {b : ℕ} {s : List ℕ} → Digits (b ∷ s) → Writes (spelt "-" (b ∷ s)) (neg_ℤ (pos (decimal 0 (b ∷ s))))

-- what a field held: "a value, an empty field, a field that is no number, and a number beyond 32 bits"
pub data Held (f : List ℕ) : Number → Type 0 where
  a_value : {z : ℤ} → Writes (trim f) z → Signed32 z → Held f (Value z)
  empty : trim f ≡ [] → Held f Empty
  no_number : (trim f ≡ [] → ⊥) → ((z : ℤ) → Writes (trim f) z → ⊥) → Held f NoNumber
  beyond : {z : ℤ} → Writes (trim f) z → (Signed32 z → ⊥) → Held f Beyond

-- "A number field, Unicode blanks off, is an optional sign and at least one digit, within signed 32 bits, else its
-- default"
pub data NumberField (d : ℤ) (f : List ℕ) : ℤ → Type 0 where
  given : {z : ℤ} → Writes (trim f) z → Signed32 z → NumberField d f z
  default : ((z : ℤ) → Writes (trim f) z → Signed32 z → ⊥) → NumberField d f d
