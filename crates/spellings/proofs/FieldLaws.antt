-- A parameter part spelled by numbers, read field by field: each number is the one given.
-- Assumes nothing.
use mathlib.Core.Path.{◌≡◌, refl, ap, ◌∙◌}
use mathlib.Core.Bool.{true}
use mathlib.Core.List.{List, [], ◌∷◌, map}
use Prim.Native.Nat.{ℕ, ◌<◌}
use native.Mathlib.Omega.{arith}
use lib.IntN.{ℤ, pos, negsuc, +ℤ_idr}
use lib.Signed.{mag, le_z}
use borrow.Author.Tests.{leb-true, le-ltb}
use Rattle.text.specs.Fields.{after, fields, before}
use Rattle.numbers.specs.Int.{max_z}
use Rattle.numbers.proofs.IntLaws.{checked_in}
use Rattle.elements.specs.declared.LabelPosition.{LabelPosition}
use Rattle.parameters.specs.declared.position.Placed.TheVariants as placing
use Rattle.parameters.specs.FieldValues.{size_or, point_of}
use Rattle.parameters.specs.Position.{placed}
use Rattle.decimals.specs.Decimal.{decimal}
use Rattle.decimals.specs.Joined.{Without, closed}
use Rattle.decimals.proofs.JoinedLaws.{before_here, after_here, before_all, fields_all, fields_closed}
use Rattle.decimals.proofs.ReadLaws.{Ends, ends_append, decimal_ends, decimal_without, field_decimal}
use Rattle.spellings.specs.Draws.{numbers}

-- a signed number of 32 bits
abbrev pub In32 : ℤ → Type 0
In32 z = mag z < 2147483648

abbrev pub origin : LabelPosition
origin = record { x = pos 0; y = pos 0 }

comma_free : (z : ℤ) → Without 44 (decimal z)
comma_free z = decimal_without 44 refl (λ e. omega arith) z

-- the field in front, and what follows it

pub before_closed : (z : ℤ) (s : List ℕ) → before 44 (closed (decimal z) s) ≡ decimal z
before_closed z s = before_here 44 (decimal z) s (comma_free z)

pub after_closed : (z : ℤ) (s : List ℕ) → after 44 (closed (decimal z) s) ≡ s
after_closed z s = after_here 44 (decimal z) s (comma_free z)

-- of a list of numbers

pub before_front : (z : ℤ) (zs : List ℤ) → before 44 (numbers z zs) ≡ decimal z
unfolding numbers
before_front z [] = before_all 44 (decimal z) (comma_free z)
before_front z (y ∷ zs) = before_closed z (numbers y zs)

pub after_front : (z y : ℤ) (zs : List ℤ) → after 44 (numbers z (y ∷ zs)) ≡ numbers y zs
unfolding numbers
after_front z y zs = after_closed z (numbers y zs)

-- the fields of numbers are their spellings
pub fields_numbers : (z : ℤ) (zs : List ℤ) → fields (numbers z zs) ≡ decimal z ∷ map decimal zs
unfolding numbers
fields_numbers z [] = fields_all (decimal z) (comma_free z)
fields_numbers z (y ∷ zs) = fields_closed (decimal z) (numbers y zs) (comma_free z) ∙ ap (λ (l : List (List ℕ)). decimal z ∷ l) (fields_numbers y zs)

pub numbers_ends : (z : ℤ) (zs : List ℤ) → Ends (numbers z zs)
unfolding numbers
numbers_ends z [] = decimal_ends z
numbers_ends z (y ∷ zs) = ends_append (decimal z) (44 ∷ numbers y zs) (ends_append (44 ∷ []) (numbers y zs) (numbers_ends y zs))

-- least value 1

pub max_one : (z : ℤ) → le_z (pos 1) z ≡ true → max_z z (pos 1) ≡ z
max_one (pos n) h = simp (le-ltb n 1 (leb-true 1 n h))
max_one (negsuc n) h = cc

pub size_decimal : (d z : ℤ) → In32 z → le_z (pos 1) z ≡ true → size_or d (decimal z) ≡ z
unfolding size_or
size_decimal d z h l = ap (λ (k : ℤ). max_z k (pos 1)) (field_decimal d z h) ∙ max_one z l

pub point_decimal : (x y : ℤ) → In32 x → In32 y → point_of (decimal x) (decimal y) ≡ record { x = x; y = y }
unfolding point_of
point_decimal x y h g = simp (field_decimal (pos 0) x h, field_decimal (pos 0) y g)

-- at reference 0,0 a position is its own place
pub placed_origin : (x y : ℤ) → In32 x → In32 y → placed x y origin ≡ placing.At (record { x = x; y = y })
unfolding placed
placed_origin x y h g = rw (+ℤ_idr x, +ℤ_idr y, checked_in x h, checked_in y g)
