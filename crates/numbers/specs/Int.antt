-- Sums, differences, absolute values and products at 32 bits, over the integers (01, "Who causes which number", 13
-- and 19).
use Rattle.std.specs.Prelude.{ℕ, ◌-◌, Bool, false, cond, eqb, ltb, ℤ, pos, negsuc, nat_abs}
use Rattle.std.specs.Int.Signed.{mag, lt_z}
use Rattle.numbers.specs.declared.int.Checked.{Checked}
use Rattle.numbers.specs.declared.int.Checked.TheVariants.{Fits, Outside}

-- z is a signed number of 32 bits
abbrev pub in32 : ℤ → Bool
in32 z = ltb (mag z) 2147483648

-- z where it is a signed number of 32 bits
abbrev pub checked : ℤ → Checked
checked z = cond (in32 z) (Fits z) Outside

-- the smaller of two
abbrev pub min_z : ℤ → ℤ → ℤ
min_z a b = cond (lt_z a b) a b

-- the greater of two
abbrev pub max_z : ℤ → ℤ → ℤ
max_z a b = cond (lt_z a b) b a

-- how far z is from 0
abbrev pub abs_z : ℤ → ℤ
abs_z z = pos (nat_abs z)

-- two numbers are the same
abbrev pub eq_z : ℤ → ℤ → Bool
eq_z (pos a) (pos b) = eqb a b
eq_z (pos a) (negsuc b) = false
eq_z (negsuc a) (pos b) = false
eq_z (negsuc a) (negsuc b) = eqb a b

-- two's complement at 32 bits (01, "Frames")
abbrev pub twos : ℤ → ℕ
twos (pos n) = n
twos (negsuc n) = 4294967295 - n
