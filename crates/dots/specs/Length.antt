-- One length (01, "From 203 to 300 dots"): "the nearest whole number to 300/203 of the old".
use Rattle.std.specs.Prelude.{ℕ, ◌≤◌, cond, ℤ, pos, nat_abs, ◌+ℤ◌, ◌-ℤ◌, ◌*ℤ◌}
use Rattle.std.specs.Int.Signed.{shr_z}
use Rattle.numbers.specs.Int.{in32}
use Rattle.dots.specs.declared.length.Converted.{Converted}
use Rattle.dots.specs.declared.length.Converted.TheVariants.{Dots, Outside}

-- how far 203 times z is from 300 times n: 203 times the distance of z from 300/203 of n
abbrev pub error : ℤ → ℤ → ℕ
error n z = nat_abs (pos 203 *ℤ z -ℤ pos 300 *ℤ n)

-- z is as near as any whole number
abbrev pub Nearest : ℤ → ℤ → Type 0
Nearest n z = (w : ℤ) → error n z ≤ error n w

-- "203 times the new value differs from 300 times the old by at most 101, also below zero"
abbrev pub Near : ℤ → ℤ → Type 0
Near n z = error n z ≤ 101

-- 300/203 of n and a half, rounded down
unfoldable pub to300 : ℤ → ℤ
to300 n = shr_z (pos 600 *ℤ n +ℤ pos 203) 406

-- z where it has 32 bits
abbrev pub converted : ℤ → Converted
converted z = cond (in32 z) (Dots (record { 0 = z })) Outside
