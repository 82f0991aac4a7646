-- A number as it is written (01, "Writing EPL", the team's spelling): digits with no zero in front, `-` before a
-- number below 0.
use Rattle.std.specs.Prelude.{◌≡◌, true, false, List, [], ◌∷◌, ◌++◌, ℕ, zero, suc, ◌+◌, ◌/◌, ◌%◌, ◌≤◌, ltb, length, ℤ, pos, negsuc}

-- the digits of n, which has at most k of them; by `elim`, so that a large n computes
abbrev pub digits_by : ℕ → ℕ → List ℕ
digits_by zero n = []
digits_by (suc k) n = elim (ltb n 10) [ true ↦ (48 + n) ∷ [] | false ↦ digits_by k (n / 10) ++ ((48 + n % 10) ∷ []) ]

-- one digit, or those of the tenth and then the last (`digits_one`, `digits_more`)
unfoldable pub digits : ℕ → List ℕ
digits n = digits_by (suc n) n

unfoldable pub decimal : ℤ → List ℕ
decimal (pos n) = digits n
decimal (negsuc n) = 45 ∷ digits (suc n)

-- what `decimal_len` answers: at most `-` and ten digits
pub record DecimalLen (z : ℤ) (r : ℕ) : Type 0 where
  pub is : r ≡ length (decimal z)
  pub small : r ≤ 11
