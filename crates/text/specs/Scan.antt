-- A search by places.
use Rattle.std.specs.Prelude.{◌≡◌, cond, List, ℕ, suc, ◌≤◌, ◌<◌, ltb, length, get_or, take}
use Rattle.text.specs.Fields.{index_of}

-- no b from lo up to, not including, hi
pub record None (a : List ℕ) (b lo hi : ℕ) : Type 0 where
  pub none : (k : ℕ) → lo ≤ k → k < hi → get_or a k 0 ≡ b → ⊥

-- no b from lo up to r, a place within a
pub record Passed (a : List ℕ) (b lo r : ℕ) : Type 0 where
  pub low : lo ≤ r
  pub high : r ≤ length a
  pub before : None a b lo r

-- r is the first b from lo up to hi, or hi
pub record First (a : List ℕ) (b lo hi r : ℕ) : Type 0 where
  pub low : lo ≤ r
  pub high : r ≤ hi
  pub before : None a b lo r
  pub found : r < hi → get_or a r 0 ≡ b

-- where the first b stands among the first 96 bytes of a: 96 where none of them is b, or there are fewer
unfoldable pub near_in : ℕ → List ℕ → ℕ
near_in b a = cond (ltb (length a) 96) 96 (index_of b (take 96 a))

-- r is `near_in b a`; below 96 it is the first b of a, and stands in it
pub record Near (a : List ℕ) (b r : ℕ) : Type 0 where
  pub is : r ≡ near_in b a
  pub inside : r < 96 → r < length a
  pub found : r < 96 → First a b 0 (length a) r

-- of so many bytes, those of a line whose LF stands at n, or that has none: its LF is among them
abbrev pub size_by : ℕ → ℕ → ℕ
size_by n len = cond (ltb n len) (suc n) n
