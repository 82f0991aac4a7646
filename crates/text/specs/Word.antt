-- Bytes of a slice side by side in one number, the first lowest, and a mark for each that is b.
use Rattle.std.specs.Prelude.{◌≡◌, ℕ, zero, suc, ◌+◌, ◌*◌, ◌≤◌, ◌<◌, cond, List, eqb, get_or}

-- the n bytes of a from i on
unfoldable pub word_at : ℕ → List ℕ → ℕ → ℕ
word_at zero a i = zero
word_at (suc n) a i = word_at n a (i + 1) * 256 + get_or a i 0

-- r is `word_at n a i`, and each of its parts is a byte
pub record Word (n : ℕ) (a : List ℕ) (i r : ℕ) : Type 0 where
  pub is : r ≡ word_at n a i
  pub bytes : (k : ℕ) → i ≤ k → k < i + n → get_or a k 0 < 256

-- 80 (hexadecimal) for each of the n bytes of a from i on that is b, and 0 for each other
unfoldable pub marks_at : ℕ → List ℕ → ℕ → ℕ → ℕ
marks_at zero a b i = zero
marks_at (suc n) a b i = marks_at n a b (i + 1) * 256 + cond (eqb (get_or a i 0) b) 128 0
