-- Where a byte stands, and the parts that it cuts a text into (01, "Grammar": fields, data between the first and last
-- quote).
use Rattle.std.specs.Prelude.{◌≡◌, ℕ, zero, suc, ◌≤◌, Bool, true, false, cond, ◌&&◌, List, [], ◌∷◌, reverse, length, take, drop, eqb}
use Rattle.text.specs.Blank.{drop_end}

-- the index of the first b, or the length where there is none
abbrev pub index_of : ℕ → List ℕ → ℕ
index_of b [] = zero
index_of b (x ∷ s) = cond (eqb x b) zero (suc (index_of b s))

-- what stands before the first b: all of s where there is none
unfoldable pub before : ℕ → List ℕ → List ℕ
before b s = take (index_of b s) s

-- what follows the first b: nothing where there is none
unfoldable pub after : ℕ → List ℕ → List ℕ
after b s = drop (suc (index_of b s)) s

-- what stands before the last b: nothing where there is none
unfoldable pub before_last : ℕ → List ℕ → List ℕ
before_last b s = reverse (after b (reverse s))

-- the data of a line: what lies between its first and its last quote; nothing where it has fewer than two
abbrev pub quoted : List ℕ → List ℕ
quoted s = before_last 34 (after 34 s)

-- x put before the first of some fields
abbrev pub ahead : ℕ → List (List ℕ) → List (List ℕ)
ahead x [] = (x ∷ []) ∷ []
ahead x (f ∷ fs) = (x ∷ f) ∷ fs

-- the fields of s, split at each comma: one more than there are commas
unfoldable pub fields : List ℕ → List (List ℕ)
fields [] = [] ∷ []
fields (x ∷ s) = cond (eqb x 44) ([] ∷ fields s) (ahead x (fields s))

-- the k-th field, from 0, empty where there is none (`field_is`: the k-th of `fields`)
abbrev pub field : List ℕ → ℕ → List ℕ
field s zero = before 44 s
field s (suc k) = field (after 44 s) k

-- s, trailing commas dropped
unfoldable pub without_trailing_commas : List ℕ → List ℕ
without_trailing_commas s = drop_end (λ b. eqb b 44) s

-- two texts have the same bytes
abbrev pub same : List ℕ → List ℕ → Bool
same [] [] = true
same [] (y ∷ ys) = false
same (x ∷ xs) [] = false
same (x ∷ xs) (y ∷ ys) = eqb x y && same xs ys

-- what `find` answers
pub record Found (b : ℕ) (s : List ℕ) (r : ℕ) : Type 0 where
  pub is : r ≡ index_of b s
  pub fits : r ≤ length s
