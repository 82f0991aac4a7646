-- Tables of texts, each with its meaning.
use Rattle.std.specs.Prelude.{ℕ, Bool, false, cond, ◌||◌, List, [], ◌∷◌}
use Rattle.text.specs.Fields.{same}

-- t is one of some texts
abbrev pub any_of : List (List ℕ) → List ℕ → Bool
any_of [] t = false
any_of (x ∷ xs) t = same t x || any_of xs t

-- a row: a text, and what it means
pub record Row (A : Type 0) : Type 0 where
  pub text : List ℕ
  pub means : A

module _ {A : Type 0} where
  abbrev pub row : List ℕ → A → Row A
  row t a = record { text = t; means = a }

  -- the texts of a table
  abbrev pub texts : List (Row A) → List (List ℕ)
  texts [] = []
  texts (r ∷ rs) = r.text ∷ texts rs

  -- what t means by a table, `other` where no row has it
  abbrev pub meaning : A → List (Row A) → List ℕ → A
  meaning other [] t = other
  meaning other (r ∷ rs) t = cond (same t r.text) r.means (meaning other rs t)
