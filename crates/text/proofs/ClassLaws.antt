-- The digits that a text begins with, in std's words.
use mathlib.Core.Path.{◌≡◌, refl}
use mathlib.Core.List.{List, [], ◌∷◌}
use Prim.Native.Nat.{ℕ}
use borrow.Author.Rules.{rules}
use Rattle.std.specs.List.{prefix_len}
use Rattle.text.specs.Class.{is_digit, digit_run}

pub prefix_digits : (s : List ℕ) → prefix_len is_digit s ≡ digit_run s
prefix_digits [] = refl
prefix_digits (x ∷ s) = rw (prefix_digits s) (search rules)
