-- Two files joined (01, "Joining two files"). The order of refusals and what is claimed of the joined text, over any
-- language of units, stand in the crate `walk_theory` (Join).
use Rattle.std.specs.Prelude.{◌≡◌, List, [], ◌∷◌, ℕ, length}
use Rattle.elements.specs.Given.{Given, bytes, refused, Due, fitting, needed, stored}
use Rattle.frame_bytes.specs.Frame.{frame_of}
use Rattle.walk_theory.specs.Trace.{Outcome, listed, refusal_of}
use Rattle.walk_theory.specs.Join.{joined, join_of}
use Rattle.grammar.specs.Units.{EplUnit, line}
use Rattle.grammar.specs.Epl.{epl, origin}
use Rattle.grammar.specs.Normal.{normalised}
use Rattle.file_listing.specs.Listing.{outcome_of}
use Rattle.joining.specs.declared.answer.Joined.{Joined}

-- "a line `N`"
abbrev pub clear_line : EplUnit
clear_line = line (78 ∷ [])

-- "the first normalised, a line `N`, the second normalised"
abbrev pub joined_text : List ℕ → List ℕ → List ℕ
joined_text s t = joined epl normalised clear_line s t

-- what is due to `join`, whatever the buffer: a file's refusal, 25, or the joined text
abbrev pub join_due_of : List ℕ → List ℕ → Due
join_due_of s t = join_of epl (List ℕ) frame_of normalised clear_line origin s t

-- which of two files was refused: 1 the first, 2 the second, 0 neither
abbrev pub file_by : {F P : Type 0} → Outcome F P → Outcome F P → ℕ
file_by (refusal_of k p) o = 1
file_by (listed ls m) (refusal_of k p) = 2
file_by (listed ls m) (listed ms k) = 0

abbrev pub file_of : List ℕ → List ℕ → ℕ
file_of s t = file_by (outcome_of s) (outcome_of t)

abbrev pub answer : ℕ → ℕ → ℕ → Joined
answer n f p = record { number = n; file = f; place = p }

-- number 0 with the length written, or a refusal's number and place
abbrev pub told : ℕ → Given → Joined
told f (bytes n) = answer 0 f n
told f (refused k p) = answer k f p

-- what the call does with its buffer: l becomes n, and r is answered
pub record Joins (n l s t : List ℕ) (r : Joined) : Type 0 where
  pub answers : r ≡ told (file_of s t) (needed (fitting (join_due_of s t) (length l)))
  pub buffer : n ≡ stored (fitting (join_due_of s t) (length l)) l
