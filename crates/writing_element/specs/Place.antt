-- A command stored at a place of a buffer, or only measured.
use Rattle.std.specs.Prelude.{◌≡◌, Bool, cond, ◌&&◌, List, [], ℕ, ◌+◌, ◌≤◌, leb, length}
use Rattle.std.proofs.lemmas.List.Edits.{sets}
use Rattle.elements.specs.Given.{Due, text, denied}

-- the text that is due: none where it is a refusal
abbrev pub text_of : Due → List ℕ
text_of (text t) = t
text_of (denied n p) = []

-- n bytes are to be stored, and end within len from at on
abbrev pub room_at : Bool → ℕ → ℕ → ℕ → Bool
room_at writing at n len = writing && leb (at + n) len

-- l with t from at on, where it is to be stored and ends within l
abbrev pub placed_at : Bool → ℕ → List ℕ → List ℕ → List ℕ
placed_at writing at t l = cond (room_at writing at (length t) (length l)) (sets l at t) l

-- what a call answers that has stored t so, or only measured it: its length, which no command makes long
pub record Puts (n l : List ℕ) (writing : Bool) (at : ℕ) (t : List ℕ) (r : ℕ) : Type 0 where
  pub len : r ≡ length t
  pub small : r ≤ 1073742528
  pub buffer : n ≡ placed_at writing at t l
