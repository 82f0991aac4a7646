-- A part with the LF behind it (`ended_some`, `ended_none`), how it is written (`put_some`, `put_ended_at`), and the
-- line up to its LF (`index_length`, `line_is`). A line piece by piece is in LinesPieceLaws. Assumes nothing.
use mathlib.Core.Path.{◌≡◌, refl, sym, ap, ◌∙◌}
use mathlib.Core.List.{List, [], ◌∷◌, ◌++◌}
use Prim.Native.Nat.{ℕ, ◌+◌, ◌<◌, ◌≤◌}
use native.Mathlib.Omega.{arith}
use lib.ListN.{length, set, length-append, take}
use lib.Seq.{sets, length-take-le}
use Rattle.text.specs.Wrote.{Wrote, Put}
use Rattle.text.proofs.WroteLaws.{wrote, wrote_as, wrote_left}
use Rattle.normal_lines.specs.Lines.{ended}
use Rattle.text.specs.Blank.{front}
use Rattle.text.specs.Fields.{index_of}
use Rattle.text.proofs.FieldsLaws.{index_le}
use Rattle.grammar.specs.Units.{not_lf}
use Rattle.grammar.proofs.TurnLineLaws.{front_index}

pub ended_some : (t : List ℕ) → 0 < length t → ended t ≡ t ++ 10 ∷ []
ended_some [] h = absurd (omega arith)
ended_some (b ∷ t) h = refl

pub nothing : (t : List ℕ) → length t ≡ 0 → t ≡ []
nothing [] h = refl
nothing (b ∷ t) h = absurd (omega arith)

pub ended_none : (t : List ℕ) → length t ≡ 0 → ended t ≡ []
ended_none t h = ap ended (nothing t h)

-- ---- a part and the LF behind it
pub put_none : (part : List ℕ) → length part ≡ 0 → (l : List ℕ) (at : ℕ) → Put l l at (ended part) at
put_none part h l at = let e = ended_none part h in record { wrote = wrote (sym (ap (sets l at) e)); next = omega (arith, ap length e) }

module _ (part : List ℕ) (h : length part ≡ 0 → ⊥) where
  whole : ended part ≡ part ++ 10 ∷ []
  whole = ended_some part (omega (arith, h))

  pub ended_length : length (ended part) ≡ length part + 1
  ended_length = ap length whole ∙ length-append part (10 ∷ [])

  pub put_some : (m l : List ℕ) (at : ℕ) → Wrote m l at part → Put (set m (at + length part) 10) l at (ended part) (at + length part + 1)
  put_some m l at w = record { wrote = wrote (wrote_left part (10 ∷ []) w ∙ ap (sets l at) (sym whole)); next = omega (arith, ended_length) }

pub ended_le : (part : List ℕ) → length part ≤ length (ended part)
ended_le [] = omega arith
ended_le (b ∷ part) = omega (arith, length-append (b ∷ part) (10 ∷ []))

-- a part is written, r the place behind it: nothing follows where it is empty, and LF else
module _ {m l : List ℕ} {at r : ℕ} (part : List ℕ) (p : Put m l at part r) where
  pub put_empty : r ≤ at → Put m l at (ended part) at
  put_empty h =
      let e = ended_none part (omega (arith, h, p.next)) in
      record { wrote = wrote_as (e ∙ sym (nothing part (omega (arith, h, p.next)))) p.wrote; next = omega (arith, ap length e) }

  pub put_ended_at : at < r → Put (set m r 10) l at (ended part) (r + 1)
  put_ended_at h =
      let s = put_some part (λ e. omega (arith, h, p.next, e)) m l at p.wrote in
      record { wrote = wrote (ap (λ (k : ℕ). set m k 10) p.next ∙ s.wrote.is); next = omega (arith, s.next, p.next) }

-- ---- a line's length
pub index_length : (s : List ℕ) → length (front not_lf s) ≡ index_of 10 s
index_length s = ap length (front_index s) ∙ length-take-le (index_of 10 s) s (index_le 10 s)

pub line_is : (s : List ℕ) {n : ℕ} → n ≡ length (front not_lf s) → take n s ≡ front not_lf s
line_is s e = ap (λ (k : ℕ). take k s) (e ∙ index_length s) ∙ sym (front_index s)
