-- A line that is put piece by piece, without the blanks that it ends with: what is put when a loop stands at a place
-- (`Along`), at its start (`along_start`), behind a piece (`along_next`) and at its end (`along_end`).
use mathlib.Core.Path.{◌≡◌, refl, sym, ap, ◌∙◌}
use mathlib.Core.Logic.{◌⊎◌, ⊎_elim}
use mathlib.Core.List.{List, ◌++◌}
use Prim.Native.Nat.{ℕ, ◌+◌, ◌-◌, ◌<◌, ◌≤◌}
use native.Mathlib.Omega.{arith}
use lib.ListN.{length, take, drop, length-take, length-drop}
use lib.Seq.{drop-drop, take_all}
use Rattle.text.specs.Blank.{front, drop_end, is_ascii_blank}
use Rattle.text.specs.Wrote.{Wrote, Put}
use Rattle.text.proofs.DropSteps.{rest}
use Rattle.text.proofs.WroteTowardLaws.{Toward, begin, put, finish}
use Rattle.grammar.specs.Units.{not_lf}
use Rattle.normal_lines.proofs.LinesPieceLaws.{kept_le, piece_some, piece_rest, piece_none, front_take, front_behind, front_part}
use Rattle.normal_lines.proofs.LinesLaws.{nothing}

-- the line of t is written up to done, blanks go on from there to seen, and no LF stands before that
pub record Along (t out₀ : List ℕ) (at : ℕ) (out : List ℕ) (done seen to : ℕ) : Type 0 where
  pub ordered : done ≤ seen
  pub inside : seen ≤ length (front not_lf t)
  pub blank : length (drop_end is_ascii_blank (take (seen - done) (drop done (front not_lf t)))) ≡ 0
  pub toward : Toward out to (drop_end is_ascii_blank (drop done (front not_lf t))) out₀ at (drop_end is_ascii_blank (front not_lf t))

pub along_start : (t out : List ℕ) (at : ℕ) → Along t out at out 0 0 at
along_start t out at = record { ordered = omega arith; inside = omega arith; blank = refl; toward = begin out at (drop_end is_ascii_blank (front not_lf t)) }

-- a turn: pc is the next piece, and q of its bytes are kept
module _ {t out₀ : List ℕ} {at : ℕ} {out : List ℕ} {done seen to : ℕ} (s : Along t out₀ at out done seen to) where
  abbrev line : List ℕ
  line = front not_lf t

  abbrev left : List ℕ
  left = drop done line

  abbrev next : List ℕ
  next = take 4096 (drop (seen - done) left)

  next_is : {pc : List ℕ} → pc ≡ front not_lf (take 4096 (take (length t - seen) (drop seen t))) → pc ≡ next
  next_is e =
      let k : done + (seen - done) ≡ seen = omega (arith, s.ordered) in
      e ∙ ap (λ (l : List ℕ). front not_lf (take 4096 l)) (rest t seen) ∙ front_take not_lf (drop seen t) 4096
      ∙ ap (take 4096) (front_behind not_lf t seen s.inside ∙ ap (λ (j : ℕ). drop j line) (sym k) ∙ sym (drop-drop (seen - done) done line))

  -- a piece that is not full ends the line
  pub ended_here : {pc : List ℕ} → pc ≡ front not_lf (take 4096 (take (length t - seen) (drop seen t))) → length pc < 4096 → seen + length pc ≡ length line
  ended_here e h = omega (arith, h, ap length (next_is e), length-take 4096 (drop (seen - done) left), length-drop (seen - done) left, length-drop done line, s.ordered, s.inside)

  module _ {pc d : List ℕ} (is : pc ≡ front not_lf (take 4096 (take (length t - seen) (drop seen t)))) (kept : d ≡ drop_end is_ascii_blank pc) where
    n_is : length pc ≡ length next
    n_is = ap length (next_is is)

    q_is : length d ≡ length (drop_end is_ascii_blank next)
    q_is = ap length (kept ∙ ap (drop_end is_ascii_blank) (next_is is))

    pub kept_in : length d ≤ length pc
    kept_in = omega (arith, n_is, q_is, kept_le is_ascii_blank left (seen - done) 4096)

    pub seen_le : seen + length pc ≤ length line
    seen_le = omega (arith, n_is, length-take 4096 (drop (seen - done) left), length-drop (seen - done) left, length-drop done line, s.ordered, s.inside)

    -- up to there it is written
    module _ {upto : ℕ} (u : ((seen < seen + length d) × (upto ≡ seen + length d)) ⊎ ((seen + length d ≤ seen) × (upto ≡ done))) where
      pub forth : done ≤ upto
      forth = ⊎_elim (λ w. omega (arith, w.1, s.ordered)) (λ w. omega (arith, w.1)) u

      pub upto_le : upto ≤ seen + length pc
      upto_le = ⊎_elim (λ w. omega (arith, w.1, kept_in)) (λ w. omega (arith, w.1, s.ordered)) u

      part_is : take (upto - done) (drop done t) ≡ take (upto - done) left
      part_is = front_part not_lf t done (upto - done) (omega (arith, forth, upto_le, seen_le))

      rest_is : drop (upto - done) left ≡ drop upto line
      rest_is = let k : done + (upto - done) ≡ upto = omega (arith, forth) in drop-drop (upto - done) done line ∙ ap (λ (j : ℕ). drop j line) k

      pub splits : drop_end is_ascii_blank left ≡ take (upto - done) (drop done t) ++ drop_end is_ascii_blank (drop upto line)
      splits =
          ⊎_elim
          (λ w.
          let k : seen - done + length (drop_end is_ascii_blank next) ≡ upto - done = omega (arith, w.1, q_is, s.ordered) in
          piece_some is_ascii_blank left (seen - done) 4096 (omega (arith, w.0, q_is))
          ∙ ap (λ (j : ℕ). take j left ++ drop_end is_ascii_blank (drop j left)) k
          ∙ (λ i. sym part_is i ++ drop_end is_ascii_blank (rest_is i)))
          (λ w.
          let k : 0 ≡ upto - done = omega (arith, w.1) in
          ap (λ (j : ℕ). drop_end is_ascii_blank (drop j line)) (sym w.1) ∙ ap (λ (j : ℕ). take j (drop done t) ++ drop_end is_ascii_blank (drop upto line)) k)
          u

      blanks : length (drop_end is_ascii_blank (take (seen + length pc - upto) (drop upto line))) ≡ 0
      blanks =
          ⊎_elim
          (λ w.
          let k : seen - done + length (drop_end is_ascii_blank next) ≡ upto - done = omega (arith, w.1, q_is, s.ordered) in
          let r : seen + length pc - upto ≡ length next - length (drop_end is_ascii_blank next) = omega (arith, w.1, q_is, n_is) in
          ap (λ (l : List ℕ). length (drop_end is_ascii_blank (take (seen + length pc - upto) l))) (sym rest_is ∙ ap (λ (j : ℕ). drop j left) (sym k))
          ∙ ap (λ (j : ℕ). length (drop_end is_ascii_blank (take j (drop (seen - done + length (drop_end is_ascii_blank next)) left)))) r
          ∙ piece_rest is_ascii_blank left (seen - done) 4096)
          (λ w.
          let r : seen + length pc - upto ≡ seen - done + length next = omega (arith, w.1, n_is, s.ordered) in
          ap (λ (j : ℕ). length (drop_end is_ascii_blank (take (seen + length pc - upto) (drop j line)))) w.1
          ∙ ap (λ (j : ℕ). length (drop_end is_ascii_blank (take j left))) r
          ∙ piece_none is_ascii_blank left (seen - done) 4096 s.blank (omega (arith, w.0, q_is)))
          u

      pub along_next : {out' : List ℕ} → Wrote out' out to (take (upto - done) (drop done t)) → Along t out₀ at out' upto (seen + length pc) (to + (upto - done))
      along_next w =
          let k : to + (upto - done) ≡ to + length (take (upto - done) (drop done t)) =
          omega (arith, ap length part_is, length-take (upto - done) left, length-drop done line, forth, upto_le, seen_le) in
          record {
            ordered = upto_le;
            inside = seen_le;
            blank = blanks;
            toward = put s.toward (drop_end is_ascii_blank (drop upto line)) splits (record { wrote = w; next = k });
          }

-- the line ends at seen: all is written
pub along_end : {t out₀ : List ℕ} {at : ℕ} {out : List ℕ} {done seen to : ℕ} → Along t out₀ at out done seen to → length (front not_lf t) ≤ seen → Put out out₀ at (drop_end is_ascii_blank (front not_lf t)) to
along_end {t} {out₀} {at} {out} {done} {seen} s h =
    let all : take (seen - done) (drop done (front not_lf t)) ≡ drop done (front not_lf t) = take_all (seen - done) (drop done (front not_lf t)) (rw length-drop (omega (arith, h))) in
    finish s.toward (nothing (drop_end is_ascii_blank (drop done (front not_lf t))) (sym (ap (λ (l : List ℕ). length (drop_end is_ascii_blank l)) all) ∙ s.blank))
