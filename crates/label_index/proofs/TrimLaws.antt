-- Trimming the end of a line keeps each byte from 21 to 7f, and what stands before it (`trim_end_keeps`): such a byte
-- is in no blank. Assumes nothing.
use mathlib.Core.Path.{◌≡◌, refl, sym, ap, subst, ◌∙◌}
use mathlib.Core.Bool.{true, true≢false}
use mathlib.Core.List.{List, [], ◌∷◌, ◌++◌, reverse, reverse-append, reverse-reverse}
use Prim.Native.Nat.{ℕ, zero, suc, ◌+◌, ◌-◌, ◌≤◌, ◌<◌}
use native.Mathlib.Omega.{arith}
use lib.Dec.{eqb, ltb}
use lib.ListN.{length, length-append, take, get_or, length-reverse}
use lib.Seq.{get_or-take, get_or-append-add, length-take-le}
use borrow.Author.Tests.{eqb-true, ltb-true, ltb-false}
use Rattle.text.specs.Blank.{is_blank, size_of, back, trim_end}
use Rattle.text.specs.Utf8.{within}
use Rattle.text.proofs.BoolLaws.{or_cases, test, within_low, within_high}
use Rattle.text.proofs.BlankLaws.{blank2_two, blank3_three}
use Rattle.text.proofs.BlankStripLaws.{by_length, Front, none, some, front}
use Rattle.text.proofs.BlankSteps.{end_step, end_stop}

abbrev Plain : ℕ → Type 0
Plain b = within 0x21 0x7f b ≡ true

not_high : (b : ℕ) → Plain b → 128 ≤ b → ⊥
not_high b h l = omega (arith, within_high 0x21 0x7f b h)

-- a byte of a blank is none of these
in_no_blank : (w : List ℕ) → is_blank w ≡ true → (j : ℕ) → j < length w → Plain (get_or w j 0) → ⊥
in_no_blank [] e j l h = omega arith
in_no_blank (a ∷ []) e zero l h =
    let low = within_low 0x21 0x7f a h in
    or_cases (within 0x09 0x0d a) (eqb a 0x20) (λ k. omega (arith, within_high 0x09 0x0d a k)) (λ k. omega (arith, eqb-true a 0x20 k)) e
in_no_blank (a ∷ []) e (suc j) l h = omega arith
in_no_blank (a ∷ b ∷ []) e zero l h = let t = blank2_two a b e in not_high a h (omega (arith, t.first))
in_no_blank (a ∷ b ∷ []) e (suc zero) l h = let t = blank2_two a b e in not_high b h t.low
in_no_blank (a ∷ b ∷ []) e (suc (suc j)) l h = omega arith
in_no_blank (a ∷ b ∷ c ∷ []) e zero l h = let t = blank3_three a b c e in not_high a h (omega (arith, t.low))
in_no_blank (a ∷ b ∷ c ∷ []) e (suc zero) l h = let t = blank3_three a b c e in not_high b h t.low2
in_no_blank (a ∷ b ∷ c ∷ []) e (suc (suc zero)) l h = let t = blank3_three a b c e in not_high c h t.low3
in_no_blank (a ∷ b ∷ c ∷ []) e (suc (suc (suc j))) l h = omega arith
in_no_blank (a ∷ b ∷ c ∷ d ∷ w) e j l h = true≢false (sym e)

module _ (t : List ℕ) (i : ℕ) (h : i < length t) (p : Plain (get_or t i 0)) where
  -- it stands before the blank at the end
  before_blank : Front (back is_blank) (reverse t) → i < length t - size_of (back is_blank) (reverse t)
  before_blank (none e) = omega (arith, e)
  before_blank (some w u e y z l) =
      let whole : t ≡ reverse u ++ reverse w = sym (reverse-reverse t) ∙ ap reverse e ∙ reverse-append w u in
      let nu = length-reverse u in
      let nw = length-reverse w in
      let long : length t ≡ length u + length w = ap length whole ∙ length-append (reverse u) (reverse w) ∙ omega (arith, nu, nw) in
      test (ltb i (length t - size_of (back is_blank) (reverse t)))
      (λ k. ltb-true i _ k)
      (λ k.
      let past = ltb-false i _ k in
      let there : i ≡ length (reverse u) + (i - length u) = omega (arith, past, long, z, nu) in
      let byte : get_or t i 0 ≡ get_or (reverse w) (i - length u) 0 = (λ o. get_or (whole o) (there o) 0) ∙ get_or-append-add (reverse u) (reverse w) (i - length u) 0 in
      absurd (in_no_blank (reverse w) y (i - length u) (omega (arith, past, h, long, z, nw)) (subst Plain byte p)))

pub trim_end_keeps : (t : List ℕ) (i : ℕ) → i < length t → Plain (get_or t i 0) → i < length (trim_end t)
trim_end_keeps = by_length (λ t. (i : ℕ) → i < length t → Plain (get_or t i 0) → i < length (trim_end t)) (λ t again i h p.
    let k = size_of (back is_blank) (reverse t) in
    let l = before_blank t i h p (front (back is_blank) refl (reverse t)) in
    let rest = length-take-le (length t - k) t (omega arith) in
    test (ltb 0 k)
    (λ e.
    let some = ltb-true 0 k e in
    subst (λ (x : List ℕ). i < length x) (sym (end_step t k refl some))
    (again (take (length t - k) t) (omega (arith, rest, some, l)) i (omega (arith, rest, l)) (subst Plain (sym (get_or-take (length t - k) t i 0 l)) p)))
    (λ e. subst (λ (x : List ℕ). i < length x) (sym (end_stop t k refl (ltb-false 0 k e))) h))
