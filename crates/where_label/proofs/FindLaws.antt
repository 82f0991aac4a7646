-- The elements of a walk at one step (`elements_by`, `leading_none`), and what is counted and written there
-- (`count_cons`, `numbers_cons`). Assumes nothing.
use mathlib.Core.Path.{◌≡◌, refl, sym, ap, ◌∙◌}
use mathlib.Core.Bool.{Bool, true, false, cond}
use mathlib.Core.List.{List, [], ◌∷◌, ◌++◌}
use Prim.Native.Nat.{ℕ, suc, ◌+◌, ◌≤◌}
use native.Mathlib.Omega.{arith}
use lib.ListN.{length}
use Rattle.elements.specs.declared.LabelElement.{LabelElement}
use Rattle.elements.specs.declared.walk_state.WalkState.{WalkState}
use Rattle.walk_theory.specs.Step.{step}
use Rattle.grammar.specs.Epl.{epl}
use Rattle.walk.specs.Steps.{state_of, answer_of}
use Rattle.walk.specs.declared.answer.Answer.{Answer}
use Rattle.walk.specs.declared.answer.Answer.TheVariants.{Element, Clear, Print, End, Refused}
use Rattle.walk.proofs.WalkLaws.{on_step, begins}
use Rattle.where_element.specs.Element.{numbers_from}
use Rattle.where_label.specs.Find.{leading, elements_from, count_if, one_if}

-- ---- at a step: r is the answer of the step from w, and q what it was matched with
module _ (s : List ℕ) (w : WalkState) (r q : Answer) (e : answer_of r ≡ step epl s (state_of w)) (k : r ≡ q) where
  pub elements_by : elements_from s w ≡ leading s (on_step s q)
  elements_by = ap (leading s) (begins s w r q e k)

-- an answer that is no element begins with none
pub leading_none : (s : List ℕ) (q : Answer) → ((v : WalkState) (x : LabelElement) → q ≡ Element v x → ⊥) → leading s (on_step s q) ≡ []
leading_none s (Element v x) h = absurd (h v x refl)
leading_none s (Clear v) h = refl
leading_none s (Print v n) h = refl
leading_none s (End v) h = refl
leading_none s (Refused v k p) h = refl

-- ---- the numbers of what is found
one_by : (b : Bool) (n : ℕ) (ns : List ℕ) → cond b (n ∷ ns) ns ≡ one_if b n ++ ns
one_by true n ns = refl
one_by false n ns = refl

module _ (t : LabelElement → Bool) where
  pub numbers_cons : (n : ℕ) (e : LabelElement) (es : List LabelElement) → numbers_from t n (e ∷ es) ≡ one_if (t e) n ++ numbers_from t (suc n) es
  numbers_cons n e es = one_by (t e) n (numbers_from t (suc n) es)

  -- how many there are, whatever the first number
  count_by_lem : (b : Bool) (n : ℕ) (ns : List ℕ) → length (cond b (n ∷ ns) ns) ≡ count_if b + length ns
  count_by_lem true n ns = omega arith
  count_by_lem false n ns = omega arith

  count_any : (n m : ℕ) (es : List LabelElement) → length (numbers_from t n es) ≡ length (numbers_from t m es)
  count_any n m [] = refl
  count_any n m (e ∷ es) =
      count_by_lem (t e) n (numbers_from t (suc n) es)
      ∙ ap (λ (k : ℕ). count_if (t e) + k) (count_any (suc n) (suc m) es)
      ∙ sym (count_by_lem (t e) m (numbers_from t (suc m) es))

  pub count_cons : (n : ℕ) (e : LabelElement) (es : List LabelElement) → length (numbers_from t n (e ∷ es)) ≡ count_if (t e) + length (numbers_from t n es)
  count_cons n e es = count_by_lem (t e) n (numbers_from t (suc n) es) ∙ ap (λ (k : ℕ). count_if (t e) + k) (count_any (suc n) n es)

pub count_le : (b : Bool) → count_if b ≤ 1
count_le true = omega arith
count_le false = omega arith
