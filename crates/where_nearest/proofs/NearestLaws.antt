-- The nearest so far, and the elements that follow (`going_cons`); the first label of a walk, where some of its elements
-- are pending (`Pending`). Assumes nothing.
use mathlib.Core.Path.{◌≡◌, refl, sym, ap, ◌∙◌}
use mathlib.Core.Bool.{Bool, true, false, cond, ◌||◌}
use mathlib.Core.List.{List, [], ◌∷◌, ◌++◌}
use Prim.Native.Nat.{ℕ, zero, suc, ◌<◌}
use native.Mathlib.Omega.{arith}
use lib.Dec.{ltb}
use borrow.Author.Tests.{ne_eqb}
use Rattle.elements.specs.declared.LabelElement.{LabelElement}
use Rattle.elements.specs.declared.LabelPosition.{LabelPosition}
use Rattle.elements.specs.declared.walk_state.WalkState.{WalkState}
use Rattle.walk_theory.specs.Index.{first_in}
use Rattle.grammar.specs.Epl.{epl}
use Rattle.walk.specs.Steps.{trace_of}
use Rattle.label_opening.specs.Opened.{first_from}
use Rattle.where_element.specs.Element.{position_of, distances, least_from, least_at, nearest_of}
use Rattle.where_element.specs.Place.{distance}
use Rattle.where_label.specs.Found.{itself}
use Rattle.where_nearest.specs.Nearest.{better}
use Rattle.where_nearest.specs.declared.nearest.Best.{Best}

-- the nearest of n elements with the best b, and of those that follow
abbrev pub going : LabelPosition → ℕ → Best → List LabelElement → ℕ
going q zero b es = least_at (distances q es)
going q (suc n) b es = least_from (suc n) b.number b.distance (distances q es)

by_better : (t : Bool) (q : LabelPosition) (n d : ℕ) (b : Best) (es : List LabelElement)
    → cond t (least_from (suc n) n d (distances q es)) (least_from (suc n) b.number b.distance (distances q es)) ≡ going q (suc n) (cond t (record { number = n; distance = d }) b) es
by_better true q n d b es = refl
by_better false q n d b es = refl

pub going_cons : (q : LabelPosition) (n : ℕ) (b : Best) (e : LabelElement) (es : List LabelElement)
    → going q n b (e ∷ es) ≡ going q (suc n) (better b n (distance (position_of e) q)) es
going_cons q zero b e es = refl
going_cons q (suc n) b e es =
    let d = distance (position_of e) q in
    by_better (ltb d b.distance) q (suc n) d b es
    ∙ ap (λ (t : Bool). going q (suc (suc n)) (cond (t || ltb d b.distance) (record { number = suc n; distance = d }) b) es) (sym (ne_eqb (suc n) 0 (λ k. omega arith)))

-- of some elements and no more
pub going_none : (q : LabelPosition) (n : ℕ) (b : Best) → 0 < n → going q n b [] ≡ b.number
going_none q zero b h = absurd (omega arith)
going_none q (suc n) b h = refl

-- p is pending here, of the first label from w on, and b is the nearest of p, whatever follows
pub record Pending (s : List ℕ) (i : ℕ) (q : LabelPosition) (w here : WalkState) (b : Best) : Type 0 where
  pub p : List LabelElement
  pub label : first_from LabelElement itself s w i ≡ first_in epl LabelElement itself i s p (trace_of s here)
  pub best : (es : List LabelElement) → nearest_of q (p ++ es) ≡ going q here.pending b es

-- nothing is pending
pub fresh : (s : List ℕ) (i : ℕ) (q : LabelPosition) (w here : WalkState) (b : Best) → first_from LabelElement itself s w i ≡ first_from LabelElement itself s here i → here.pending ≡ 0 → Pending s i q w here b
fresh s i q w here b e n = record { p = []; label = e; best = λ es. ap (λ (k : ℕ). going q k b es) (sym n) }
