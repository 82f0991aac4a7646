-- Units one after the other: what each gives, and units that stand before anything divide their own text. Assumes
-- nothing.
use mathlib.Core.Path.{◌≡◌, refl, sym, ap, subst, ◌∙◌}
use mathlib.Core.List.{List, [], ◌∷◌, ◌++◌, append_assoc}
use Prim.Native.Nat.{ℕ}
use Rattle.walk_theory.specs.Normal.{each, Solid, none_left, and_solid}
use Rattle.walk_theory.specs.Language.{Language}
use Rattle.walk_theory.specs.Division.{Division, done, more, Reads}
use Rattle.walk_theory.proofs.DivisionLaws.{none≢unit, same_unit}

pub each_append : {A B : Type 0} (f : A → List B) (xs ys : List A) → each f (xs ++ ys) ≡ each f xs ++ each f ys
each_append f [] ys = refl
each_append f (x ∷ xs) ys = ap (λ (t : List _). f x ++ t) (each_append f xs ys) ∙ sym (append_assoc (f x) (each f xs) (each f ys))

module _ (L : Language) where
  open L use {U, bytes, first}

  pub solid_append : {us vs : List U} → Solid L us → Solid L vs → Solid L (us ++ vs)
  solid_append none_left q = q
  solid_append (and_solid st p) q = and_solid st (solid_append p q)

  pub in_front : {us : List U} → Solid L us → {t : List ℕ} {vs : List U} → Division L t vs → Division L (each bytes us ++ t) (us ++ vs)
  in_front none_left d = d
  in_front (and_solid {u} {us} st q) {t} d = more (append_assoc (bytes u) (each bytes us) t) (st (each bytes us ++ t)) (in_front q d)

  -- a string that begins with the bytes of such units divides behind them, if it divides at all
  pub behind_solid : Reads L → {us : List U} → Solid L us → {t x : List ℕ} {ws : List U} → t ≡ each bytes us ++ x → Division L t ws → (vs : List U) × Division L x vs
  behind_solid reads none_left {ws} e d = (ws, subst (λ (y : List ℕ). Division L y ws) e d)
  behind_solid reads (and_solid {u} {us} st q) {x} e done =
      absurd (none≢unit (sym reads.at_end ∙ ap first (e ∙ append_assoc (bytes u) (each bytes us) x) ∙ reads.finds u (each bytes us ++ x) (st (each bytes us ++ x))))
  behind_solid reads (and_solid {u} {us} st q) {x} e (more {u = v} {rest} k st' d) =
      behind_solid reads q (same_unit (sym (reads.finds v rest st') ∙ ap first (sym k ∙ e ∙ append_assoc (bytes u) (each bytes us) x) ∙ reads.finds u (each bytes us ++ x) (st (each bytes us ++ x)))).1 d

  pub solid_divides : {us : List U} → Solid L us → Division L (each bytes us) us
  solid_divides none_left = done
  solid_divides (and_solid {u} {us} st q) = more refl (st (each bytes us)) (solid_divides q)
