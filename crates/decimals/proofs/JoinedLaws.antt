-- Fields joined by commas, taken apart again: by the first comma, and as the list of fields; and a byte that no part of
-- a text has. Assumes nothing.
use mathlib.Core.Path.{◌≡◌, refl, sym, ap, ◌∙◌}
use mathlib.Core.List.{List, [], ◌∷◌, ◌++◌, reverse, reverse-append, reverse-reverse}
use Prim.Native.Nat.{ℕ, suc, ◌+◌, ◌<◌}
use native.Mathlib.Nat.{add-zero}
use native.Mathlib.Omega.{arith}
use lib.ListN.{length, drop, length-append}
use lib.Seq.{take-append_seam, take_all}
use lib.Dec.{eqb}
use borrow.Author.Tests.{eq-eqb, ne_eqb, lt-ltb, le-ltb}
use Rattle.text.specs.Fields.{index_of, before, after, before_last, quoted, fields, without_trailing_commas}
use Rattle.text.proofs.BoolLaws.{test}
use Rattle.text.proofs.FieldsLaws.{fields_cons}
use Rattle.decimals.specs.Joined.{Without, closed}

-- Without

pub without_nil : (b : ℕ) → Without b []
without_nil b = refl

pub without_cons : (b x : ℕ) (s : List ℕ) → (x ≡ b → ⊥) → Without b s → Without b (x ∷ s)
without_cons b x s h w = simp (ne_eqb x b h, w)

-- where b is not in f, the first b of f and s is that of s
pub index_past : (b : ℕ) (f s : List ℕ) → Without b f → index_of b (f ++ s) ≡ length f + index_of b s
index_past b [] s w = omega arith
index_past b (x ∷ f) s w =
    test (eqb x b)
    (λ e. let k : 0 ≡ suc (length f) = simp e at w in absurd (omega arith))
    (λ e.
    let k : suc (index_of b f) ≡ suc (length f) = simp e at w in
    let i = index_past b f s (omega arith) in
    simp e (omega arith))

pub without_append : (b : ℕ) (f s : List ℕ) → Without b f → Without b s → Without b (f ++ s)
without_append b f s w v = index_past b f s w ∙ ap (λ (n : ℕ). length f + n) v ∙ sym (length-append f s)

-- the first b of a text that starts with f and b
pub index_here : (b : ℕ) (f s : List ℕ) → Without b f → index_of b (f ++ (b ∷ s)) ≡ length f
index_here b f s w = index_past b f (b ∷ s) w ∙ simp (eq-eqb b b refl) (add-zero (length f))

pub before_here : (b : ℕ) (f s : List ℕ) → Without b f → before b (f ++ (b ∷ s)) ≡ f
unfolding before
before_here b f s w = rw (index_here b f s w) (take-append_seam f (b ∷ s))

pub after_here : (b : ℕ) (f s : List ℕ) → Without b f → after b (f ++ (b ∷ s)) ≡ s
unfolding after
after_here b f s w = rw (index_here b f s w) (drop_suc_seam b f s)
  where
    drop_suc_seam : (b : ℕ) (f s : List ℕ) → drop (suc (length f)) (f ++ (b ∷ s)) ≡ s
    drop_suc_seam b [] s = refl
    drop_suc_seam b (x ∷ f) s = drop_suc_seam b f s

pub before_all : (b : ℕ) (f : List ℕ) → Without b f → before b f ≡ f
unfolding before
before_all b f w = rw w (take_all (length f) f (omega arith))

-- fields

pub fields_all : (f : List ℕ) → Without 44 f → fields f ≡ f ∷ []
fields_all f w =
    fields_cons f
    ∙ simp (before_all 44 f w, le-ltb (index_of 44 f) (length f) (omega arith))

pub fields_closed : (f s : List ℕ) → Without 44 f → fields (closed f s) ≡ f ∷ fields s
fields_closed f s w =
    let l : index_of 44 (closed f s) < length (closed f s) = simp length-append (omega (arith, index_here 44 f s w)) in
    fields_cons (closed f s)
    ∙ simp (before_here 44 f s w, after_here 44 f s w, lt-ltb (index_of 44 (closed f s)) (length (closed f s)) l)

-- trailing commas: a last field that is closed loses its comma, and no other
pub trailing_other : (t : List ℕ) (x : ℕ) → (x ≡ 44 → ⊥) → without_trailing_commas (t ++ (x ∷ [])) ≡ t ++ (x ∷ [])
unfolding without_trailing_commas
trailing_other t x h = rw (reverse-append t (x ∷ [])) (simp (ne_eqb x 44 h) (ap reverse (sym (reverse-append t (x ∷ []))) ∙ reverse-reverse (t ++ (x ∷ []))))

pub trailing_comma : (t : List ℕ) → without_trailing_commas (t ++ (44 ∷ [])) ≡ without_trailing_commas t
unfolding without_trailing_commas
trailing_comma t = rw (reverse-append t (44 ∷ [])) refl

-- data between the first quote and the last

pub before_last_lem : (b : ℕ) (s : List ℕ) → before_last b (s ++ (b ∷ [])) ≡ s
unfolding before_last after
before_last_lem b s = rw (reverse-append s (b ∷ [])) (simp (eq-eqb b b refl) (reverse-reverse s))

pub quoted_here : (p d : List ℕ) → Without 34 p → quoted (p ++ (34 ∷ (d ++ (34 ∷ [])))) ≡ d
quoted_here p d w = ap (before_last 34) (after_here 34 p (d ++ (34 ∷ [])) w) ∙ before_last_lem 34 d
