-- What a call is due: a text that is read back (`due_read`, `due_reread`), or 23, and that for exactly the elements
-- that nothing yields (`due_exact`). Assumes nothing.
use mathlib.Core.Path.{◌≡◌, refl, sym}
use mathlib.Core.Bool.{Bool, true, false, ◌||◌, true≢false}
use mathlib.Core.List.{List, [], ◌∷◌}
use Prim.Native.Nat.{ℕ, zero, suc, ◌<◌, ◌≤◌}
use native.Mathlib.Omega.{arith}
use lib.Dec.{eqb, ltb}
use borrow.Author.Tests.{ltb-false, eqb-false, le-ltb}
use lib.IntN.{pos}
use lib.ListN.{length}
use lib.Signed.{lt_z, mag}
use Rattle.text.proofs.BoolLaws.{test}
use Rattle.elements.specs.declared.LabelElement.{LabelElement}
use Rattle.elements.specs.declared.PrintCounts.{PrintCounts}
use Rattle.elements.specs.Given.{text, denied, longest}
use Rattle.spellings.specs.Spelled.{spell, spell_label}
use Rattle.spellings.specs.Writable.{writable}
use Rattle.spellings.specs.Due.{element_due, first_bad, no_label, label_due}
use Rattle.spellings.proofs.BoundLaws.{not_lt_le}
use Rattle.readback.specs.Fits.{Fits, AllFits, no_more_fits, and_fits}
use Rattle.readback.specs.Exact.{Yieldable}
use Rattle.readback.specs.Written.{ReadBack, Reread}
use Rattle.readback.proofs.LabelLaws.{read_back, writable_yieldable, AllWritable, no_more, and_more, Counts, reread}
use Rattle.readback.proofs.ExactLaws.{yieldable_writable}

text≢denied : {t : List ℕ} {n p : ℕ} → denied n p ≡ text t → ⊥
text≢denied h = let z : ◌≡◌ {A = ℕ} 0 1 = cc in omega arith

module _ (s : List ℕ) (e : LabelElement) (f : Fits e) where
  -- a text is the element's, and is read back
  pub due_read : (t : List ℕ) → element_due s e ≡ text t → (t ≡ spell s e) × ReadBack s e
  unfolding element_due
  due_read t h =
      test (ltb longest (length s))
      (λ l. absurd (text≢denied (simp l at h)))
      (λ l. test (writable s e)
      (λ w. let k : text (spell s e) ≡ text t = simp (l, w) at h in let q : spell s e ≡ t = cc in (sym q, read_back s (ltb-false longest (length s) l) e f w))
      (λ w. absurd (text≢denied (simp (l, w) at h))))

  -- an element that something yields has a text, and no other has
  pub due_exact : length s ≤ longest → (Yieldable s e → element_due s e ≡ text (spell s e)) × ((Yieldable s e → ⊥) → element_due s e ≡ denied 23 0)
  unfolding element_due
  due_exact l = (
    λ y. simp (le-ltb longest (length s) l, yieldable_writable s e y),
    λ n. simp (le-ltb longest (length s) l) (test (writable s e) (λ w. absurd (n (writable_yieldable s l e f w))) (λ w. simp w)),
  )

-- a label

none_bad : (s : List ℕ) (es : List LabelElement) → AllFits es → length es ≤ first_bad s es → AllWritable s es
none_bad s [] no_more_fits h = no_more
none_bad s (e ∷ es) (and_fits f a) h =
    test (writable s e)
    (λ w. let k : suc (length es) ≤ suc (first_bad s es) = simp w at h in and_more f w (none_bad s es a (omega arith)))
    (λ w. let k : suc (length es) ≤ 0 = simp w at h in absurd (omega arith))

or_none : (x y : Bool) → (x || y) ≡ false → (x ≡ false) × (y ≡ false)
or_none true y h = absurd (true≢false h)
or_none false y h = (refl, h)

some_number : (m : ℕ) → (m ≡ 0 → ⊥) → 0 < m
some_number zero k = absurd (k refl)
some_number (suc m) k = omega arith

pub due_reread : (s t : List ℕ) (es : List LabelElement) (q : PrintCounts) → AllFits es → mag q.sets < 2147483648 → mag q.copies < 2147483648 → label_due s es q ≡ text t
    → (t ≡ spell_label s es q) × Reread s es q
unfolding label_due
due_reread s t es q a hs hc h =
    test (ltb longest (length s))
    (λ l. absurd (text≢denied (simp l at h)))
    (λ l. test (ltb (first_bad s es) (length es))
    (λ f. absurd (text≢denied (simp (l, f) at h)))
    (λ f. test (no_label (length es) q)
    (λ g. absurd (text≢denied (simp (l, f, g) at h)))
    (λ g.
    let k : text (spell_label s es q) ≡ text t = simp (l, f, g) at h in
    let r : spell_label s es q ≡ t = cc in
    let g3 = or_none (eqb (length es) 0 || ltb longest (length es) || lt_z q.sets (pos 0)) (lt_z q.copies (pos 0)) g in
    let g2 = or_none (eqb (length es) 0 || ltb longest (length es)) (lt_z q.sets (pos 0)) g3.0 in
    let g1 = or_none (eqb (length es) 0) (ltb longest (length es)) g2.0 in
    let c : Counts q = record { sets_whole = not_lt_le q.sets (pos 0) g2.1; copies_whole = not_lt_le q.copies (pos 0) g3.1; sets_in = hs; copies_in = hc } in
    (sym r, reread s (ltb-false longest (length s) l) es q c (some_number (length es) (eqb-false (length es) 0 g1.0)) (none_bad s es a (ltb-false (first_bad s es) (length es) f))))))
