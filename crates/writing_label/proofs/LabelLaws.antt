-- What a label of structs is due: of the structs of elements, what those elements are due (`plain_label`); else 23 at
-- the first struct that no element has, or whose element is not writable (`label_bad`). Every list is the one or the
-- other (`label_parts`), and a text is due to the structs of elements alone (`label_told`). Assumes nothing.
use mathlib.Core.Path.{◌≡◌, refl, sym, ap, ◌∙◌}
use mathlib.Core.Bool.{Bool, true, false, cond, ◌&&◌}
use mathlib.Core.List.{List, [], ◌∷◌, ◌++◌, map}
use mathlib.Core.Logic.{◌⊎◌, inl, inr}
use Prim.Native.Nat.{ℕ, zero, suc, ◌+◌, ◌<◌, ◌≤◌}
use native.Mathlib.Omega.{arith}
use lib.Dec.{ltb}
use lib.ListN.{length, length-append, length-map}
use borrow.Author.Tests.{lt-ltb, le-ltb, ltb-true, ltb-false}
use Rattle.text.proofs.BoolLaws.{test, and_both}
use Rattle.elements.specs.declared.LabelElement.{LabelElement}
use Rattle.elements.specs.declared.PrintCounts.{PrintCounts}
use Rattle.elements.specs.Given.{Due, text, denied, within, longest}
use Rattle.structs.specs.declared.answer.Element.{Element}
use Rattle.structs.specs.Flat.{flat_element}
use Rattle.spellings.specs.Due.{first_bad, no_label, label_due}
use Rattle.spellings.specs.Spelled.{spell_label}
use Rattle.spellings.specs.Writable.{writable}
use Rattle.structs_read.specs.Unflat.{element_of, standing, Sized}
use Rattle.structs_read.proofs.UnflatLaws.{back}
use Rattle.structs_read.proofs.StandingLaws.{standing_flat, standing_told}
use Rattle.writing_label.specs.Label.{plain_bad, plain_label_due}

-- a struct that is an element's, and that element is writable
abbrev pub fine : List ℕ → Element → Bool
fine s x = standing x && writable s (element_of x)

-- every element is writable
abbrev pub AllFine : List ℕ → List LabelElement → Type 0
AllFine s [] = Unit
AllFine s (e ∷ es) = (writable s e ≡ true) × AllFine s es

abbrev pub AllSized : List Element → Type 0
AllSized [] = Unit
AllSized (x ∷ xs) = Sized x × AllSized xs

-- a list with a struct that is not fine, behind the structs of writable elements
pub record Bad (s : List ℕ) (xs : List Element) : Type 0 where
  pub before : List LabelElement
  pub here : Element
  pub behind : List Element
  pub is : xs ≡ map flat_element before ++ (here ∷ behind)
  pub all_fine : AllFine s before
  pub bad : fine s here ≡ false

-- b is how many of the first structs are fine, n how many there are, es their elements
abbrev due_by : List ℕ → ℕ → ℕ → List LabelElement → PrintCounts → Due
due_by s b n es q = within longest s (cond (ltb b n) (denied 23 b) (cond (no_label n q) (denied 23 n) (text (spell_label s es q))))

map_back : (es : List LabelElement) → map element_of (map flat_element es) ≡ es
map_back [] = refl
map_back (e ∷ es) =
    ap (λ (f : LabelElement). f ∷ map element_of (map flat_element es)) (back e)
    ∙ ap (λ (fs : List LabelElement). e ∷ fs) (map_back es)

module _ (s : List ℕ) where
  pub fine_flat : (e : LabelElement) → fine s (flat_element e) ≡ writable s e
  fine_flat e =
      ap (λ (b : Bool). b && writable s (element_of (flat_element e))) (standing_flat e) ∙ ap (writable s) (back e)

  bad_flat : (es : List LabelElement) → plain_bad s (map flat_element es) ≡ first_bad s es
  bad_flat [] = refl
  bad_flat (e ∷ es) =
      ap (λ (b : Bool). cond b (suc (plain_bad s (map flat_element es))) zero) (fine_flat e)
      ∙ ap (λ (n : ℕ). cond (writable s e) (suc n) zero) (bad_flat es)

  -- of the structs of elements, what the elements are due
  pub plain_label : (es : List LabelElement) (q : PrintCounts) → plain_label_due s (map flat_element es) q ≡ label_due s es q
  unfolding plain_label_due label_due
  plain_label es q =
      ap (λ (b : ℕ). due_by s b (length (map flat_element es)) (map element_of (map flat_element es)) q) (bad_flat es)
      ∙ ap (λ (n : ℕ). due_by s (first_bad s es) n (map element_of (map flat_element es)) q) (length-map es flat_element)
      ∙ ap (λ (fs : List LabelElement). due_by s (first_bad s es) (length es) fs q) (map_back es)

  -- 14 comes first
  pub label_long : (xs : List Element) (q : PrintCounts) → longest < length s → plain_label_due s xs q ≡ denied 14 0
  unfolding plain_label_due
  label_long xs q h = simp (lt-ltb longest (length s) h)

  -- ---- every element is writable
  first_none_lem : (es : List LabelElement) → AllFine s es → first_bad s es ≡ length es
  first_none_lem [] h = refl
  first_none_lem (e ∷ es) h = simp h.0 (ap suc (first_none_lem es h.1))

  fine_by : (b n : ℕ) (rest : Due) → ltb longest (length s) ≡ false → b ≡ n → within longest s (cond (ltb b n) (denied 23 b) rest) ≡ rest
  fine_by b n rest h e = simp (h, le-ltb b n (omega (arith, e)))

  pub label_fine : (es : List LabelElement) (q : PrintCounts) → length s ≤ longest → AllFine s es
      → label_due s es q ≡ cond (no_label (length es) q) (denied 23 (length es)) (text (spell_label s es q))
  unfolding label_due
  label_fine es q h a =
      fine_by (first_bad s es) (length es) (cond (no_label (length es) q) (denied 23 (length es)) (text (spell_label s es q)))
      (le-ltb longest (length s) h) (first_none_lem es a)

  -- ---- a struct is not fine
  bad_at : (es : List LabelElement) (x : Element) (ys : List Element) → AllFine s es → fine s x ≡ false
      → plain_bad s (map flat_element es ++ (x ∷ ys)) ≡ length es
  bad_at [] x ys a b = ap (λ (c : Bool). cond c (suc (plain_bad s ys)) zero) b
  bad_at (e ∷ es) x ys a b =
      ap (λ (c : Bool). cond c (suc (plain_bad s (map flat_element es ++ (x ∷ ys)))) zero) (fine_flat e ∙ a.0)
      ∙ ap suc (bad_at es x ys a.1 b)

  bad_by : (b n : ℕ) (rest : Due) → ltb longest (length s) ≡ false → b < n → within longest s (cond (ltb b n) (denied 23 b) rest) ≡ denied 23 b
  bad_by b n rest h l = simp (h, lt-ltb b n l)

  pub label_bad : (es : List LabelElement) (x : Element) (ys : List Element) (q : PrintCounts) → length s ≤ longest
      → AllFine s es → fine s x ≡ false → plain_label_due s (map flat_element es ++ (x ∷ ys)) q ≡ denied 23 (length es)
  unfolding plain_label_due
  label_bad es x ys q h a b =
      let e = bad_at es x ys a b in
      let n = length-append (map flat_element es) (x ∷ ys) in
      let m = length-map es flat_element in
      bad_by (plain_bad s (map flat_element es ++ (x ∷ ys))) (length (map flat_element es ++ (x ∷ ys))) _ (le-ltb longest (length s) h)
      (omega (arith, e, n, m)) ∙ ap (denied 23) e

  -- ---- every list is the one or the other
  pub label_parts : (xs : List Element) → AllSized xs → ((es : List LabelElement) × (xs ≡ map flat_element es) × AllFine s es) ⊎ Bad s xs
  label_parts [] z = inl ([], refl, tt)
  label_parts (x ∷ xs) z =
      test (fine s x)
      (λ b. let w = and_both (standing x) (writable s (element_of x)) b in
      more (element_of x) (standing_told x z.0 w.0) w.1 (label_parts xs z.1))
      (λ b. inr (record { before = []; here = x; behind = xs; is = refl; all_fine = tt; bad = b }))
    where
      more : (e : LabelElement) → flat_element e ≡ x → writable s e ≡ true
          → ((es : List LabelElement) × (xs ≡ map flat_element es) × AllFine s es) ⊎ Bad s xs
          → ((es : List LabelElement) × ((x ∷ xs) ≡ map flat_element es) × AllFine s es) ⊎ Bad s (x ∷ xs)
      more e h w (inl p) = inl (e ∷ p.0, ap (λ (y : Element). y ∷ xs) (sym h) ∙ ap (λ (ys : List Element). flat_element e ∷ ys) p.1, (w, p.2))
      more e h w (inr p) = inr (record {
        before = e ∷ p.before;
        here = p.here;
        behind = p.behind;
        is = ap (λ (y : Element). y ∷ xs) (sym h) ∙ ap (λ (ys : List Element). flat_element e ∷ ys) p.is;
        all_fine = (w, p.all_fine);
        bad = p.bad;
      })

  -- a text is due to the structs of elements alone, and these are its elements
  pub label_told : (xs : List Element) (q : PrintCounts) (t : List ℕ) → AllSized xs → plain_label_due s xs q ≡ text t
      → xs ≡ map flat_element (map element_of xs)
  label_told xs q t z h =
      test (ltb longest (length s))
      (λ l. absurd (text≢denied (sym (long l) ∙ h)))
      (λ l. told (ltb-false longest (length s) l) (label_parts xs z))
    where
      text≢denied : {k p : ℕ} → denied k p ≡ text t → ⊥
      text≢denied e = let z : ◌≡◌ {A = ℕ} 0 1 = cc in omega arith

      long : ltb longest (length s) ≡ true → plain_label_due s xs q ≡ denied 14 0
      long l = label_long xs q (ltb-true longest (length s) l)

      told : length s ≤ longest → ((es : List LabelElement) × (xs ≡ map flat_element es) × AllFine s es) ⊎ Bad s xs → xs ≡ map flat_element (map element_of xs)
      told l (inl p) = p.1 ∙ ap (map flat_element) (sym (map_back p.0)) ∙ ap (λ (ys : List Element). map flat_element (map element_of ys)) (sym p.1)
      told l (inr p) = absurd (text≢denied (sym (ap (λ (ys : List Element). plain_label_due s ys q) p.is ∙ label_bad p.before p.here p.behind q l p.all_fine p.bad) ∙ h))
