-- Reading the parameters of `b` behind its type as one text is reading them field by field, as `parse_epl_2d_params`
-- does (`options_comma`). Assumes nothing.
use mathlib.Core.Path.{◌≡◌, refl, ap, ◌∙◌}
use mathlib.Core.Bool.{Bool, true, false, cond}
use mathlib.Core.List.{List, [], ◌∷◌, ◌++◌}
use Prim.Native.Nat.{ℕ}
use Rattle.text.specs.Blank.{front}
use Rattle.text.specs.Class.{is_digit, is_letter}
use Rattle.barcodes_2d.specs.Options.{Setting, options_of}

abbrev setting : ℕ → List ℕ → Setting
setting x v = record { letter = x; value = v }

-- a run of digits ends before a comma
front_comma : (s t : List ℕ) → front is_digit (s ++ (44 ∷ t)) ≡ front is_digit s
front_comma [] t = refl
front_comma (x ∷ s) t = ap (λ (r : List ℕ). cond (is_digit x) (x ∷ r) []) (front_comma s t)

comma_none : (t : List ℕ) → options_of (44 ∷ t) ≡ options_of t
unfolding options_of
comma_none [] = refl
comma_none (y ∷ t) = refl

comma_one : (b : Bool) (x : ℕ) (t : List Setting) → cond b (setting x [] ∷ t) t ≡ cond b (setting x [] ∷ []) [] ++ t
comma_one true x t = refl
comma_one false x t = refl

comma_two : (a b : Bool) (p q : Setting) (m n t : List Setting) → cond a (cond b (p ∷ (m ++ t)) (q ∷ (n ++ t))) (n ++ t) ≡ cond a (cond b (p ∷ m) (q ∷ n)) n ++ t
comma_two true true p q m n t = refl
comma_two true false p q m n t = refl
comma_two false b p q m n t = refl

-- no parameter is read across a comma
pub options_comma : (s t : List ℕ) → options_of (s ++ (44 ∷ t)) ≡ options_of s ++ options_of t
unfolding options_of
options_comma [] t = comma_none t
options_comma (x ∷ []) t =
    ap (λ (r : List Setting). cond (is_letter x) (setting x [] ∷ r) r) (comma_none t) ∙ comma_one (is_letter x) x (options_of t)
options_comma (x ∷ y ∷ s) t =
    let whole = y ∷ (s ++ (44 ∷ t)) in
    let digits = front is_digit (y ∷ s) in
    let behind = options_of (s ++ (44 ∷ t)) in
    ap (λ (v : List ℕ). cond (is_letter x) (cond (is_letter y) (setting x (y ∷ []) ∷ behind) (setting x v ∷ options_of whole)) (options_of whole)) (front_comma (y ∷ s) t)
    ∙ ap (λ (m : List Setting). cond (is_letter x) (cond (is_letter y) (setting x (y ∷ []) ∷ m) (setting x digits ∷ options_of whole)) (options_of whole)) (options_comma s t)
    ∙ ap (λ (n : List Setting). cond (is_letter x) (cond (is_letter y) (setting x (y ∷ []) ∷ (options_of s ++ options_of t)) (setting x digits ∷ n)) n) (options_comma (y ∷ s) t)
    ∙ comma_two (is_letter x) (is_letter y) (setting x (y ∷ [])) (setting x digits) (options_of s) (options_of (y ∷ s)) (options_of t)
