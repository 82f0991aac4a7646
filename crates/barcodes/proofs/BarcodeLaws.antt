-- The type of a bar code: by the length of its text (`symbology_one`, `symbology_two`, `symbology_three`,
-- `symbology_other`), by its tag (`listed_tag`), and as one of 01's list (`listed_is`). Assumes nothing.
use mathlib.Core.Path.{◌≡◌, refl}
use mathlib.Core.Bool.{Bool, true, false, cond, ◌&&◌, ◌||◌}
use mathlib.Core.List.{List, [], ◌∷◌}
use Prim.Native.Nat.{ℕ}
use native.Mathlib.Omega.{arith}
use lib.Dec.{eqb}
use lib.ListN.{length, get_or}
use package.types.Run.{OneOf, miss}
use denote.Enum.Declared.{tag_of, declared}
use borrow.Author.Tests.{eqb-true}
use Rattle.text.proofs.BoolLaws.{test}
use Rattle.text.specs.Table.{any_of}
use Rattle.barcodes.specs.Barcode.{types, symbology_of, is_listed}
use Rattle.barcodes.specs.Letters.{one_letter, code128_letter, two_letters, three_letters}
use Rattle.barcodes.specs.contracts.barcode.Symbology.{enum}
use Rattle.barcodes.specs.declared.barcode.Symbology.{Symbology}
use Rattle.barcodes.specs.declared.barcode.Symbology.TheVariants.{Code128, Interleaved, Code39, Ean13, Ean8, UpcA, UpcE, Unlisted}

-- tests

and_true : (x : Bool) → (x && true) ≡ x
and_true true = refl
and_true false = refl

and_false : (x : Bool) → (x && false) ≡ false
and_false true = refl
and_false false = refl

and_assoc : (x y z : Bool) → ((x && y) && z) ≡ (x && (y && z))
and_assoc true y z = refl
and_assoc false y z = refl

and_or : (x y z : Bool) → (x && (y || z)) ≡ ((x && y) || (x && z))
and_or true y z = refl
and_or false y z = refl

cond_or : (x y : Bool) (s t : Symbology) → cond (x || y) s t ≡ cond x s (cond y s t)
cond_or true y s t = refl
cond_or false y s t = refl

-- by length

pub symbology_one : (t : List ℕ) → length t ≡ 1 → symbology_of t ≡ one_letter (get_or t 0 0)
unfolding symbology_of one_letter
symbology_one [] h = absurd (omega arith)
symbology_one (a ∷ []) h = simp (and_true, and_false)
symbology_one (a ∷ b ∷ t) h = absurd (omega arith)

pub symbology_two : (t : List ℕ) → length t ≡ 2 → symbology_of t ≡ two_letters (get_or t 0 0) (get_or t 1 0)
unfolding symbology_of code128_letter two_letters
symbology_two [] h = absurd (omega arith)
symbology_two (a ∷ []) h = absurd (omega arith)
symbology_two (a ∷ b ∷ []) h =
    test (eqb a 49)
    (λ e. rw (eqb-true a 49 e) (simp (cond_or, and_true)))
    (λ e. simp (e, and_true, and_false, and_or, cond_or))
symbology_two (a ∷ b ∷ c ∷ t) h = absurd (omega arith)

pub symbology_three : (t : List ℕ) → length t ≡ 3 → symbology_of t ≡ three_letters (get_or t 0 0) (get_or t 1 0) (get_or t 2 0)
unfolding symbology_of three_letters
symbology_three [] h = absurd (omega arith)
symbology_three (a ∷ []) h = absurd (omega arith)
symbology_three (a ∷ b ∷ []) h = absurd (omega arith)
symbology_three (a ∷ b ∷ c ∷ []) h = simp (and_assoc, and_true, and_false)
symbology_three (a ∷ b ∷ c ∷ d ∷ t) h = absurd (omega arith)

pub symbology_other : (t : List ℕ) → (length t ≡ 1 → ⊥) → (length t ≡ 2 → ⊥) → (length t ≡ 3 → ⊥) → symbology_of t ≡ Unlisted
unfolding symbology_of
symbology_other [] p q r = refl
symbology_other (a ∷ []) p q r = absurd (p refl)
symbology_other (a ∷ b ∷ []) p q r = absurd (q refl)
symbology_other (a ∷ b ∷ c ∷ []) p q r = absurd (r refl)
symbology_other (a ∷ b ∷ c ∷ d ∷ t) p q r = simp and_false

-- by tag

pub listed_tag : (s : Symbology) → OneOf (0 ∷ 1 ∷ 2 ∷ 3 ∷ 4 ∷ 5 ∷ 6 ∷ []) (tag_of (declared enum) s) → true ≡ is_listed s
listed_tag (Code128 m) h = refl
listed_tag (Interleaved c) h = refl
listed_tag (Code39 c) h = refl
listed_tag Ean13 h = refl
listed_tag Ean8 h = refl
listed_tag UpcA h = refl
listed_tag UpcE h = refl
listed_tag Unlisted h = absurd (miss (0 ∷ 1 ∷ 2 ∷ 3 ∷ 4 ∷ 5 ∷ 6 ∷ []) 7 tt h)

-- as one of the list

listed_cond : (x : Bool) (s t : Symbology) → is_listed (cond x s t) ≡ cond x (is_listed s) (is_listed t)
listed_cond true s t = refl
listed_cond false s t = refl

cond_true : (x y : Bool) → cond x true y ≡ (x || y)
cond_true true y = refl
cond_true false y = refl

pub listed_is : (t : List ℕ) → is_listed (symbology_of t) ≡ any_of types t
unfolding symbology_of
listed_is t = simp (listed_cond, cond_true)
