-- What is due of a label is what two passes make of it, from what is known where they are made: lengths of 64 bits and
-- counts of 32 (`label_due_lem` and `label_due_300`, at either resolution). Also by the calls that make them, each as its
-- contract has it (`said`). Assumes nothing.
use mathlib.Core.Path.{◌≡◌, refl, sym, ap, ◌∙◌, subst}
use mathlib.Core.List.{List, [], ◌∷◌, map}
use Prim.Native.Nat.{ℕ, suc, ◌+◌, ◌<◌, ◌≤◌, ◌^◌}
use native.Mathlib.Omega.{arith}
use lib.IntN.{ℤ, pos}
use lib.ListN.{length, length-append, length-map}
use lib.Signed.{mag, lt_z}
use Rattle.text.proofs.BoolLaws.{test}
use Rattle.elements.specs.declared.filled.Filled.{Filled}
use Rattle.elements.specs.Given.{Fills, given_of}
use Rattle.structs.specs.declared.answer.Element.{Element}
use Rattle.dots.specs.declared.element.Element300.{Element300}
use Rattle.decimals.specs.Decimal.{DecimalLen, decimal}
use Rattle.decimals.specs.Joined.{closed}
use Rattle.decimals.proofs.SignLaws.{len_below, len_above}
use Rattle.lent_lists.specs.Passed.{Passes}
use Rattle.writing_label.specs.declared.tally.Tally.{Tally}
use Rattle.writing_label.specs.Tally.{TurnOf, TurnOf300}
use Rattle.writing_label.specs.Plan.{measured, print_text, plan_of, begin_of, finish_of}
use Rattle.writing_label.specs.Label.{at300, plain_label_due, plain_label_due300}
use Rattle.writing_label.proofs.PlanLaws.{due}

abbrev Held : Type 0
Held = Tally × List ℕ

-- ---- the print line is short
decimal_short : (z : ℤ) → mag z < 2147483648 → length (decimal z) ≤ 11
decimal_short z h =
    let short : (r : ℕ) → DecimalLen z r → length (decimal z) ≤ 11 = λ r d. subst (λ (n : ℕ). n ≤ 11) d.is d.small in
    test (lt_z z (pos 0)) (λ t. short _ (len_below z _ h t refl)) (λ t. short _ (len_above z _ h t refl))

print_short : (sets copies : ℤ) → mag sets < 2147483648 → mag copies < 2147483648 → length (print_text sets copies) ≤ 100
print_short sets copies h k =
    let a = length-append (closed (decimal sets) (decimal copies)) (10 ∷ []) in
    let b : length (closed (decimal sets) (decimal copies)) ≡ length (decimal sets) + suc (length (decimal copies)) = length-append (decimal sets) (44 ∷ decimal copies) in
    omega (arith, a, b, decimal_short sets h, decimal_short copies k)

-- ---- what is said of a label, at p for the answer
abbrev Says : List ℕ → List Element → List ℕ → ℤ → ℤ → List ℕ → Filled → Type 0
Says s xs l sets copies n r = Fills n l (plain_label_due s xs (record { sets = sets; copies = copies })) (given_of r)

abbrev Shown : List ℕ → List Element → List ℕ → ℤ → ℤ → Held → Held → Filled → Type 0
Shown s xs l sets copies m e p = Passes (TurnOf s) xs (begin_of p m.1) e → Says s xs l sets copies (finish_of p e.0 sets copies e.1).1 (finish_of p e.0 sets copies e.1).0

pub label_due_lem : (s : List ℕ) (xs : List Element) (l : List ℕ) (sets copies : ℤ) (m e : Held) → length xs < 2 ^ 64 → length l < 2 ^ 64 → mag sets < 2147483648 → mag copies < 2147483648 → Passes (TurnOf s) xs (measured, l) m
    → Shown s xs l sets copies m e (plan_of (length s) (length xs) (length l) m.0 sets copies)
label_due_lem s xs l sets copies m e many room h k = due s xs l sets copies m e (omega (arith, many)) (omega (arith, room)) (print_short sets copies h k)

-- ---- at 300 dots, by the printer's own
passes_map : {X Z Y : Type 0} (f : X → Z) (T : Z → Y → Y → Type 0) (xs : List X) (y z : Y) → Passes (λ x. T (f x)) xs y z → Passes T (map f xs) y z
passes_map f T [] y z p = p
passes_map f T (x ∷ xs) y z p = (p.0, (p.1.0, passes_map f T xs p.0 z p.1.1))

pub label_due_300 : (s : List ℕ) (xs : List Element300) (l : List ℕ) (sets copies : ℤ) (m e : Held) → length xs < 2 ^ 64 → length l < 2 ^ 64 → mag sets < 2147483648 → mag copies < 2147483648 → Passes (TurnOf300 s) xs (measured, l) m
    → Passes (TurnOf300 s) xs (begin_of (plan_of (length s) (length xs) (length l) m.0 sets copies) m.1) e
    → Fills (finish_of (plan_of (length s) (length xs) (length l) m.0 sets copies) e.0 sets copies e.1).1 l (plain_label_due300 s xs (record { sets = sets; copies = copies }))
    (given_of (finish_of (plan_of (length s) (length xs) (length l) m.0 sets copies) e.0 sets copies e.1).0)
label_due_300 s xs l sets copies m e many room h k p q =
    let n = length-map xs at300 in
    subst (λ (n : ℕ). Shown s (map at300 xs) l sets copies m e (plan_of (length s) n (length l) m.0 sets copies)) n
    (label_due_lem s (map at300 xs) l sets copies m e (subst (λ (n : ℕ). n < 2 ^ 64) (sym n) many) room h k (passes_map at300 (TurnOf s) xs (measured, l) m p))
    (passes_map at300 (TurnOf s) xs _ e q)

-- ---- by the calls
-- the first pass begins at c₀ and ends at m and l₁; p is what is answered; the second begins at c and l₂ and ends at e and
-- l₃; r and l₄ are how it ends. Then whatever is said of two passes is said of r and l₄
module _ {X : Type 0} (Turn : X → Held → Held → Type 0) (plan : Tally → Filled) (Says : List ℕ → Filled → Type 0) (xs : List X) (l : List ℕ) (sets copies : ℤ) where
  abbrev pub Due : Type 0
  Due = (m e : Held) → Passes Turn xs (measured, l) m → Passes Turn xs (begin_of (plan m.0) m.1) e
      → Says (finish_of (plan m.0) e.0 sets copies e.1).1 (finish_of (plan m.0) e.0 sets copies e.1).0

  pub said : Due → (c₀ m c e : Tally) (p r : Filled) (l₁ l₂ l₃ l₄ : List ℕ) → c₀ ≡ measured → Passes Turn xs (c₀, l) (m, l₁) → p ≡ plan m
      → (c, l₂) ≡ begin_of p l₁ → Passes Turn xs (c, l₂) (e, l₃) → (r, l₄) ≡ finish_of p e sets copies l₃ → Says l₄ r
  said due c₀ m c e p r l₁ l₂ l₃ l₄ at_first first plans begins second finishes =
      subst (λ (z : Filled × List ℕ). Says z.1 z.0) (sym (finishes ∙ ap (λ (t : Filled). finish_of t e sets copies l₃) plans))
      (due (m, l₁) (e, l₃) (subst (λ (t : Tally). Passes Turn xs (t, l) (m, l₁)) at_first first)
      (subst (λ (z : Held). Passes Turn xs z (e, l₃)) (begins ∙ ap (λ (t : Filled). begin_of t l₁) plans) second))
