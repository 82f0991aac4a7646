-- `command_of` tells the command that a line spells, `Spells`, by its letters (`command_spells`, `spells_command`; as
-- one law `spelled`). Assumes nothing.
use mathlib.Core.Path.{◌≡◌, refl, sym, ap, subst, ◌∙◌}
use mathlib.Core.Bool.{Bool, true, false, false≢true}
use mathlib.Core.List.{List, [], ◌∷◌}
use mathlib.Core.Logic.{◌↔◌, ◌⊎◌, inl, inr}
use Prim.Native.Nat.{ℕ, suc}
use native.Mathlib.Omega.{arith}
use lib.Dec.{eqb}
use lib.ListN.{length}
use borrow.Author.Tests.{eqb-true, eqb-false, lt-ltb}
use Rattle.text.specs.Class.{is_digit, all_digits}
use Rattle.text.proofs.BoolLaws.{test, and_both, within_true, within_low, within_high}
use Rattle.command_letters.specs.declared.command.Command.{Command}
use Rattle.command_letters.specs.declared.command.Command.TheVariants.{Clear, Reference, Data, Line, Diagonal, Box, Print, Other}
use Rattle.command_letters.specs.Command.{is_reference, is_print, command_of}
use Rattle.command_letters.specs.Print.{is_count, is_counts}
use Rattle.command_letters.proofs.CommandLaws.{reads_other}
use Rattle.command_letters.proofs.PrintLaws.{counts_digits, counts_two, counts_cases}
use Rattle.grammar.specs.Spelled.{Digit, Digits, Letters, is_n, is_r, is_a, is_b, is_2d, is_lo, is_lw, is_le, is_ls, is_x, is_p, is_p_p, Spells, by_letters, else}

pub digit_true : (b : ℕ) → Digit b → is_digit b ≡ true
digit_true b h = within_true 48 57 b h.0 h.1

true_digit : (b : ℕ) → is_digit b ≡ true → Digit b
true_digit b h = (within_low 48 57 b h, within_high 48 57 b h)

pub digits_true : (s : List ℕ) → Digits s → all_digits s ≡ true
digits_true [] h = refl
digits_true (b ∷ s) h = simp (digit_true b h.0, digits_true s h.1)

pub true_digits : (s : List ℕ) → all_digits s ≡ true → Digits s
true_digits [] h = tt
true_digits (b ∷ s) h = let k = and_both (is_digit b) (all_digits s) h in (true_digit b k.0, true_digits s k.1)

-- a digit and more
count_digits : (d : ℕ) (t : List ℕ) → Digits (d ∷ t) → is_count (d ∷ t) ≡ true
count_digits d t h = simp (digits_true (d ∷ t) h, lt-ltb 0 (suc (length t)) (omega arith))

letters_tell : {c : Command} {t : List ℕ} → Letters c t → command_of t ≡ c
unfolding command_of is_reference is_print
letters_tell is_n = refl
letters_tell (is_r {d} {t} h) = simp (digit_true d h)
letters_tell is_a = refl
letters_tell is_b = refl
letters_tell is_2d = refl
letters_tell is_lo = refl
letters_tell is_lw = refl
letters_tell is_le = refl
letters_tell is_ls = refl
letters_tell is_x = refl
letters_tell (is_p {t} h) = simp (counts_digits t (digits_true t h))
letters_tell (is_p_p d t e u h k) = simp (counts_two (d ∷ t) (e ∷ u) (count_digits d t h) (count_digits e u k))

-- ---- by the first letter
abbrev Told : List ℕ → Type 0
Told t = Letters (command_of t) t ⊎ (command_of t ≡ Other)

told_n : (t : List ℕ) → Told (78 ∷ t)
unfolding command_of is_reference is_print
told_n [] = inl is_n
told_n (b ∷ t) = inr refl

told_r : (t : List ℕ) → Told (82 ∷ t)
unfolding command_of is_reference is_print
told_r [] = inr refl
told_r (d ∷ t) = test (is_digit d) (λ e. simp e (inl (is_r (true_digit d e)))) (λ e. inr (simp e))

told_l : (t : List ℕ) → Told (76 ∷ t)
unfolding command_of is_reference is_print
told_l [] = inr refl
told_l (b ∷ t) =
    test (eqb b 79) (λ e. rw (eqb-true b 79 e) (inl is_lo)) λ o.
    test (eqb b 87) (λ e. rw (eqb-true b 87 e) (inl is_lw)) λ w.
    test (eqb b 69) (λ e. rw (eqb-true b 69 e) (inl is_le)) λ x.
    test (eqb b 83) (λ e. rw (eqb-true b 83 e) (inl is_ls)) λ s.
    inr (simp (o, w, x, s))

told_p : (t : List ℕ) → Told (80 ∷ t)
unfolding command_of is_reference is_print
told_p t =
    test (is_counts t)
    (λ e. simp e
    (inl (counts_cases t e
    (λ h. is_p (true_digits t h))
    (λ d v f w s h k. subst (λ (x : List ℕ). Letters Print (80 ∷ x)) (sym s) (is_p_p d v f w (true_digits (d ∷ v) h) (true_digits (f ∷ w) k))))))
    (λ e. inr (simp e))

told : (t : List ℕ) → Told t
unfolding command_of is_reference is_print
told [] = inr refl
told (b ∷ t) =
    test (eqb b 78) (λ e. rw (eqb-true b 78 e) (told_n t)) λ n.
    test (eqb b 82) (λ e. rw (eqb-true b 82 e) (told_r t)) λ r.
    test (eqb b 65) (λ e. rw (eqb-true b 65 e) (inl is_a)) λ a.
    test (eqb b 66) (λ e. rw (eqb-true b 66 e) (inl is_b)) λ c.
    test (eqb b 98) (λ e. rw (eqb-true b 98 e) (inl is_2d)) λ d.
    test (eqb b 76) (λ e. rw (eqb-true b 76 e) (told_l t)) λ l.
    test (eqb b 88) (λ e. rw (eqb-true b 88 e) (inl is_x)) λ x.
    test (eqb b 80) (λ e. rw (eqb-true b 80 e) (told_p t)) λ p.
    inr (reads_other (b ∷ t) (eqb-false b 78 n) (eqb-false b 82 r) (eqb-false b 65 a) (eqb-false b 66 c) (eqb-false b 98 d) (eqb-false b 76 l) (eqb-false b 88 x) (eqb-false b 80 p))

-- no letters are those of `Other`
abbrev is_other : Command → Bool
is_other Clear = false
is_other Reference = false
is_other (Data c) = false
is_other (Line c) = false
is_other Diagonal = false
is_other Box = false
is_other Print = false
is_other Other = true

letters_name : {c : Command} {t : List ℕ} → Letters c t → is_other c ≡ false
letters_name is_n = refl
letters_name (is_r h) = refl
letters_name is_a = refl
letters_name is_b = refl
letters_name is_2d = refl
letters_name is_lo = refl
letters_name is_lw = refl
letters_name is_le = refl
letters_name is_ls = refl
letters_name is_x = refl
letters_name (is_p h) = refl
letters_name (is_p_p d t e u h k) = refl

-- ---- the law, both ways
pub command_spells : (t : List ℕ) → Spells (command_of t) t
command_spells t = by (told t)
  where
    by : Told t → Spells (command_of t) t
    by (inl l) = by_letters l
    by (inr e) = subst (λ (c : Command). Spells c t) (sym e) (else (λ c l. false≢true (sym (letters_name l) ∙ ap is_other (sym (letters_tell l) ∙ e))))

pub spells_command : {c : Command} {t : List ℕ} → Spells c t → command_of t ≡ c
spells_command (by_letters l) = letters_tell l
spells_command (else {t} n) = by (told t)
  where
    by : Told t → command_of t ≡ Other
    by (inl l) = absurd (n (command_of t) l)
    by (inr e) = e

pub spelled : (t : List ℕ) (c : Command) → (command_of t ≡ c) ↔ Spells c t
spelled t c = ((λ e. subst (λ (x : Command). Spells x t) e (command_spells t)), spells_command)
