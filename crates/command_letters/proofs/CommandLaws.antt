-- The command of a line by its first byte (`spelled`, `reads_reference`, `reads_line`, `reads_print`, `reads_other`).
-- Assumes nothing.
use mathlib.Core.Path.{◌≡◌, refl, sym, ap, ◌∙◌}
use mathlib.Core.Bool.{false, cond}
use mathlib.Core.List.{List, [], ◌∷◌}
use Prim.Native.Nat.{ℕ, suc}
use native.Mathlib.Omega.{arith}
use lib.ListN.{length, get_or, drop}
use borrow.Author.Tests.{ne_eqb}
use Rattle.text.specs.Fields.{same}
use Rattle.command_letters.specs.Command.{is_reference, is_print, command_of}
use Rattle.command_letters.specs.declared.command.Command.{Command}
use Rattle.command_letters.specs.declared.command.Command.TheVariants.{Clear, Reference, Print, Other}

pub front : (t : List ℕ) (k : ℕ) → get_or t 0 0 ≡ suc k → t ≡ suc k ∷ drop 1 t
front [] k e = absurd (omega arith)
front (b ∷ t) k e = ap (λ (a : ℕ). a ∷ t) e

-- the command of t is that of its first byte, which is no 0, and the rest
pub spelled : (t : List ℕ) (a k : ℕ) (c : Command) → a ≡ get_or t 0 0 → a ≡ suc k → command_of (suc k ∷ drop 1 t) ≡ c → c ≡ command_of t
spelled t a k c h e p = sym (ap command_of (front t k (sym h ∙ e)) ∙ p)

pub reads_clear : (t : List ℕ) → length t ≡ 1 → command_of (78 ∷ drop 1 t) ≡ Clear
unfolding command_of is_reference is_print
reads_clear [] h = absurd (omega arith)
reads_clear (b ∷ []) h = refl
reads_clear (b ∷ c ∷ t) h = absurd (omega arith)

pub reads_no_clear : (t : List ℕ) → get_or t 0 0 ≡ 78 → (length t ≡ 1 → ⊥) → command_of (78 ∷ drop 1 t) ≡ Other
unfolding command_of is_reference is_print
reads_no_clear [] e h = absurd (omega arith)
reads_no_clear (b ∷ []) e h = absurd (h refl)
reads_no_clear (b ∷ c ∷ t) e h = refl

pub reads_reference : (t : List ℕ) → command_of (82 ∷ t) ≡ cond (is_reference (82 ∷ t)) Reference Other
unfolding command_of is_reference is_print
reads_reference t = refl

pub reads_print : (t : List ℕ) → command_of (80 ∷ t) ≡ cond (is_print (80 ∷ t)) Print Other
unfolding command_of is_reference is_print
reads_print t = refl

pub reads_line : (t : List ℕ) → command_of (76 ∷ t) ≡ command_of (76 ∷ get_or (76 ∷ t) 1 0 ∷ [])
unfolding command_of is_reference is_print
reads_line t = refl

same_first : (t : List ℕ) (b : ℕ) → (get_or t 0 0 ≡ b → ⊥) → same t (b ∷ []) ≡ false
same_first [] b h = refl
same_first (a ∷ t) b h = simp (ne_eqb a b h)

pub reads_other : (t : List ℕ) → (get_or t 0 0 ≡ 78 → ⊥) → (get_or t 0 0 ≡ 82 → ⊥) → (get_or t 0 0 ≡ 65 → ⊥) → (get_or t 0 0 ≡ 66 → ⊥) → (get_or t 0 0 ≡ 98 → ⊥) → (get_or t 0 0 ≡ 76 → ⊥) → (get_or t 0 0 ≡ 88 → ⊥) → (get_or t 0 0 ≡ 80 → ⊥) → command_of t ≡ Other
unfolding command_of is_reference is_print
reads_other t n r a b q l x p =
    let f = get_or t 0 0 in
    simp (same_first t 78 n, ne_eqb f 82 r, ne_eqb f 65 a, ne_eqb f 66 b, ne_eqb f 98 q, ne_eqb f 76 l, ne_eqb f 88 x, ne_eqb f 80 p)
