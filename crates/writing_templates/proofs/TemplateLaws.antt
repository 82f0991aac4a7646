-- The template of a number that is none of 1 to 18 is that of 19. Assumes nothing.
use mathlib.Core.Path.{◌≡◌}
use Prim.Native.Nat.{ℕ}
use borrow.Author.Tests.{ne_eqb}
use Rattle.writing_templates.specs.Template.{template}

-- k is none of 1 to 18
abbrev pub Other : ℕ → Type 0
Other k = (k ≡ 1 → ⊥)
    × (k ≡ 2 → ⊥)
    × (k ≡ 3 → ⊥)
    × (k ≡ 4 → ⊥)
    × (k ≡ 5 → ⊥)
    × (k ≡ 6 → ⊥)
    × (k ≡ 7 → ⊥)
    × (k ≡ 8 → ⊥)
    × (k ≡ 9 → ⊥)
    × (k ≡ 10 → ⊥)
    × (k ≡ 11 → ⊥)
    × (k ≡ 12 → ⊥)
    × (k ≡ 13 → ⊥)
    × (k ≡ 14 → ⊥)
    × (k ≡ 15 → ⊥)
    × (k ≡ 16 → ⊥)
    × (k ≡ 17 → ⊥)
    × (k ≡ 18 → ⊥)

pub template_other : (k : ℕ) → Other k → template k ≡ template 19
unfolding template
template_other k h = simp (ne_eqb k 1 h.0, ne_eqb k 2 h.1, ne_eqb k 3 h.2, ne_eqb k 4 h.3, ne_eqb k 5 h.4, ne_eqb k 6 h.5, ne_eqb k 7 h.6, ne_eqb k 8 h.7, ne_eqb k 9 h.8, ne_eqb k 10 h.9, ne_eqb k 11 h.10, ne_eqb k 12 h.11, ne_eqb k 13 h.12, ne_eqb k 14 h.13, ne_eqb k 15 h.14, ne_eqb k 16 h.15, ne_eqb k 17 h.16, ne_eqb k 18 h.17)
