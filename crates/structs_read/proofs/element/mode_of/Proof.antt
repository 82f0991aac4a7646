-- `structs_read::element::mode_of` meets its contract. Assumes nothing.
use mathlib.Core.Path.{sym, ap, ◌∙◌}
use lib.IntN.{ℤ, pos}
use mir.Facts.{to_z-of_z}
use Rattle.numbers.specs.Int.{eq_z}
use borrow.Author.Rules.{rules}
use Rattle.structs_read.proofs.element.mode_of.Statement.{statement}
use Rattle.structs_read.proofs.element.mode_of.Tie as tie

returns : tie.Need-returns-then-equal
returns c = simp (sym (c.equal.ensures ∙ ap (λ (z : ℤ). eq_z z (pos 1)) (to_z-of_z c.ranges.m)) ∙ c.if-equal.true)

returns-2 : tie.Need-returns-then-equal-2
returns-2 c = simp (sym (c.equal.ensures ∙ ap (λ (z : ℤ). eq_z z (pos 1)) (to_z-of_z c.ranges.m)) ∙ c.if-equal.false, sym (c.equal-2.ensures ∙ ap (λ (z : ℤ). eq_z z (pos 3)) (to_z-of_z c.ranges.m)) ∙ c.if-equal-2.true)

returns-3 : tie.Need-returns
returns-3 c = simp (sym (c.equal.ensures ∙ ap (λ (z : ℤ). eq_z z (pos 1)) (to_z-of_z c.ranges.m)) ∙ c.if-equal.false, sym (c.equal-2.ensures ∙ ap (λ (z : ℤ). eq_z z (pos 3)) (to_z-of_z c.ranges.m)) ∙ c.if-equal-2.false)

pub mode_of_spec : {M : Type 1} → statement M
mode_of_spec = tie.close (tie.spec (λ c κs. search rules) returns (λ c κs. search rules) returns-2 returns-3)
