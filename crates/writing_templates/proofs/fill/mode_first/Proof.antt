-- `writing_templates::fill::mode_first` meets its contract. Assumes nothing.
use mathlib.Core.Path.{sym, ap, ◌∙◌}
use lib.IntN.{ℤ, pos}
use mir.Facts.{to_z-of_z}
use Rattle.numbers.specs.Int.{eq_z}
use borrow.Author.Rules.{rules}
use Rattle.writing_templates.proofs.fill.mode_first.Statement.{statement}
use Rattle.writing_templates.proofs.fill.mode_first.Tie as tie

returns : tie.Need-returns-then-equal
returns c = simp (sym (c.equal.ensures ∙ ap (λ (z : ℤ). eq_z z (pos 1)) (to_z-of_z c.ranges.m)) ∙ c.if-equal.true)

returns-2 : tie.Need-returns-else-equal
returns-2 c = simp (sym (c.equal.ensures ∙ ap (λ (z : ℤ). eq_z z (pos 1)) (to_z-of_z c.ranges.m)) ∙ c.if-equal.false)

pub mode_first_spec : {M : Type 1} → statement M
mode_first_spec = tie.close (tie.spec (λ c κs. search rules) returns returns-2)
