-- `writing_limits::fine::fits` meets its contract. Assumes nothing.
use mathlib.Core.Path.{sym, ◌∙◌}
use lib.IntN.{◌+ℤ◌}
use mir.Facts.{to_z-of_z}
use Rattle.writing_templates.proofs.FillLaws.{sums_fits, sums_outside}
use borrow.Author.Rules.{rules}
use Rattle.writing_limits.proofs.fine.fits.Statement.{statement}
use Rattle.writing_limits.proofs.fine.fits.Tie as tie

returns : tie.Need-returns-in-Fits
returns c =
    let a = c in
    sums_fits (a.args.a +ℤ a.args.b) _ (sym (rw (to_z-of_z a.ranges.a, to_z-of_z a.ranges.b) at c.checked_add.ensures) ∙ c.in-Fits.is)

returns-2 : tie.Need-returns-in-Outside
returns-2 c =
    let a = c in
    sums_outside (a.args.a +ℤ a.args.b) (sym (rw (to_z-of_z a.ranges.a, to_z-of_z a.ranges.b) at c.checked_add.ensures) ∙ c.in-Outside.is)

pub fits_spec : {M : Type 1} → statement M
fits_spec = tie.close (tie.spec (λ c κs. search rules) (λ c. search rules) (λ c. search rules) returns returns-2)
