-- `writing_limits::fine::is_sloped` meets its contract. Assumes nothing.
use mathlib.Core.Path.{sym, ◌∙◌}
use borrow.Author.Tests.{eq-eqb, ne_eqb}
use borrow.Author.Rules.{rules}
use Rattle.writing_limits.proofs.fine.is_sloped.Statement.{statement}
use Rattle.writing_limits.proofs.fine.is_sloped.Tie as tie

returns : tie.Need-returns-then-w
returns c =
    let h = c in
    let w = h in
    simp (eq-eqb w.args.e.direction 1 c.if-e-eq1.true, sym w.in_range-w.ensures ∙ c.if-w.true) h.in_range-h.ensures

returns-2 : tie.Need-returns-else-w
returns-2 c =
    let h = c in
    let w = h in
    rw h.in_range-h.ensures (simp (eq-eqb w.args.e.direction 1 c.if-e-eq1.true, sym w.in_range-w.ensures ∙ c.if-w.false))

returns-3 : tie.Need-returns
returns-3 c =
    let h = c in
    let w = h in
    rw (w.in_range-w.ensures, h.in_range-h.ensures) (simp (ne_eqb w.args.e.direction 1 c.if-e-eq1.false))

pub is_sloped_spec : {M : Type 1} → statement M
is_sloped_spec = tie.close (tie.spec (λ c κs. search rules) (λ c κs. search rules) returns returns-2 returns-3)
