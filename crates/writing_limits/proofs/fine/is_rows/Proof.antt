-- `writing_limits::fine::is_rows` meets its contract. Assumes nothing.
use mathlib.Core.Path.{◌∙◌}
use native.Mathlib.Omega.{arith}
use borrow.Author.Tests.{eq-eqb, ne_eqb}
use mir.Facts.{to_z-of_z}
use Rattle.writing_templates.proofs.FillLaws.{row_bits}
use borrow.Author.Rules.{rules}
use Rattle.writing_limits.proofs.fine.is_rows.Statement.{statement}
use Rattle.writing_limits.proofs.fine.is_rows.Tie as tie

returns : tie.Need-returns-then-len-eq0
returns c = simp (eq-eqb c.args.len 0 c.if-len-eq0.true)

returns-2 : tie.Need-returns-then-row-lt1
returns-2 c = simp (ne_eqb c.args.len 0 c.if-len-eq0.false, rw (to_z-of_z c.ranges.row) at c.if-row-lt1.true)

rem-result : tie.Need-nonzero_rem-result
rem-result c =
    let a = c in
    let e = to_z-of_z a.ranges.row in
    let k = row_bits a.args.row (rw e at c.if-row-lt1.false) in
    omega (arith, rw e at c.bits.ensures, k.0, k.1)

returns-3 : tie.Need-returns
returns-3 c =
    let a = c in
    let e = to_z-of_z a.ranges.row in
    let l = rw e at c.if-row-lt1.false in
    rw ((rw e at c.bits.ensures) ∙ (row_bits a.args.row l).0) (simp (ne_eqb a.args.len 0 c.if-len-eq0.false, l))

pub is_rows_spec : {M : Type 1} → statement M
is_rows_spec =
    tie.close (tie.spec returns returns-2 (λ c κs. search rules) (λ c. search rules) rem-result returns-3)
