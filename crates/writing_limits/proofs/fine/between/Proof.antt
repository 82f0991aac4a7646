-- `writing_limits::fine::between` meets its contract. Assumes nothing.
use Prim.Native.Nat.{◌<◌}
use native.Mathlib.Omega.{arith}
use borrow.Author.Tests.{eq-eqb, ne_eqb}
use mir.Facts.{to_z-of_z, to_z_pos}
use mir.Syntax.{w32}
use borrow.Author.Rules.{rules}
use Rattle.writing_limits.proofs.fine.between.Statement.{statement}
use Rattle.writing_limits.proofs.fine.between.Tie as tie

returns : tie.Need-returns-then-z-lo
returns c =
    let a = c in
    let l : a.args.lo < 2147483648 = omega (arith, a.ranges.lo.fits) in
    simp (rw (to_z-of_z a.ranges.z, to_z_pos w32 l) at c.if-z-lo.true)

returns-2 : tie.Need-returns-then-hi-eq255
returns-2 c =
    let a = c in
    let l : a.args.lo < 2147483648 = omega (arith, a.ranges.lo.fits) in
    simp (rw (to_z-of_z a.ranges.z, to_z_pos w32 l) at c.if-z-lo.false, eq-eqb a.args.hi 255 c.if-hi-eq255.true)

returns-3 : tie.Need-returns
returns-3 c =
    let a = c in
    let l : a.args.lo < 2147483648 = omega (arith, a.ranges.lo.fits) in
    let h : a.args.hi < 2147483648 = omega (arith, a.ranges.hi.fits) in
    rw (to_z-of_z a.ranges.z, to_z_pos w32 h) (simp (rw (to_z-of_z a.ranges.z, to_z_pos w32 l) at c.if-z-lo.false, ne_eqb a.args.hi 255 c.if-hi-eq255.false))

pub between_spec : {M : Type 1} → statement M
between_spec = tie.close (tie.spec (λ c. search rules) returns returns-2 (λ c. search rules) returns-3)
