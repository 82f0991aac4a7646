-- `writing_templates::fill::lines_of` meets its contract. Assumes nothing.
use mathlib.Core.Path.{◌∙◌}
use Prim.Native.Nat.{◌/◌, ◌<◌, ◌≤◌}
use native.Mathlib.Omega.{arith}
use lib.IntN.{nat_abs}
use mir.Facts.{to_z-of_z, to_z_pos}
use mir.Syntax.{w32}
use Rattle.writing_templates.proofs.FillLaws.{row_bits, lines_none, lines_many, lines_some}
use borrow.Author.Rules.{rules}
use Rattle.writing_templates.proofs.fill.lines_of.Statement.{statement}
use Rattle.writing_templates.proofs.fill.lines_of.Tie as tie

returns : tie.Need-returns-then-row-lt1
returns c = let a = c in lines_none a.args.len a.args.row (rw (to_z-of_z a.ranges.row) at c.if-row-lt1.true)

div-n : tie.Need-nonzero_div-n
div-n c =
    let a = c in
    let e = to_z-of_z a.ranges.row in
    let k = row_bits a.args.row (rw e at c.if-row-lt1.false) in
    omega (arith, rw e at c.bits.ensures, k.0, k.1)

returns-2 : tie.Need-returns-then-n-gt2147483647
returns-2 c =
    let a = c in
    let e = to_z-of_z a.ranges.row in
    let l = rw e at c.if-row-lt1.false in
    let b = (rw e at c.bits.ensures) ∙ (row_bits a.args.row l).0 in
    lines_many a.args.len a.args.row l (rw b at c.if-n-gt2147483647.true)

returns-3 : tie.Need-returns
returns-3 c =
    let a = c in
    let e = to_z-of_z a.ranges.row in
    let l = rw e at c.if-row-lt1.false in
    let b = (rw e at c.bits.ensures) ∙ (row_bits a.args.row l).0 in
    let m : a.args.len / nat_abs a.args.row ≤ 2147483647 = rw b at c.if-n-gt2147483647.false in
    let k : a.args.len / nat_abs a.args.row < 2147483648 = omega arith in
    rw b (to_z_pos w32 k ∙ lines_some a.args.len a.args.row l m)

pub lines_of_spec : {M : Type 1} → statement M
lines_of_spec =
    tie.close (tie.spec returns (λ c κs. search rules) (λ c. search rules) div-n returns-2 (λ c. search rules) returns-3)
