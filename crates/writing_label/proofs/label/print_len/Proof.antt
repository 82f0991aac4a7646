-- `writing_label::label::print_len` meets its contract. Assumes nothing.
use mathlib.Core.Path.{ap}
use native.Mathlib.Omega.{arith}
use lib.IntN.{ℤ}
use lib.ListN.{length}
use mir.Facts.{to_z-of_z}
use Rattle.decimals.specs.Decimal.{decimal}
use Rattle.writing_label.proofs.PrintLaws.{print_long}
use borrow.Author.Rules.{rules}
use Rattle.writing_label.proofs.label.print_len.Statement.{statement}
use Rattle.writing_label.proofs.label.print_len.Tie as tie

returns : tie.Need-returns
returns c =
    let s = c in
    let a = ap (λ (z : ℤ). length (decimal z)) (to_z-of_z s.ranges.sets) in
    let b = ap (λ (z : ℤ). length (decimal z)) (to_z-of_z s.ranges.copies) in
    let d = c.decimal_len.ensures in
    let e = c.decimal_len-2.ensures in
    record { is = omega (arith, a, b, d.is, e.is, print_long s.args.sets s.args.copies); short = omega (arith, d.small, e.small) }

pub print_len_spec : {M : Type 1} → statement M
print_len_spec =
    tie.close
    (tie.spec
    (λ c κs. search rules)
    (λ c κs. search rules)
    (λ c. search rules)
    (λ c. search rules)
    returns)
