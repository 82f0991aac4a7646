-- `crate::number::minus` meets its contract: -v is a number of 32 bits.
-- Assumes nothing.
use Prim.Native.Nat.{◌<◌}
use native.Mathlib.Omega.{arith}
use lib.IntN.{pos, neg_ℤ}
use lib.Signed.{mag}
use mir.Syntax.{w64}
use mir.Facts.{to_z_pos}
use borrow.Author.Rules.{rules}
use Rattle.numbers.proofs.IntLaws.{back32, back64}
use Rattle.numbers.proofs.NumberLaws.{zero_sub, mag_neg_lt}
use Rattle.numbers.proofs.number.minus.Statement.{statement}
use Rattle.numbers.proofs.number.minus.Tie as tie

sub-result : tie.Need-overflow_sub-result
sub-result c = simp (to_z_pos w64 {n = c.args.v} (omega arith), zero_sub) (record { sfits = omega (arith, mag_neg_lt c.args.v c.requires) })

cast-result-2 : tie.Need-overflow_cast-result-2
cast-result-2 c =
    let m : mag (neg_ℤ (pos c.args.v)) < 2147483648 = mag_neg_lt c.args.v c.requires in
    rw (to_z_pos w64 {n = c.args.v} (omega arith), zero_sub c.args.v, back64 (neg_ℤ (pos c.args.v)) (omega arith)) (record { sfits = m })

returns : tie.Need-returns
returns c =
    let m : mag (neg_ℤ (pos c.args.v)) < 2147483648 = mag_neg_lt c.args.v c.requires in
    rw (to_z_pos w64 {n = c.args.v} (omega arith), zero_sub c.args.v, back64 (neg_ℤ (pos c.args.v)) (omega arith), back32 (neg_ℤ (pos c.args.v)) m)

pub minus_spec : {M : Type 1} → statement M
minus_spec = tie.close (tie.spec (λ c. search rules) sub-result cast-result-2 returns)
