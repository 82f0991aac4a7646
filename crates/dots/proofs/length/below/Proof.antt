-- `dots::length::below` meets its contract: -1 - z is a number of 32 bits. Assumes nothing.
use native.Mathlib.Omega.{arith}
use lib.IntN.{negsuc}
use mir.Syntax.{w64}
use mir.Facts.{to_z_pos}
use Rattle.numbers.proofs.IntLaws.{back32, back64}
use Rattle.dots.proofs.LengthLaws.{minus_one}
use borrow.Author.Rules.{rules}
use Rattle.dots.proofs.length.below.Statement.{statement}
use Rattle.dots.proofs.length.below.Tie as tie

sub-result : tie.Need-overflow_sub-result
sub-result c = rw (to_z_pos w64 {n = c.args.z} (omega arith), minus_one c.args.z) (record { sfits = omega arith })

cast-result-2 : tie.Need-overflow_cast-result-2
cast-result-2 c = rw (to_z_pos w64 {n = c.args.z} (omega arith), minus_one c.args.z, back64 (negsuc c.args.z) (omega arith)) (record { sfits = omega arith })

returns : tie.Need-returns
returns c = rw (to_z_pos w64 {n = c.args.z} (omega arith), minus_one c.args.z, back64 (negsuc c.args.z) (omega arith), back32 (negsuc c.args.z) c.requires)

pub below_spec : {M : Type 1} → statement M
below_spec = tie.close (tie.spec (λ c. search rules) sub-result cast-result-2 returns)
