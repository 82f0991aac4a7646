-- `dots::length::falling` meets its contract: `to300` of -1 - k is -1 less this quotient. Assumes nothing.
use Prim.Native.Nat.{◌+◌, ◌*◌, ◌/◌}
use lib.IntN.{negsuc}
use Rattle.numbers.proofs.IntLaws.{back32}
use Rattle.dots.proofs.LengthLaws.{to300_neg, converted_at, converted_past}
use borrow.Author.Rules.{rules}
use Rattle.dots.proofs.length.falling.Statement.{statement}
use Rattle.dots.proofs.length.falling.Tie as tie

returns : tie.Need-returns-then-z-lt2147483648
returns c =
    let k = c.args.k in
    rw (back32 c.below.result c.below.type_inv, c.below.ensures) (converted_at (negsuc k) (negsuc ((k * 600 + 396) / 406)) (to300_neg k) c.if-z-lt2147483648.true)

returns-2 : tie.Need-returns
returns-2 c = let k = c.args.k in converted_past (negsuc k) (negsuc ((k * 600 + 396) / 406)) (to300_neg k) c.if-z-lt2147483648.false

pub falling_spec : {M : Type 1} → statement M
falling_spec = tie.close (tie.spec (λ c. search rules) (λ c. search rules) (λ c κs. search rules) returns returns-2)
