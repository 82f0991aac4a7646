-- `crate::number::with_sign` meets its contract: 2^31 is in the range only where it is negative.
-- Assumes nothing.
use borrow.Author.Tests.{lt-ltb, le-ltb}
use borrow.Author.Rules.{rules}
use Rattle.numbers.proofs.IntLaws.{back32}
use Rattle.numbers.proofs.NumberLaws.{ranged_neg}
use Rattle.numbers.proofs.number.with_sign.Statement.{statement}
use Rattle.numbers.proofs.number.with_sign.Tie as tie

returns : tie.Need-returns-then-neg
returns c =
    let s = c in
    rw (back32 c.minus.result c.minus.type_inv) (simp (c.if-neg.true, ranged_neg s.args.v s.requires, c.minus.ensures))

returns-2 : tie.Need-returns-then-v-lt2147483648
returns-2 c =
    let s = c in
    simp (c.if-neg.false, lt-ltb s.args.v 2147483648 c.if-v-lt2147483648.true)

returns-3 : tie.Need-returns-else-v-lt2147483648
returns-3 c =
    let s = c in
    simp (c.if-neg.false, le-ltb s.args.v 2147483648 c.if-v-lt2147483648.false)

pub with_sign_spec : {M : Type 1} → statement M
with_sign_spec = tie.close (tie.spec (λ c κs. search rules) returns (λ c. search rules) returns-2 returns-3)
