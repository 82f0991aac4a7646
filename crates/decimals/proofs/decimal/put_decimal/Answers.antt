-- A number below 0 has `-` and then the digits of m.
use Rattle.std.proofs.Common.{ap, length, arith}
use lib.ListN.{length-set}
use Rattle.decimals.specs.Decimal.{digits}
use Rattle.decimals.proofs.PutLaws.{put_cons, put_as}
use Rattle.decimals.proofs.SignLaws.{minus_is}
use Rattle.decimals.proofs.decimal.put_decimal.Goals as goal

pub put_digits-requires : goal.put_digits-requires
put_digits-requires c =
    let e = minus_is c.args.n c.unsigned_abs-m.result c.ranges.n c.if-n-lt0.true c.unsigned_abs-m.ensures.value in
    omega (arith, ap length e, length-set c.args.out.now c.args.at 45)

pub returns-then-n-lt0 : goal.returns-then-n-lt0
returns-then-n-lt0 c =
    let e = minus_is c.args.n c.unsigned_abs-m.result c.ranges.n c.if-n-lt0.true c.unsigned_abs-m.ensures.value in
    put_as e (put_cons 45 (digits c.unsigned_abs-m.result) c.put_digits.ensures)
