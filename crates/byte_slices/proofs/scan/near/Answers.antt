-- The first of eight bytes with a mark is the first b; with no mark there is none among them.
use Rattle.std.proofs.Common.{◌≡◌, ◌<◌, ◌/◌, arith}
use lib.Count.{count_trailing_zeros}
use Rattle.text.proofs.ScanLaws.{none_join, near_short, near_first}
use Rattle.text.proofs.WordLaws.{mark_near, mark_first, mark_none}
use Rattle.byte_slices.proofs.scan.near.Goals as goal

pub returns-then-a-lt-NEAR : goal.returns-then-a-lt-NEAR
returns-then-a-lt-NEAR c = near_short c.args.a.now c.args.b c.if-a-lt-NEAR.true

pub returns-then-m-ne0 : goal.returns-then-m-ne0
returns-then-m-ne0 c =
    let a = c.args.a.now in
    let i = c.loop-i.i in
    let h : count_trailing_zeros 64 c.marks-m.result / 8 < 8 = mark_near a c.args.b i c.marks-m.ensures c.if-m-ne0.true in
    let f = mark_first a c.args.b i c.marks-m.ensures in
    near_first (omega arith) (record { low = omega arith; high = omega arith; before = none_join c.loop-i.invariant.2 f.before; found = λ q. f.found (omega arith) })

pub loop-i-preserved : goal.loop-i-preserved
loop-i-preserved c =
    (omega arith, omega arith, none_join c.loop-i.invariant.2 (mark_none c.args.a.now c.args.b c.loop-i.i c.marks-m.ensures c.if-m-ne0.false))

pub returns : goal.returns
returns c =
    let e : c.loop-i.i ≡ 96 = omega arith in
    near_first (omega arith) (record { low = omega arith; high = omega arith; before = rw e at c.loop-i.invariant.2; found = λ h. absurd (omega arith) })
