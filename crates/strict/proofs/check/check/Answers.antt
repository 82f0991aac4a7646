-- `strict::check::check` meets its contract: a file that is too long is left to the plain walk; else the look at what
-- the plain walk has read. Assumes nothing.
use Rattle.std.proofs.Common.{arith}
use Rattle.strict.proofs.LookLaws.{long_checks, look_checks, end_accepted, end_refused, place_lt}
use Rattle.strict.proofs.check.check.Goals as goal

pub returns-then-input-gt-LONGEST : goal.returns-then-input-gt-LONGEST
returns-then-input-gt-LONGEST c = long_checks c.args.input.now c.plain-p.result c.plain-p.ensures c.if-input-gt-LONGEST.true

pub returns-then-p-eq0 : goal.returns-then-p-eq0
returns-then-p-eq0 c =
    let s = c.args.input.now in
    let p = c.plain-p in
    let short = c.if-input-gt-LONGEST.false in
    look_checks s p.result p.ensures short _ c.objected.result (end_accepted s p.result p.ensures short c.if-p-eq0.true) c.objected.ensures

pub overflow_add-p : goal.overflow_add-p
overflow_add-p c =
    let p = c.plain-p in
    omega (arith, place_lt c.args.input.now p.result p.ensures c.if-input-gt-LONGEST.false c.if-p-eq0.false)

pub objected-requires-2 : goal.objected-requires-2
objected-requires-2 c =
    let p = c.plain-p in
    omega (arith, place_lt c.args.input.now p.result p.ensures c.if-input-gt-LONGEST.false c.if-p-eq0.false)

pub returns : goal.returns
returns c =
    let s = c.args.input.now in
    let p = c.plain-p in
    let short = c.if-input-gt-LONGEST.false in
    look_checks s p.result p.ensures short _ c.objected-2.result (end_refused s p.result p.ensures short c.if-p-eq0.false) c.objected-2.ensures
