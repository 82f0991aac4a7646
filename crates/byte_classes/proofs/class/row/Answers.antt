-- `crate::class::row` meets its contract: each row is the one that the classes of its sixteen bytes make, which antt
-- computes; the last arm's number is 15.
-- Assumes nothing.
use Rattle.std.proofs.Common.{◌≡◌, sym, ap, arith}
use Rattle.byte_classes.specs.Classes.{class_of, row_from, row_of}
use Rattle.byte_classes.proofs.class.row.Goals as goal

pub returns-in-0 : goal.returns-in-0
unfolding class_of row_from
returns-in-0 c = ap row_of (sym c.in-0.is)

pub returns-in-1 : goal.returns-in-1
unfolding class_of row_from
returns-in-1 c = ap row_of (sym c.in-1.is)

pub returns-in-2 : goal.returns-in-2
unfolding class_of row_from
returns-in-2 c = ap row_of (sym c.in-2.is)

pub returns-in-3 : goal.returns-in-3
unfolding class_of row_from
returns-in-3 c = ap row_of (sym c.in-3.is)

pub returns-in-4 : goal.returns-in-4
unfolding class_of row_from
returns-in-4 c = ap row_of (sym c.in-4.is)

pub returns-in-5 : goal.returns-in-5
unfolding class_of row_from
returns-in-5 c = ap row_of (sym c.in-5.is)

pub returns-in-6 : goal.returns-in-6
unfolding class_of row_from
returns-in-6 c = ap row_of (sym c.in-6.is)

pub returns-in-7 : goal.returns-in-7
unfolding class_of row_from
returns-in-7 c = ap row_of (sym c.in-7.is)

pub returns-in-8 : goal.returns-in-8
unfolding class_of row_from
returns-in-8 c = ap row_of (sym c.in-8.is)

pub returns-in-9 : goal.returns-in-9
unfolding class_of row_from
returns-in-9 c = ap row_of (sym c.in-9.is)

pub returns-in-10 : goal.returns-in-10
unfolding class_of row_from
returns-in-10 c = ap row_of (sym c.in-10.is)

pub returns-in-11 : goal.returns-in-11
unfolding class_of row_from
returns-in-11 c = ap row_of (sym c.in-11.is)

pub returns-in-12 : goal.returns-in-12
unfolding class_of row_from
returns-in-12 c = ap row_of (sym c.in-12.is)

pub returns-in-13 : goal.returns-in-13
unfolding class_of row_from
returns-in-13 c = ap row_of (sym c.in-13.is)

pub returns-in-14 : goal.returns-in-14
unfolding class_of row_from
returns-in-14 c = ap row_of (sym c.in-14.is)

pub returns-in_default : goal.returns-in_default
unfolding class_of row_from
returns-in_default c = let e : c.args.i ≡ 15 = omega arith in ap row_of (sym e)
