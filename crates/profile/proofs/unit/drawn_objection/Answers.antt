-- `profile::unit::drawn_objection` meets its contract, by the second byte.
-- Assumes nothing.
use Rattle.std.proofs.Common.{arith}
use borrow.Author.Tests.{ne_eqb}
use Rattle.command_letters.specs.Command.{is_reference, is_print, command_of}
use Rattle.profile.proofs.unit.drawn_objection.Goals as goal

pub returns-in-79 : goal.returns-in-79
unfolding command_of is_reference is_print
returns-in-79 c = rw c.in-79.is (simp c.tail_two.ensures at c.sides.ensures)

pub returns-in-87 : goal.returns-in-87
unfolding command_of is_reference is_print
returns-in-87 c = rw c.in-87.is (simp c.tail_two-in-87.ensures at c.sides-in-87.ensures)

pub returns-in-69 : goal.returns-in-69
unfolding command_of is_reference is_print
returns-in-69 c = rw c.in-69.is (simp c.tail_two-in-69.ensures at c.sides-in-69.ensures)

pub returns-in-83 : goal.returns-in-83
unfolding command_of is_reference is_print
returns-in-83 c = rw c.in-83.is (simp c.tail_two-in-83.ensures at c.corners.ensures)

pub returns-in_default : goal.returns-in_default
unfolding command_of is_reference is_print
returns-in_default c =
    let b = c.args.b in
    simp (ne_eqb b 79 (omega arith), ne_eqb b 87 (omega arith), ne_eqb b 69 (omega arith), ne_eqb b 83 (omega arith))
