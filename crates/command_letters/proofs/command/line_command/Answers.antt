-- `command_letters::command::line_command` meets its contract, arm by arm.
use Rattle.std.proofs.Common.{arith}
use Rattle.std.proofs.lemmas.Grind.{common_steps}
use Rattle.command_letters.specs.Command.{is_reference, is_print, command_of}
use Rattle.command_letters.proofs.command.line_command.Goals as goal

pub returns-in-79 : goal.returns-in-79
unfolding command_of is_reference is_print
returns-in-79 c = rw c.in-79.is

pub returns-in-87 : goal.returns-in-87
unfolding command_of is_reference is_print
returns-in-87 c = rw c.in-87.is

pub returns-in-69 : goal.returns-in-69
unfolding command_of is_reference is_print
returns-in-69 c = rw c.in-69.is

pub returns-in-83 : goal.returns-in-83
unfolding command_of is_reference is_print
returns-in-83 c = rw c.in-83.is

pub returns-in_default : goal.returns-in_default
unfolding command_of is_reference is_print
returns-in_default c = grind (arith, common_steps)
