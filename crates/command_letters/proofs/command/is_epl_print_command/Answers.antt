-- `command_letters::command::is_epl_print_command` meets its contract.
use Rattle.command_letters.specs.Command.{is_print}
use Rattle.command_letters.proofs.command.is_epl_print_command.Goals as goal

pub returns : goal.returns
unfolding is_print
returns c = simp (c.is_counts.ensures, c.tail.ensures, c.byte_at.ensures)
