-- `command_letters::command::is_epl_reference_point` meets its contract.
use Rattle.command_letters.specs.Command.{is_reference}
use Rattle.command_letters.proofs.command.is_epl_reference_point.Goals as goal

pub returns : goal.returns
unfolding is_reference
returns c = simp (c.is_digit.ensures, c.byte_at-2.ensures, c.byte_at.ensures)
