-- `commands::line::read_line` meets its contract: blanks off, then the command; `command_later` takes the line's place.
use mathlib.Core.Path.{◌≡◌, ap, ◌∙◌}
use native.Mathlib.Omega.{arith}
use lib.ListN.{length}
use Rattle.text.specs.Blank.{is_blank, trim, trim_end}
use Rattle.text.proofs.BlankStripLaws.{strip_le}
use Rattle.command_letters.specs.Command.{command_of}
use Rattle.commands.specs.Line.{lead_of, read_line}
use Rattle.commands.proofs.LineLaws.{lead_le}
use Rattle.commands.proofs.LineLaterLaws.{command_later}
use Rattle.commands.proofs.line.read_line.Goals as goal
use Rattle.commands.proofs.line.read_line.Goals.{After-trim_end-t}

-- the line without its blanks
off : (d : After-trim_end-t) → d.trim_end-t.result.now ≡ trim d.args.line.now
off d = d.trim_end-t.ensures ∙ ap trim_end d.trim_start-started.ensures

pub overflow_sub-lead : goal.overflow_sub-lead
overflow_sub-lead c = rw c.trim_start-started.ensures (strip_le is_blank c.args.line.now 0)

pub read_command-requires : goal.read_command-requires
read_command-requires c =
    omega (arith, lead_le c.args.line.now, ap length (off (goal.at.read_command-requires c).After-trim_end-t), ap length c.trim_start-started.ensures)

pub returns : goal.returns
unfolding read_line
returns c =
    let a = c.args in
    let t = trim a.line.now in
    rw (← command_later a.at (command_of t) (lead_of a.line.now) t a.reference)
    (simp (c.command_of.ensures, c.trim_end-t.ensures, c.trim_start-started.ensures) at c.read_command.ensures)
