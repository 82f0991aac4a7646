-- The first b behind `from`, counted from there, or none.
use Rattle.std.proofs.Common.{rules}
use Rattle.text.proofs.DropSteps.{rest}
use Rattle.text.proofs.ScanLaws.{first_at, first_none}
use Rattle.byte_slices.proofs.scan.by_one.Goals as goal

pub returns-in-Some : goal.returns-in-Some
returns-in-Some c = first_at _ c.requires (rest c.args.a.now c.args.from) (search rules) (search rules) (search rules)

pub returns-in-None : goal.returns-in-None
returns-in-None c = first_none _ c.requires (rest c.args.a.now c.args.from) (search rules)
