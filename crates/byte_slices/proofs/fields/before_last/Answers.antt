-- The last b, or none.
use Rattle.std.proofs.Common.{rules}
use Rattle.text.proofs.FieldsLaws.{last_at, last_none}
use Rattle.byte_slices.proofs.fields.before_last.Goals as goal

pub returns-in-Some : goal.returns-in-Some
returns-in-Some c = last_at c.args.b c.args.s.now c.in-Some.n (search rules) (search rules) (search rules)

pub returns-in-None : goal.returns-in-None
returns-in-None c = last_none c.args.b c.args.s.now (search rules)
