-- `structs::answer::event` meets its contract. Assumes nothing.
use borrow.Author.Rules.{rules}
use Rattle.structs.proofs.answer.event.Statement.{statement}
use Rattle.structs.proofs.answer.event.Tie as tie

returns : tie.Need-returns
returns c = rw c.nothing-element.ensures (search rules)

pub event_spec : {M : Type 1} → statement M
event_spec = tie.close (tie.spec (λ c κs. search rules) returns)
