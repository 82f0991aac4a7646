-- `writing_element::place::is_room` meets its contract. Assumes nothing.
use borrow.Author.Rules.{rules}
use Rattle.writing_element.proofs.place.is_room.Statement.{statement}
use Rattle.writing_element.proofs.place.is_room.Tie as tie

returns : tie.Need-returns
returns c = rw c.holds.ensures (search rules)

pub is_room_spec : {M : Type 1} → statement M
is_room_spec = tie.close (tie.spec (λ c κs. search rules) returns)
