-- `writing_label::at_300::turn_300` meets its contract. Assumes nothing.
use borrow.Author.Rules.{rules}
use Rattle.writing_label.proofs.at_300.turn_300.Statement.{statement}
use Rattle.writing_label.proofs.at_300.turn_300.Tie as tie

returns : tie.Need-returns
returns c = rw c.dots_of.ensures at c.turn.ensures

pub turn_300_spec : {M : Type 1} → statement M
turn_300_spec =
    tie.close
    (tie.spec
    (λ c κs. search rules)
    (λ c κs. search rules)
    (λ c. search rules)
    returns)
