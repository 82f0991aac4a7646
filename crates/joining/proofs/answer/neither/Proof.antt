-- `joining::answer::neither` meets its contract: the refusal's number. Assumes nothing.
use borrow.Author.Rules.{rules}
use Rattle.joining.proofs.answer.neither.Statement.{statement}
use Rattle.joining.proofs.answer.neither.Tie as tie

pub neither_spec : {M : Type 1} → statement M
neither_spec = tie.close (tie.spec (λ c κs. search rules) (λ c. search rules) (λ c. simp c.number.ensures))
