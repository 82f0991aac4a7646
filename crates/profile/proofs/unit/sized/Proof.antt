-- `profile::unit::sized` meets its contract. Assumes nothing.
use borrow.Author.Rules.{rules}
use Rattle.profile.proofs.unit.sized.Statement.{statement}
use Rattle.profile.proofs.unit.sized.Tie as tie

pub sized_spec : {M : Type 1} → statement M
sized_spec = tie.close (tie.spec (λ c. search rules) (λ c. search rules) (λ c. simp c.in-Fine.is) (λ c. simp c.in-To.is))
