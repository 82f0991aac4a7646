-- `graphics::gw_span::in_field` meets its contract. Assumes nothing.
use borrow.Author.Rules.{rules}
use Rattle.graphics.proofs.gw_span.in_field.Statement.{statement}
use Rattle.graphics.proofs.gw_span.in_field.Tie as tie

pub in_field_spec : {M : Type 1} → statement M
in_field_spec = tie.close (tie.spec (λ c. search rules))
