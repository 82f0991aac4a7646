-- `graphics::gw_span::gw_span` meets its contract: without `GW` nothing stands first.
-- Assumes nothing.
use mathlib.Core.Path.{sym, ◌∙◌}
use borrow.Author.Tests.{not-true, not-false}
use borrow.Author.Rules.{rules}
use Rattle.graphics.specs.Block.{gw_span}
use Rattle.graphics.proofs.gw_span.gw_span.Statement.{statement}
use Rattle.graphics.proofs.gw_span.gw_span.Tie as tie

returns : tie.Need-returns-then-not-opens_gw
unfolding gw_span
returns c = simp (sym c.opens_gw.ensures ∙ not-true c.opens_gw.result c.if-not-opens_gw.true-raw)

opened-gw-requires : tie.Need-opened_gw-requires
opened-gw-requires c κs = sym c.opens_gw.ensures ∙ not-false c.opens_gw.result c.if-not-opens_gw.false-raw

pub gw_span_spec : {M : Type 1} → statement M
gw_span_spec = tie.close (tie.spec (λ c κs. search rules) returns opened-gw-requires (λ c. search rules))
