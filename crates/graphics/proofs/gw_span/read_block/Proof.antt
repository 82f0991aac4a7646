-- `graphics::gw_span::read_block` meets its contract, arm by arm. `span_fits` gives what `graphic_at` requires.
-- Assumes nothing.
use mathlib.Core.Path.{sym, ◌∙◌}
use native.Mathlib.Omega.{arith}
use borrow.Author.Rules.{rules}
use borrow.Author.Tests.{not-true}
use Rattle.graphics.specs.Block.{gw_span}
use Rattle.graphics.proofs.BlockLaws.{span_fits}
use Rattle.graphics.proofs.gw_span.read_block.Statement.{statement}
use Rattle.graphics.proofs.gw_span.read_block.Tie as tie

returns : tie.Need-returns-then-not-opens_gw
unfolding gw_span
returns c =
    let o = c.opens_gw in
    simp (sym o.ensures ∙ not-true o.result c.if-not-opens_gw.true-raw)

graphic-at-requires : tie.Need-graphic_at-requires
graphic-at-requires c κs =
    let r = c in
    let f = span_fits r.args.rest.now c.in-Span.g (sym r.gw_span.ensures ∙ c.in-Span.is) in
    (f.start_le, omega arith)

returns-2 : tie.Need-returns-in-NoGraphic
returns-2 c = simp (sym c.gw_span.ensures ∙ c.in-NoGraphic.is)

returns-3 : tie.Need-returns-in-Refused
returns-3 c = simp (sym c.gw_span.ensures ∙ c.in-Refused.is)

returns-4 : tie.Need-returns-in-Span
returns-4 c = simp (c.graphic_at.ensures, sym c.gw_span.ensures ∙ c.in-Span.is)

pub read_block_spec : {M : Type 1} → statement M
read_block_spec =
    tie.close (tie.spec (λ c κs. search rules)
    returns (λ c κs. search rules) (λ c. search rules) (λ c. search rules) (λ c. search rules)
    graphic-at-requires returns-2 returns-3 returns-4)
