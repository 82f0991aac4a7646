-- `graphics::gw_span::opens_gw` meets its contract: nothing, another first byte, or what stands behind the blanks.
-- Assumes nothing.
use Rattle.graphics.proofs.BlockLaws.{opens_none, opens_other}
use borrow.Author.Rules.{rules}
use Rattle.graphics.proofs.gw_span.opens_gw.Statement.{statement}
use Rattle.graphics.proofs.gw_span.opens_gw.Tie as tie

returns : tie.Need-returns-then-s-eq0
returns c = opens_none c.args.s.now c.if-s-eq0.true

returns-2 : tie.Need-returns-then-b
returns-2 c = let e = c in opens_other e.args.s.now e.if-s-eq0.false c.if-b.true

pub opens_gw_spec : {M : Type 1} → statement M
opens_gw_spec = tie.close (tie.spec returns (λ c. search rules) returns-2 (λ c κs. search rules) (λ c. search rules))
