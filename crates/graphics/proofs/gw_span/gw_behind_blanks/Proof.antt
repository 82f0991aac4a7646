-- `graphics::gw_span::gw_behind_blanks` meets its contract: the first two bytes behind the blanks.
-- Assumes nothing.
use mathlib.Core.Path.{ap, ◌∙◌}
use mathlib.Core.List.{List, [], ◌∷◌}
use Prim.Native.Nat.{ℕ}
use lib.ListN.{take}
use borrow.Author.Rules.{rules}
use Rattle.text.specs.Fields.{same}
use Rattle.graphics.specs.Block.{opens_gw}
use Rattle.graphics.proofs.BlockLaws.{two_here, two_none}
use Rattle.graphics.proofs.gw_span.gw_behind_blanks.Statement.{statement}
use Rattle.graphics.proofs.gw_span.gw_behind_blanks.Tie as tie

returns : tie.Need-returns-then-t-lt2
unfolding opens_gw
returns c =
    let t = c.trim_line_start-t in
    two_none t.result.now 71 87 c.if-t-lt2.true ∙ ap (λ (l : List ℕ). same (take 2 l) (71 ∷ 87 ∷ [])) t.ensures

returns-2 : tie.Need-returns
unfolding opens_gw
returns-2 c =
    let t = c.trim_line_start-t in
    two_here t.result.now 71 87 c.if-t-lt2.false ∙ ap (λ (l : List ℕ). same (take 2 l) (71 ∷ 87 ∷ [])) t.ensures

pub gw_behind_blanks_spec : {M : Type 1} → statement M
gw_behind_blanks_spec =
    tie.close (tie.spec (λ c κs. search rules) returns (λ c. search rules) (λ c. search rules) returns-2)
