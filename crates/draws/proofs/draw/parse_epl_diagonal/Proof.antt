-- `draws::draw::parse_epl_diagonal` meets its contract: the number of fields decides, and then the calls compose.
-- Assumes nothing.
use mathlib.Core.Path.{◌∙◌}
use Rattle.numbers.proofs.IntLaws.{back32}
use Rattle.parameters.proofs.ParamsLaws.{too_few, enough}
use Rattle.draws.specs.Draw.{diagonal_reading}
use Rattle.draws.proofs.DrawLaws.{corners_are, five}
use borrow.Author.Rules.{rules}
use Rattle.draws.proofs.draw.parse_epl_diagonal.Statement.{statement}
use Rattle.draws.proofs.draw.parse_epl_diagonal.Tie as tie

returns : tie.Need-returns-then-not-reaches
unfolding diagonal_reading
returns c =
    let n = c in
    let k = n.read_corners-read in
    too_few _ _ _ _ (five _ k.ensures n.reaches.ensures) c.if-not-reaches.true-raw

returns-2 : tie.Need-returns
unfolding diagonal_reading
returns-2 c =
    let e = c in
    let n = e in
    let k = n.read_corners-read in
    rw (← corners_are _ k.ensures, ← c.drawn_at.ensures)
    ((simp (back32 k.result.corners.thickness c.struct_told-1.given.1.0.1) at c.diagonal.ensures) ∙ enough _ _ _ _ (five _ k.ensures n.reaches.ensures) e.if-not-reaches.false-raw)

pub parse_epl_diagonal_spec : {M : Type 1} → statement M
parse_epl_diagonal_spec =
    tie.close (tie.spec (λ c κs. search rules) (λ c κs. search rules)
    returns (λ c κs. search rules) (λ c κs. search rules)
    returns-2)
