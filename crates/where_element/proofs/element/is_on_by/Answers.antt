-- `where_element::element::is_on_by`: a box and a diagonal, by their fields.
use Rattle.std.proofs.Common.{rules}
use mir.Syntax.{w32}
use mir.Val.{SFits}
use mir.Facts.{to_z-of_z}
use Rattle.where_element.proofs.element.is_on_by.Goals as goal

pub returns-in-Box : goal.returns-in-Box
returns-in-Box c =
    let x : SFits w32 c.args.p.x = search rules in
    let y : SFits w32 c.args.p.y = search rules in
    let w : SFits w32 c.in-Box.x.width = search rules in
    let h : SFits w32 c.in-Box.x.height = search rules in
    rw c.in-Box.is (simp (to_z-of_z x, to_z-of_z y, to_z-of_z w, to_z-of_z h) at c.touches.ensures)

pub returns-in-Diagonal : goal.returns-in-Diagonal
returns-in-Diagonal c =
    let x : SFits w32 c.args.p.x = search rules in
    let y : SFits w32 c.args.p.y = search rules in
    let w : SFits w32 c.in-Diagonal.x.width = search rules in
    let h : SFits w32 c.in-Diagonal.x.height = search rules in
    rw c.in-Diagonal.is (simp (to_z-of_z x, to_z-of_z y, to_z-of_z w, to_z-of_z h) at c.touches-in-Diagonal.ensures)
