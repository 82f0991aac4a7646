-- `dots::element::lengths` meets its contract: numbers are read back from their bits. Assumes nothing.
use Rattle.numbers.proofs.IntLaws.{back32}
use borrow.Author.Rules.{rules}
use Rattle.dots.proofs.element.lengths.Statement.{statement}
use Rattle.dots.proofs.element.lengths.Tie as tie

returns : tie.Need-returns
returns c =
    let thickness = c in
    let height = thickness in
    let width = height in
    let barred = width in
    let e = barred.args.e in
    let g = c.struct_told-5-1.given.1.1.1.1.1.1.1.1.1 in
    rw (width.pick-width.ensures, height.pick-height.ensures, thickness.pick-thickness.ensures, barred.is_drawn-drawn.ensures, barred.is_barred.ensures)
    (simp (back32 e.x g.0.1, back32 e.y g.1.0.1, back32 e.width g.1.1.0.1, back32 e.height g.1.1.1.0.1, back32 e.thickness g.1.1.1.1.0.1))

pub lengths_spec : {M : Type 1} → statement M
lengths_spec = tie.close (tie.spec (λ c κs. search rules) (λ c κs. search rules) (λ c κs. search rules) (λ c κs. search rules) (λ c κs. search rules) returns)
