-- `dots::element::with_lengths` meets its contract: numbers are read back from their bits. Assumes nothing.
use Rattle.numbers.proofs.IntLaws.{back32}
use borrow.Author.Rules.{rules}
use Rattle.dots.proofs.element.with_lengths.Statement.{statement}
use Rattle.dots.proofs.element.with_lengths.Tie as tie

returns : tie.Need-returns
returns c =
    let thickness = c in
    let height = thickness in
    let width = height in
    let barred = width in
    let e = barred.args.e in
    let g = c.struct_told-4-1.given.1.1.1.1.1.1.1.1.1.1.1 in
    let f = g.1.1.1.1.1.1.1 in
    rw (width.choose-width.ensures, height.choose-height.ensures, thickness.choose-thickness.ensures, barred.is_drawn-drawn.ensures, barred.is_barred.ensures)
    (simp (
      back32 e.width g.0.1,
      back32 e.height g.1.0.1,
      back32 e.thickness g.1.1.0.1,
      back32 e.row_bytes g.1.1.1.0.1,
      back32 e.security g.1.1.1.1.0.1,
      back32 e.columns g.1.1.1.1.1.0.1,
      back32 e.rows g.1.1.1.1.1.1.0.1,
      back32 e.magnification f.0.1,
      back32 e.size f.1.0.1,
      back32 e.mode f.1.1.0.1,
      back32 e.font f.1.1.1.0.1,
      back32 e.horizontal f.1.1.1.1.0.1,
      back32 e.vertical f.1.1.1.1.1.0.1,
      back32 e.wide f.1.1.1.1.1.1.0.1,
    ))

pub with_lengths_spec : {M : Type 1} → statement M
with_lengths_spec = tie.close (tie.spec (λ c κs. search rules) (λ c κs. search rules) (λ c κs. search rules) (λ c κs. search rules) (λ c κs. search rules) returns)
