-- `writing_label::at_300::dots_of`: numbers are read back from their bits.
use Rattle.numbers.proofs.IntLaws.{back32}
use Rattle.writing_label.proofs.at_300.dots_of.Goals as goal

pub returns : goal.returns
returns c =
    let e = c.args.e in
    -- the lengths come behind nine bytes, and the other numbers behind them
    let g = c.well_formed.0.1.1.1.1.1.1.1.1.1.1.1 in
    let h = g.1.1.1.1.1 in
    simp (
      back32 e.x.0 g.0.1.1.0.1,
      back32 e.y.0 g.1.0.1.1.0.1,
      back32 e.width.0 g.1.1.0.1.1.0.1,
      back32 e.height.0 g.1.1.1.0.1.1.0.1,
      back32 e.thickness.0 g.1.1.1.1.0.1.1.0.1,
      back32 e.row_bytes h.0.1,
      back32 e.security h.1.0.1,
      back32 e.columns h.1.1.0.1,
      back32 e.rows h.1.1.1.0.1,
      back32 e.magnification h.1.1.1.1.0.1,
      back32 e.size h.1.1.1.1.1.0.1,
      back32 e.mode h.1.1.1.1.1.1.0.1,
      back32 e.font h.1.1.1.1.1.1.1.0.1,
      back32 e.horizontal h.1.1.1.1.1.1.1.1.0.1,
      back32 e.vertical h.1.1.1.1.1.1.1.1.1.0.1,
      back32 e.wide h.1.1.1.1.1.1.1.1.1.1.0.1,
    )
