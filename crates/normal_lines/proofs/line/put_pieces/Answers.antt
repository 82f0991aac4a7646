-- `normal_lines::line::put_pieces`: a piece is put up to the last byte that is kept of it, and one that is not full ends
-- the line.
use Rattle.std.proofs.Common.{◌-◌, take, drop, arith}
use mathlib.Core.Logic.{inl, inr}
use Rattle.text.specs.Blank.{front, drop_end, is_ascii_blank}
use Rattle.text.proofs.WroteTowardLaws.{room}
use Rattle.grammar.specs.Units.{not_lf}
use Rattle.normal_lines.proofs.LinesPieceLaws.{front_le}
use Rattle.normal_lines.proofs.PiecesLaws.{ended_here, seen_le, upto_le, splits, along_next, along_end}
use Rattle.normal_lines.proofs.line.put_pieces.Goals as goal
use Rattle.normal_lines.proofs.line.put_pieces.Goals.{then-seen-end, else-seen-end}

pub slice_bounds-piece-count : goal.slice_bounds-piece-count
slice_bounds-piece-count c = omega (arith, c.loop-seen.invariant.inside, front_le not_lf c.args.t.now)

pub slice_bounds-piece-start : goal.slice_bounds-piece-start
slice_bounds-piece-start c = omega (arith, c.loop-seen.invariant.inside, front_le not_lf c.args.t.now)

pub slice_bounds-put_bytes-end : goal.slice_bounds-put_bytes-end
slice_bounds-put_bytes-end c =
    let i = c.loop-seen.invariant in
    let p = c.piece-p.ensures in
    let t = c.trim_ascii_end.ensures in
    omega (
      arith,
      upto_le i p t {upto = c.if-seen-end.upto} (elim c.if-seen-end.branch [ then-seen-end w ↦ inl (w.if-seen-end.true, w.upto-is) | else-seen-end w ↦ inr (w.if-seen-end.false, w.upto-is) ]),
      seen_le i p t,
      front_le not_lf c.args.t.now,
    )

pub put_bytes-requires : goal.put_bytes-requires
put_bytes-requires c =
    let i = c.loop-seen.invariant in
    let upto = c.if-seen-end.upto in
    let done = c.loop-seen.done in
    let t = c.args.t.now in
    room i.toward (take (upto - done) (drop done t)) (drop_end is_ascii_blank (drop upto (front not_lf t))) c.requires
    (splits i c.piece-p.ensures c.trim_ascii_end.ensures (elim c.if-seen-end.branch [ then-seen-end w ↦ inl (w.if-seen-end.true, w.upto-is) | else-seen-end w ↦ inr (w.if-seen-end.false, w.upto-is) ]))

pub returns-then-n-lt-PIECE : goal.returns-then-n-lt-PIECE
returns-then-n-lt-PIECE c =
    let i = c.loop-seen.invariant in
    let e = ended_here i c.piece-p.ensures c.if-n-lt-PIECE.true in
    record {
      put = along_end
          (along_next i c.piece-p.ensures c.trim_ascii_end.ensures {upto = c.if-seen-end.upto}
          (elim c.if-seen-end.branch [ then-seen-end w ↦ inl (w.if-seen-end.true, w.upto-is) | else-seen-end w ↦ inr (w.if-seen-end.false, w.upto-is) ])
          c.put_bytes.ensures)
          (omega (arith, e));
      size = e;
    }

pub loop-seen-preserved : goal.loop-seen-preserved
loop-seen-preserved c =
    along_next c.loop-seen.invariant c.piece-p.ensures c.trim_ascii_end.ensures
    (elim c.if-seen-end.branch [ then-seen-end w ↦ inl (w.if-seen-end.true, w.upto-is) | else-seen-end w ↦ inr (w.if-seen-end.false, w.upto-is) ])
    c.put_bytes.ensures
