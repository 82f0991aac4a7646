-- `format::normalise::normalise`: where the text is written, `length_normalised_le` or the measure says that it has
-- room.
use Rattle.std.proofs.Common.{arith}
use Rattle.elements.specs.Given.{text, longest}
use Rattle.elements.proofs.GivenLaws.{within_short, fills_written}
use Rattle.grammar.specs.Normal.{normalised}
use Rattle.grammar.proofs.NormalLaws.{length_normalised_le}
use Rattle.format.proofs.normalise.normalise.Goals as goal
use Rattle.format.proofs.normalise.normalise.Goals.{then-out-room_for+else-out-n, else-out-room_for}

pub put_chunks-requires : goal.put_chunks-requires
put_chunks-requires c =
    elim c.if-out-room_for.branch [
      | then-out-room_for+else-out-n w ↦ omega (arith, w.measure-n.ensures, w.if-out-n.false)
      | else-out-room_for w ↦ omega (arith, w.if-out-room_for.false, c.room_for.ensures, length_normalised_le c.args.input.now)
    ]

pub returns : goal.returns
returns c =
    let a = c.args in
    let w = c.put_chunks.ensures in
    fills_written a.out.now (within_short longest a.input.now (text (normalised a.input.now)) c.if-input-gt-LONGEST.false) (omega (arith, w.next))
    (elim c.if-out-room_for.branch [
      | then-out-room_for+else-out-n b ↦ omega (arith, w.next, b.measure-n.ensures, b.if-out-n.false)
      | else-out-room_for b ↦ omega (arith, w.next, b.if-out-room_for.false, c.room_for.ensures, length_normalised_le a.input.now)
    ])
    w.wrote.is
