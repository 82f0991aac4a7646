-- `file_listing::listing::put_elements` meets its contract.
-- Assumes nothing.
use Rattle.std.proofs.Common.{refl, ◌∙◌, arith}
use Rattle.text.proofs.WroteTowardLaws.{begin, room, put, finish}
use Rattle.frame_bytes.specs.Frame.{frame_of}
use Rattle.frame_bytes.specs.Hex.{line_of}
use Rattle.walk.specs.declared.answer.Answer.TheVariants.{Element}
use Rattle.file_listing.specs.Listing.{lines_of, front_frames}
use Rattle.walk.proofs.WalkLaws.{moved_by}
use Rattle.file_listing.proofs.ListingLaws.{lead_none, lead_by}
use Rattle.file_listing.proofs.listing.put_elements.Goals as goal

pub loop-next-init : goal.loop-next-init
loop-next-init c = begin _ _ _

pub returns-in_default : goal.returns-in_default
returns-in_default c =
    let s = c.args.input.now in
    let r = c.step.result in
    finish c.loop-next.invariant (lead_by s c.loop-next.here r r c.step.ensures refl ∙ lead_none s r c.in_default.not-Element)

pub put_frame-to-requires : goal.put_frame-to-requires
put_frame-to-requires c =
    let s = c.args.input.now in
    let n = c.in-Element.next in
    let e = c.in-Element.e in
    room c.loop-next.invariant (line_of (frame_of s e)) (lines_of (front_frames s n)) c.requires
    (lead_by s c.loop-next.here c.step.result (Element n e) c.step.ensures c.in-Element.is)

pub loop-next-smaller : goal.loop-next-smaller
loop-next-smaller c =
    omega (arith, moved_by c.args.input.now c.loop-next.here c.step.result (Element c.in-Element.next c.in-Element.e) c.step.ensures c.in-Element.is)

pub loop-next-preserved : goal.loop-next-preserved
loop-next-preserved c =
    let s = c.args.input.now in
    let n = c.in-Element.next in
    put c.loop-next.invariant (lines_of (front_frames s n))
    (lead_by s c.loop-next.here c.step.result (Element n c.in-Element.e) c.step.ensures c.in-Element.is) c.put_frame-to.ensures
