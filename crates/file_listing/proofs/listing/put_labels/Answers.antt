-- `file_listing::listing::put_labels` meets its contract.
-- Assumes nothing.
use Rattle.std.proofs.Common.{refl, sym, ap, ◌∙◌, [], append-nil, arith}
use Rattle.text.proofs.WroteTowardLaws.{begin, retold, room, put, finish}
use Rattle.walk_theory.specs.Trace.{after}
use Rattle.elements.specs.declared.walk_state.WalkState.{WalkState}
use Rattle.walk.specs.Steps.{trace_of}
use Rattle.walk.specs.declared.answer.Answer.TheVariants.{Element, Clear, Print, End, Refused}
use Rattle.file_listing.specs.Listing.{label_text, pending_line, text_from, all_text}
use Rattle.walk.proofs.WalkLaws.{moved_by}
use Rattle.file_listing.proofs.ListingLaws.{text_by, after_by}
use Rattle.file_listing.proofs.listing.put_labels.Goals as goal

pub loop-next-init : goal.loop-next-init
loop-next-init c =
    let s = c.args.input.now in
    record {
      put = retold (begin c.args.out.now 0 (all_text s)) (ap (text_from s) (sym c.start-first.ensures));
      same = ap (λ (w : WalkState). after (trace_of s w)) (c.start-first.ensures ∙ sym c.start-here.ensures);
    }

pub loop-next-smaller-in-Element : goal.loop-next-smaller-in-Element
loop-next-smaller-in-Element c =
    omega (arith, moved_by c.args.input.now c.loop-next.here c.step.result (Element c.in-Element.next c.in-Element.field-1) c.step.ensures c.in-Element.is)

pub loop-next-preserved-in-Element : goal.loop-next-preserved-in-Element
loop-next-preserved-in-Element c =
    let l = c.loop-next in
    record {
      put = l.invariant.put;
      same = after_by c.args.input.now l.here c.step.result (Element c.in-Element.next c.in-Element.field-1) c.step.ensures c.in-Element.is l.first l.invariant.same;
    }

pub loop-next-smaller-in-Clear : goal.loop-next-smaller-in-Clear
loop-next-smaller-in-Clear c =
    omega (arith, moved_by c.args.input.now c.loop-next.here c.step.result (Clear c.in-Clear.next) c.step.ensures c.in-Clear.is)

pub loop-next-preserved-in-Clear : goal.loop-next-preserved-in-Clear
loop-next-preserved-in-Clear c =
    let l = c.loop-next in
    record {
      put = retold l.invariant.put (text_by c.args.input.now l.here c.step.result (Clear c.in-Clear.next) c.step.ensures c.in-Clear.is l.first l.invariant.same);
      same = refl;
    }

pub put_label-at-requires : goal.put_label-at-requires
put_label-at-requires c =
    let l = c.loop-next in
    let s = c.args.input.now in
    let n = c.in-Print.next in
    let p = c.in-Print.p in
    room l.invariant.put (label_text s p l.first) (text_from s n) (omega arith)
    (text_by s l.here c.step.result (Print n p) c.step.ensures c.in-Print.is l.first l.invariant.same)

pub loop-next-smaller : goal.loop-next-smaller
loop-next-smaller c =
    omega (arith, moved_by c.args.input.now c.loop-next.here c.step.result (Print c.in-Print.next c.in-Print.p) c.step.ensures c.in-Print.is)

pub loop-next-preserved : goal.loop-next-preserved
loop-next-preserved c =
    let l = c.loop-next in
    let s = c.args.input.now in
    let n = c.in-Print.next in
    record {
      put = put l.invariant.put (text_from s n) (text_by s l.here c.step.result (Print n c.in-Print.p) c.step.ensures c.in-Print.is l.first l.invariant.same) c.put_label-at.ensures;
      same = refl;
    }

pub put_end-requires : goal.put_end-requires
put_end-requires c =
    let l = c.loop-next in
    let n = c.in-End.next in
    room l.invariant.put (pending_line n.pending) [] (omega arith)
    (text_by c.args.input.now l.here c.step.result (End n) c.step.ensures c.in-End.is l.first l.invariant.same ∙ sym (append-nil (pending_line n.pending)))

pub returns-in-End : goal.returns-in-End
returns-in-End c =
    let l = c.loop-next in
    let n = c.in-End.next in
    let left = text_by c.args.input.now l.here c.step.result (End n) c.step.ensures c.in-End.is l.first l.invariant.same in
    finish (put l.invariant.put [] (left ∙ sym (append-nil (pending_line n.pending))) c.put_end.ensures) refl

pub returns-in-Refused : goal.returns-in-Refused
returns-in-Refused c =
    let l = c.loop-next in
    finish l.invariant.put
    (text_by c.args.input.now l.here c.step.result (Refused c.in-Refused.next c.in-Refused.k c.in-Refused.p) c.step.ensures c.in-Refused.is l.first l.invariant.same)
