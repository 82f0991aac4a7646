-- `file_listing::listing::measure` meets its contract.
-- Assumes nothing.
use Rattle.std.proofs.Common.{◌≡◌, sym, ap, ◌∙◌, List, ℕ, ◌+◌, ◌*◌, ◌≤◌, length, arith}
use Rattle.elements.specs.Given.{bytes}
use Rattle.elements.specs.declared.walk_state.WalkState.{WalkState}
use Rattle.walk_theory.specs.Step.{step}
use Rattle.grammar.specs.Epl.{epl}
use Rattle.elements.specs.Walk.{fresh}
use Rattle.walk.specs.Steps.{state_of, answer_of, trace_of}
use Rattle.walk.specs.declared.answer.Answer.{Answer}
use Rattle.walk.specs.declared.answer.Answer.TheVariants.{Element, Clear, Print, End, Refused}
use Rattle.walk.proofs.WalkLaws.{on_step, begins, moved_by}
use Rattle.file_listing.proofs.ListingLaws.{length_pending_le, frame_len_le, frame_len_is}
use Rattle.file_listing.proofs.ListingSizeLaws.{size_from, size_is}
use Rattle.file_listing.proofs.listing.measure.Goals as goal

-- what is counted so far and the rest of the walk, by the answer q that the loop matched
counted : (s : List ℕ) (w : WalkState) (r q : Answer) → answer_of r ≡ step epl s (state_of w) → r ≡ q → (total pend : ℕ)
    → size_from s 0 0 (trace_of s fresh) ≡ size_from s total pend (trace_of s w)
    → size_from s 0 0 (trace_of s fresh) ≡ size_from s total pend (on_step s q)
counted s w r q e k total pend h = h ∙ ap (size_from s total pend) (begins s w r q e k)

-- at an element, with the length n of its frame
record Told (s : List ℕ) (w next : WalkState) (n : ℕ) : Type 0 where
  short : length s ≤ 16777216
  further : w.place + 1 ≤ next.place
  inside : next.place ≤ length s
  one : next.pending ≡ w.pending + 1
  small : n ≤ 4294967295

told : (c : goal.After-frame_len-n) → Told c.args.input.now c.loop-next.here c.in-Element.next c.frame_len-n.result
told c =
    let m = moved_by c.args.input.now c.loop-next.here c.step.result (Element c.in-Element.next c.in-Element.e) c.step.ensures c.in-Element.is in
    record {
      short = m.0.short;
      further = omega (arith, m.1);
      inside = m.2;
      one = omega (arith, m.3);
      small = frame_len_le c.args.input.now c.in-Element.e c.frame_len-n.result c.frame_len-n.ensures;
    }

pub loop-next-init : goal.loop-next-init
loop-next-init c =
    let s = c.args.input.now in
    record {
      counted = ap (λ (w : WalkState). size_from s 0 0 (trace_of s w)) (sym c.start-here.ensures);
      small = omega (arith, ap (λ (w : WalkState). w.pending) c.start-here.ensures);
    }

pub overflow_add-pend-in-Element : goal.overflow_add-pend-in-Element
overflow_add-pend-in-Element c = let t = told c in let h = c.loop-next.invariant.small in omega arith

pub loop-next-smaller-in-Element : goal.loop-next-smaller-in-Element
loop-next-smaller-in-Element c = let t = told c in omega arith

pub loop-next-preserved-in-Element : goal.loop-next-preserved-in-Element
loop-next-preserved-in-Element c =
    let s = c.args.input.now in
    let l = c.loop-next in
    let n = c.in-Element.next in
    let e = c.in-Element.e in
    let t = told c in
    record {
      counted =
          counted s l.here c.step.result (Element n e) c.step.ensures c.in-Element.is l.total l.pend l.invariant.counted
          ∙ ap (λ (m : ℕ). size_from s l.total (l.pend + (2 * m + 1)) (trace_of s n)) (sym (c.frame_len-n.ensures ∙ frame_len_is s e t.short));
      small = omega arith;
    }

pub loop-next-smaller-in-Clear : goal.loop-next-smaller-in-Clear
loop-next-smaller-in-Clear c =
    let m = moved_by c.args.input.now c.loop-next.here c.step.result (Clear c.in-Clear.next) c.step.ensures c.in-Clear.is in
    omega (arith, m.1, m.2, m.3)

pub loop-next-preserved-in-Clear : goal.loop-next-preserved-in-Clear
loop-next-preserved-in-Clear c =
    let s = c.args.input.now in
    let l = c.loop-next in
    let q = Clear c.in-Clear.next in
    let m = moved_by s l.here c.step.result q c.step.ensures c.in-Clear.is in
    record {
      counted = counted s l.here c.step.result q c.step.ensures c.in-Clear.is l.total l.pend l.invariant.counted;
      small = omega (arith, m.1, m.3);
    }

pub overflow_add-total : goal.overflow_add-total
overflow_add-total c =
    let m = moved_by c.args.input.now c.loop-next.here c.step.result (Print c.in-Print.next c.in-Print.p) c.step.ensures c.in-Print.is in
    omega (arith, m.0.short, m.1, m.2, m.4, m.5)

pub overflow_add-total-in-Print : goal.overflow_add-total-in-Print
overflow_add-total-in-Print c =
    let m = moved_by c.args.input.now c.loop-next.here c.step.result (Print c.in-Print.next c.in-Print.p) c.step.ensures c.in-Print.is in
    omega (arith, m.0.short, m.1, m.2, m.4, m.5)

pub loop-next-smaller : goal.loop-next-smaller
loop-next-smaller c =
    let m = moved_by c.args.input.now c.loop-next.here c.step.result (Print c.in-Print.next c.in-Print.p) c.step.ensures c.in-Print.is in
    omega (arith, m.1, m.2, m.3, m.4, m.5)

pub loop-next-preserved : goal.loop-next-preserved
loop-next-preserved c =
    let s = c.args.input.now in
    let l = c.loop-next in
    let q = Print c.in-Print.next c.in-Print.p in
    let m = moved_by s l.here c.step.result q c.step.ensures c.in-Print.is in
    record {
      counted = counted s l.here c.step.result q c.step.ensures c.in-Print.is l.total l.pend l.invariant.counted;
      small = omega (arith, m.1, m.3, m.4, m.5);
    }

pub overflow_add-total-in-End : goal.overflow_add-total-in-End
overflow_add-total-in-End c =
    let m = moved_by c.args.input.now c.loop-next.here c.step.result (End c.in-End.next) c.step.ensures c.in-End.is in
    omega (arith, m.0.short, m.0.inside, m.2, c.end_len-total.ensures, length_pending_le c.in-End.next.pending)

pub returns-in-End : goal.returns-in-End
returns-in-End c =
    let s = c.args.input.now in
    let l = c.loop-next in
    ap (λ (m : ℕ). bytes (l.total + m)) c.end_len-total.ensures
    ∙ sym (size_is s ∙ counted s l.here c.step.result (End c.in-End.next) c.step.ensures c.in-End.is l.total l.pend l.invariant.counted)

pub returns-in-Refused : goal.returns-in-Refused
returns-in-Refused c =
    let s = c.args.input.now in
    let l = c.loop-next in
    sym (
    size_is s
    ∙ counted s l.here c.step.result (Refused c.in-Refused.next c.in-Refused.k c.in-Refused.p) c.step.ensures c.in-Refused.is l.total l.pend l.invariant.counted
    )
