-- `label_opening::label::measure_first`: what follows the elements so far, and the lines that are still to come, by the
-- answer that the loop matched.
use Rattle.std.proofs.Common.{◌≡◌, refl, ap, ◌∙◌, ℕ, List, ◌+◌, ◌*◌, ◌≤◌, length, length-append, min, arith}
use Rattle.frame_bytes.specs.Frame.{frame_of}
use Rattle.frame_bytes.specs.Hex.{line_of}
use Rattle.frame_bytes.proofs.HexLaws.{length_line}
use Rattle.elements.specs.Refusals.{number_of}
use Rattle.elements.specs.declared.LabelElement.{LabelElement}
use Rattle.elements.specs.declared.walk_state.WalkState.{WalkState}
use Rattle.walk_theory.specs.Step.{step}
use Rattle.walk_theory.specs.Trace.{stops, refuses, clears, prints, after, lead, trace}
use Rattle.walk_theory.specs.Index.{first_in}
use Rattle.grammar.specs.Epl.{epl}
use Rattle.walk.specs.Steps.{EplTrace, state_of, trace_of, answer_of}
use Rattle.walk.specs.declared.answer.Answer.{Answer}
use Rattle.walk.specs.declared.answer.Answer.TheVariants.{Element, Clear, Print, End, Refused}
use Rattle.walk.proofs.WalkLaws.{on_step, Moved, moved_by}
use Rattle.file_listing.specs.Listing.{lines_of, front_frames}
use Rattle.file_listing.proofs.ListingLaws.{lead_by, after_by, length_label, frame_len_le, frame_len_is}
use Rattle.label_opening.specs.Opened.{opening_due, first_due}
use Rattle.label_opening.proofs.FirstLaws.{first_by}
use Rattle.label_opening.proofs.label.measure_first.Goals as goal

-- a step from here answered q, and only elements stand between `first` and here
module _ (s : List ℕ) (first here : WalkState) (q : Answer) (e : answer_of q ≡ step epl s (state_of here)) where
  follows : after (trace_of s first) ≡ after (trace_of s here) → after (trace_of s first) ≡ after (on_step s q)
  follows k = after_by s here q q e refl first k

  coming : length (lines_of (front_frames s here)) ≡ length (lines_of (lead epl (List ℕ) frame_of s (on_step s q)))
  coming = ap length (lead_by s here q q e refl)

  moved : Moved s here q
  moved = moved_by s here q q e refl

due_by_lem : (s : List ℕ) (first : WalkState) (i : ℕ) (t : EplTrace) → after (trace_of s first) ≡ t
    → first_due s first i ≡ opening_due (first_in epl (List ℕ) frame_of i s (front_frames s first) t)
due_by_lem s first i t e = ap opening_due (first_by (List ℕ) frame_of s i first t e)

-- at an element e, whose frame has n bytes
record Told (s : List ℕ) (here next : WalkState) (n : ℕ) : Type 0 where
  short : length s ≤ 16777216
  further : here.place + 1 ≤ next.place
  inside : next.place ≤ length s
  small : n ≤ 4294967295
  counted : length (lines_of (front_frames s here)) ≡ (2 * n + 1) + length (lines_of (front_frames s next))

told : (s : List ℕ) (first here next : WalkState) (e : LabelElement) (n : ℕ) → answer_of (Element next e) ≡ step epl s (state_of here) → n ≡ min 4294967295 (length (frame_of s e)) → Told s here next n
told s first here next e n stepped k =
    let m = moved s first here (Element next e) stepped in
    let l = k ∙ frame_len_is s e m.0.short in
    record {
      short = m.0.short;
      further = omega (arith, m.1);
      inside = m.2;
      small = frame_len_le s e n k;
      counted =
          coming s first here (Element next e) stepped ∙ length-append (line_of (frame_of s e)) (lines_of (front_frames s next))
          ∙ omega (arith, length_line (frame_of s e), l);
    }

pub overflow_add-pend-in-Element : goal.overflow_add-pend-in-Element
overflow_add-pend-in-Element c =
    let l = c.loop-next in
    let t = told c.args.input.now l.first l.here c.in-Element.next c.in-Element.e c.frame_len-n.result c.in-Element.ensures c.frame_len-n.ensures in
    omega (arith, t.small, t.further, t.inside, t.short, l.invariant.few)

pub loop-next-smaller-in-Element : goal.loop-next-smaller-in-Element
loop-next-smaller-in-Element c =
    let l = c.loop-next in
    let t = told c.args.input.now l.first l.here c.in-Element.next c.in-Element.e c.frame_len-n.result c.in-Element.ensures c.frame_len-n.ensures in
    omega (arith, t.further, t.inside)

pub loop-next-preserved-in-Element : goal.loop-next-preserved-in-Element
loop-next-preserved-in-Element c =
    let l = c.loop-next in
    let s = c.args.input.now in
    let t = told s l.first l.here c.in-Element.next c.in-Element.e c.frame_len-n.result c.in-Element.ensures c.frame_len-n.ensures in
    record {
      same = l.invariant.same;
      elements = follows s l.first l.here (Element c.in-Element.next c.in-Element.e) c.in-Element.ensures l.invariant.elements;
      counted = omega (arith, t.counted, l.invariant.counted);
      few = omega (arith, t.small, t.further, l.invariant.few);
    }

pub loop-next-smaller : goal.loop-next-smaller
loop-next-smaller c =
    let m = moved c.args.input.now c.loop-next.first c.loop-next.here (Clear c.in-Clear.next) c.in-Clear.ensures in
    omega (arith, m.1, m.2)

pub loop-next-preserved : goal.loop-next-preserved
loop-next-preserved c =
    let l = c.loop-next in
    let s = c.args.input.now in
    record {
      same = l.invariant.same
          ∙ due_by_lem s l.first c.args.i (clears (trace epl s (state_of c.in-Clear.next))) (follows s l.first l.here (Clear c.in-Clear.next) c.in-Clear.ensures l.invariant.elements);
      elements = refl;
      counted = omega arith;
      few = omega arith;
    }

pub overflow_add-result : goal.overflow_add-result
overflow_add-result c =
    let l = c.loop-next in
    let m = moved c.args.input.now l.first l.here (Print c.in-Print.field-0 c.in-Print.p) c.in-Print.ensures in
    omega (arith, m.0.short, m.0.inside, l.invariant.few)

pub returns-in-Print : goal.returns-in-Print
returns-in-Print c =
    let l = c.loop-next in
    let s = c.args.input.now in
    let p = c.in-Print.p in
    let q = Print c.in-Print.field-0 p in (
      l.invariant.same
          ∙ due_by_lem s l.first c.args.i (prints p.count p.counts (trace epl s (state_of c.in-Print.field-0))) (follows s l.first l.here q c.in-Print.ensures l.invariant.elements),
      omega (arith, length_label p.count p.counts (front_frames s l.first), l.invariant.counted, coming s l.first l.here q c.in-Print.ensures),
    )

pub returns-in-End : goal.returns-in-End
returns-in-End c =
    let l = c.loop-next in
    let s = c.args.input.now in
    l.invariant.same
    ∙ due_by_lem s l.first c.args.i (stops c.in-End.field-0.pending) (follows s l.first l.here (End c.in-End.field-0) c.in-End.ensures l.invariant.elements)

pub returns-in-Refused : goal.returns-in-Refused
returns-in-Refused c =
    let l = c.loop-next in
    let s = c.args.input.now in
    let a = c.in-Refused in
    l.invariant.same
    ∙ due_by_lem s l.first c.args.i (refuses (number_of a.k) a.p) (follows s l.first l.here (Refused a.field-0 a.k a.p) a.ensures l.invariant.elements)
