-- `where_label::find::count_first`: what follows the elements so far, and how many are still to be found, by the answer
-- that the loop matched.
use Rattle.std.proofs.Common.{◌≡◌, refl, ap, ◌∙◌, Bool, ℕ, List, ◌+◌, length, arith}
use Rattle.elements.specs.Refusals.{number_of}
use Rattle.elements.specs.declared.LabelElement.{LabelElement}
use Rattle.elements.specs.declared.walk_state.WalkState.{WalkState}
use Rattle.walk_theory.specs.Step.{step}
use Rattle.walk_theory.specs.Trace.{stops, refuses, clears, prints, after, trace}
use Rattle.walk_theory.specs.Index.{first_in}
use Rattle.grammar.specs.Epl.{epl}
use Rattle.walk.specs.Steps.{EplTrace, state_of, trace_of, answer_of}
use Rattle.walk.specs.declared.answer.Answer.{Answer}
use Rattle.walk.specs.declared.answer.Answer.TheVariants.{Element, Clear, Print, End, Refused}
use Rattle.walk.proofs.WalkLaws.{on_step, begins, Moved, moved_by}
use Rattle.label_opening.proofs.FirstLaws.{first_by}
use Rattle.where_label.specs.Found.{itself, found_in}
use Rattle.where_label.specs.Find.{leading, elements_from, is_found, found_of, count_if, first_due}
use Rattle.where_label.specs.declared.find.Look.{Look}
use Rattle.where_label.proofs.FindLaws.{elements_by, count_cons, count_le}
use Rattle.where_label.proofs.find.count_first.Goals as goal

-- a step from here answered q, and only elements stand between `first` and here
module _ (s : List ℕ) (l : Look) (first here : WalkState) (q : Answer) (e : answer_of q ≡ step epl s (state_of here)) where
  follows : after (trace_of s first) ≡ after (trace_of s here) → after (trace_of s first) ≡ after (on_step s q)
  follows k = k ∙ ap after (begins s here q q e refl)

  coming : length (found_of l (elements_from s here)) ≡ length (found_of l (leading s (on_step s q)))
  coming = ap (λ (es : List LabelElement). length (found_of l es)) (elements_by s here q q e refl)

  moved : Moved s here q
  moved = moved_by s here q q e refl

due_by_lem : (s : List ℕ) (l : Look) (first : WalkState) (i : ℕ) (t : EplTrace) → after (trace_of s first) ≡ t
    → first_due l s first i ≡ found_in (found_of l) (first_in epl LabelElement itself i s (elements_from s first) t)
due_by_lem s l first i t e = ap (found_in (found_of l)) (first_by LabelElement itself s i first t e)

pub count_if-found-requires : goal.count_if-found-requires
count_if-found-requires c =
    let l = c.loop-next in
    let m = moved c.args.input.now c.args.l l.first l.here (Element c.in-Element.next c.in-Element.e) c.in-Element.ensures in
    omega (arith, m.0.short, m.1, m.2, l.invariant.few)

pub loop-next-smaller-in-Element : goal.loop-next-smaller-in-Element
loop-next-smaller-in-Element c =
    let m = moved c.args.input.now c.args.l c.loop-next.first c.loop-next.here (Element c.in-Element.next c.in-Element.e) c.in-Element.ensures in
    omega (arith, m.1, m.2)

pub loop-next-preserved-in-Element : goal.loop-next-preserved-in-Element
loop-next-preserved-in-Element c =
    let l = c.loop-next in
    let s = c.args.input.now in
    let a = c.args in
    let e = c.in-Element.e in
    let q = Element c.in-Element.next e in
    let m = moved s a.l l.first l.here q c.in-Element.ensures in
    let f : c.count_if-found.result ≡ l.found + count_if (is_found a.l e) = c.count_if-found.ensures ∙ ap (λ (b : Bool). l.found + count_if b) c.is_found.ensures in
    record {
      same = l.invariant.same;
      elements = follows s a.l l.first l.here q c.in-Element.ensures l.invariant.elements;
      counted = omega (arith, f, l.invariant.counted, coming s a.l l.first l.here q c.in-Element.ensures, count_cons (is_found a.l) 0 e (elements_from s c.in-Element.next));
      few = omega (arith, f, count_le (is_found a.l e), l.invariant.few, m.1);
      none = l.invariant.none;
    }

pub loop-next-smaller : goal.loop-next-smaller
loop-next-smaller c =
    let m = moved c.args.input.now c.args.l c.loop-next.first c.loop-next.here (Clear c.in-Clear.next) c.in-Clear.ensures in
    omega (arith, m.1, m.2)

pub loop-next-preserved : goal.loop-next-preserved
loop-next-preserved c =
    let l = c.loop-next in
    let s = c.args.input.now in
    let a = c.args in
    let q = Clear c.in-Clear.next in
    let m = moved s a.l l.first l.here q c.in-Clear.ensures in
    record {
      same = l.invariant.same ∙ due_by_lem s a.l l.first a.i (clears (trace epl s (state_of c.in-Clear.next))) (follows s a.l l.first l.here q c.in-Clear.ensures l.invariant.elements);
      elements = refl;
      counted = omega arith;
      few = omega arith;
      none = m.3;
    }

pub returns-in-Print : goal.returns-in-Print
returns-in-Print c =
    let l = c.loop-next in
    let s = c.args.input.now in
    let a = c.args in
    let p = c.in-Print.field-1 in
    let q = Print c.in-Print.field-0 p in (
      l.invariant.same ∙ due_by_lem s a.l l.first a.i (prints p.count p.counts (trace epl s (state_of c.in-Print.field-0))) (follows s a.l l.first l.here q c.in-Print.ensures l.invariant.elements),
      omega (arith, l.invariant.counted, coming s a.l l.first l.here q c.in-Print.ensures),
      l.invariant.none,
    )

pub returns-in-End : goal.returns-in-End
returns-in-End c =
    let l = c.loop-next in
    let s = c.args.input.now in
    let a = c.args in
    l.invariant.same ∙ due_by_lem s a.l l.first a.i (stops c.in-End.field-0.pending) (follows s a.l l.first l.here (End c.in-End.field-0) c.in-End.ensures l.invariant.elements)

pub returns-in-Refused : goal.returns-in-Refused
returns-in-Refused c =
    let l = c.loop-next in
    let s = c.args.input.now in
    let a = c.args in
    let r = c.in-Refused in
    l.invariant.same ∙ due_by_lem s a.l l.first a.i (refuses (number_of r.k) r.p) (follows s a.l l.first l.here (Refused r.field-0 r.k r.p) r.ensures l.invariant.elements)
