-- `where_nearest::nearest::nearest_first`: the label, by the answer that the loop matched.
use Rattle.std.proofs.Common.{◌≡◌, refl, sym, ap, ◌∙◌, ℕ, suc, List, [], ◌∷◌, ◌++◌, append_assoc, append-nil, arith}
use Rattle.elements.specs.declared.LabelElement.{LabelElement}
use Rattle.elements.specs.declared.LabelPosition.{LabelPosition}
use Rattle.elements.specs.declared.walk_state.WalkState.{WalkState}
use Rattle.walk_theory.specs.Index.{first_in}
use Rattle.walk_theory.specs.Step.{step}
use Rattle.grammar.specs.Epl.{epl}
use Rattle.walk.specs.Steps.{state_of, answer_of}
use Rattle.walk.specs.declared.answer.Answer.{Answer}
use Rattle.walk.specs.declared.answer.Answer.TheVariants.{Element, Clear, Print, End, Refused}
use Rattle.walk.proofs.WalkLaws.{on_step, begins, Moved, moved_by}
use Rattle.label_opening.specs.Opened.{first_from}
use Rattle.where_element.specs.Element.{nearest_of, position_of}
use Rattle.where_element.specs.Place.{distance}
use Rattle.where_element.specs.Found.{element}
use Rattle.where_label.specs.Found.{itself, nearest_in}
use Rattle.where_nearest.specs.Nearest.{better}
use Rattle.where_nearest.specs.declared.nearest.Best.{Best}
use Rattle.where_nearest.proofs.NearestLaws.{Pending, fresh, going, going_cons, going_none}
use Rattle.where_nearest.proofs.nearest.nearest_first.Goals as goal

-- a step from here answered a, some elements being pending
module _ (s : List ℕ) (i : ℕ) (q : LabelPosition) (w here : WalkState) (b : Best) (p : Pending s i q w here b) (a : Answer) (e : answer_of a ≡ step epl s (state_of here)) where
  label_by : first_from LabelElement itself s w i ≡ first_in epl LabelElement itself i s p.p (on_step s a)
  label_by = p.label ∙ ap (first_in epl LabelElement itself i s p.p) (begins s here a a e refl)

  moved : Moved s here a
  moved = moved_by s here a a e refl

pub loop-next-init : goal.loop-next-init
loop-next-init c = fresh c.args.input.now c.args.i c.args.q c.args.st c.args.st (record { number = 0; distance = 0 }) refl c.requires

pub loop-next-smaller-in-Element : goal.loop-next-smaller-in-Element
loop-next-smaller-in-Element c =
    let a = c.args in
    let l = c.loop-next in
    let m = moved a.input.now a.i a.q a.st l.here l.best l.invariant (Element c.in-Element.next c.in-Element.e) c.in-Element.ensures in
    omega (arith, m.1, m.2)

pub loop-next-preserved-in-Element : goal.loop-next-preserved-in-Element
loop-next-preserved-in-Element c =
    let a = c.args in
    let l = c.loop-next in
    let p = l.invariant in
    let q = a.q in
    let e = c.in-Element.e in
    let n = l.here.pending in
    let m = moved a.input.now a.i q a.st l.here l.best p (Element c.in-Element.next e) c.in-Element.ensures in
    let b : c.better-best.result ≡ better l.best n (distance (position_of e) q) = c.better-best.ensures ∙ ap (better l.best n) c.distance_of.ensures in
    record {
      p = p.p ++ e ∷ [];
      label = label_by a.input.now a.i q a.st l.here l.best p (Element c.in-Element.next e) c.in-Element.ensures;
      best = λ es.
          ap (nearest_of q) (append_assoc p.p (e ∷ []) es)
          ∙ p.best (e ∷ es)
          ∙ going_cons q n l.best e es
          ∙ ap (λ (x : Best). going q (suc n) x es) (sym b)
          ∙ ap (λ (k : ℕ). going q k c.better-best.result es) (sym m.3);
    }

pub loop-next-smaller : goal.loop-next-smaller
loop-next-smaller c =
    let a = c.args in
    let l = c.loop-next in
    let m = moved a.input.now a.i a.q a.st l.here l.best l.invariant (Clear c.in-Clear.next) c.in-Clear.ensures in
    omega (arith, m.1, m.2)

pub loop-next-preserved : goal.loop-next-preserved
loop-next-preserved c =
    let a = c.args in
    let l = c.loop-next in
    let r = Clear c.in-Clear.next in
    let m = moved a.input.now a.i a.q a.st l.here l.best l.invariant r c.in-Clear.ensures in
    fresh a.input.now a.i a.q a.st c.in-Clear.next l.best (label_by a.input.now a.i a.q a.st l.here l.best l.invariant r c.in-Clear.ensures) m.3

pub returns-in-Print : goal.returns-in-Print
returns-in-Print c =
    let a = c.args in
    let l = c.loop-next in
    let p = l.invariant in
    let q = a.q in
    let r = Print c.in-Print.field-0 c.in-Print.field-1 in
    let m = moved a.input.now a.i q a.st l.here l.best p r c.in-Print.ensures in
    let near : nearest_of q p.p ≡ l.best.number = ap (nearest_of q) (sym (append-nil p.p)) ∙ p.best [] ∙ going_none q l.here.pending l.best (omega (arith, m.4, m.5)) in
    sym (ap (nearest_in q) (label_by a.input.now a.i q a.st l.here l.best p r c.in-Print.ensures) ∙ ap element near)

pub returns-in-End : goal.returns-in-End
returns-in-End c =
    let a = c.args in
    let l = c.loop-next in
    sym (ap (nearest_in a.q) (label_by a.input.now a.i a.q a.st l.here l.best l.invariant (End c.in-End.field-0) c.in-End.ensures))

pub returns-in-Refused : goal.returns-in-Refused
returns-in-Refused c =
    let a = c.args in
    let l = c.loop-next in
    let r = c.in-Refused in
    sym (ap (nearest_in a.q) (label_by a.input.now a.i a.q a.st l.here l.best l.invariant (Refused r.field-0 r.k r.p) r.ensures))
