-- `where_label::find::put_found`: what is left to write, by the answer that the loop matched.
use Rattle.std.proofs.Common.{◌≡◌, refl, sym, ap, ◌∙◌, subst, Bool, ℕ, suc, List, ◌++◌, arith}
use Rattle.elements.specs.declared.LabelElement.{LabelElement}
use Rattle.elements.specs.declared.walk_state.WalkState.{WalkState}
use Rattle.text.proofs.WroteTowardLaws.{Toward, begin, room, put, finish}
use Rattle.walk_theory.specs.Step.{step}
use Rattle.grammar.specs.Epl.{epl}
use Rattle.walk.specs.Steps.{state_of, answer_of}
use Rattle.walk.specs.declared.answer.Answer.TheVariants.{Element}
use Rattle.walk.proofs.WalkLaws.{Moved, moved_by}
use Rattle.where_element.specs.Element.{numbers_from}
use Rattle.where_label.specs.Find.{elements_from, is_found, found_of, one_if}
use Rattle.where_label.specs.declared.find.Look.{Look}
use Rattle.where_label.proofs.FindLaws.{elements_by, leading_none, numbers_cons}
use Rattle.where_label.proofs.find.put_found.Goals as goal

-- a step from here answered the element e, of which it is known whether it is found
module _ (s : List ℕ) (l : Look) (here next : WalkState) (e : LabelElement) (found : Bool) (stepped : answer_of (Element next e) ≡ step epl s (state_of here)) (known : found ≡ is_found l e) where
  moved : Moved s here (Element next e)
  moved = moved_by s here (Element next e) (Element next e) stepped refl

  -- what is left to write behind the element
  abbrev more : List ℕ
  more = numbers_from (is_found l) next.pending (elements_from s next)

  -- what is left to write: the element's number where it is found, and the rest
  left : numbers_from (is_found l) here.pending (elements_from s here) ≡ one_if found here.pending ++ more
  left =
      let t = is_found l in
      let n = here.pending in
      let es = elements_from s next in
      ap (numbers_from t n) (elements_by s here (Element next e) (Element next e) stepped refl)
      ∙ numbers_cons t n e es
      ∙ ap (λ (b : Bool). one_if b n ++ numbers_from t (suc n) es) (sym known)
      ∙ ap (λ (k : ℕ). one_if found n ++ numbers_from t k es) (sym moved.3)

pub loop-next-init : goal.loop-next-init
loop-next-init c =
    let a = c.args in
    subst (λ (n : ℕ). Toward a.list.now 0 (numbers_from (is_found a.l) n (elements_from a.input.now a.st)) a.list.now 0 (found_of a.l (elements_from a.input.now a.st))) (sym c.requires.0) (begin _ _ _)

pub returns-in_default : goal.returns-in_default
returns-in_default c =
    let a = c.args in
    let here = c.loop-next.here in
    finish c.loop-next.invariant
    (ap (numbers_from (is_found a.l) here.pending) (elements_by a.input.now here c.step.result c.step.result c.step.ensures refl ∙ leading_none a.input.now c.step.result c.in_default.not-Element))

pub put_if-to-requires : goal.put_if-to-requires
put_if-to-requires c =
    let a = c.args in
    let here = c.loop-next.here in
    let i = c.in-Element in
    room c.loop-next.invariant (one_if c.is_found.result here.pending) (more a.input.now a.l here i.next i.e c.is_found.result i.ensures c.is_found.ensures) (omega (arith, c.requires.1))
    (left a.input.now a.l here i.next i.e c.is_found.result i.ensures c.is_found.ensures)

pub loop-next-smaller : goal.loop-next-smaller
loop-next-smaller c =
    let a = c.args in
    let i = c.in-Element in
    let m = moved a.input.now a.l c.loop-next.here i.next i.e c.is_found.result i.ensures c.is_found.ensures in
    omega (arith, m.1, m.2)

pub loop-next-preserved : goal.loop-next-preserved
loop-next-preserved c =
    let a = c.args in
    let here = c.loop-next.here in
    let i = c.in-Element in
    put c.loop-next.invariant (more a.input.now a.l here i.next i.e c.is_found.result i.ensures c.is_found.ensures)
    (left a.input.now a.l here i.next i.e c.is_found.result i.ensures c.is_found.ensures) c.put_if-to.ensures
