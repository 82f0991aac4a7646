-- `strict::check::objected` meets its contract. Assumes nothing.
use Rattle.std.proofs.Common.{◌≡◌, sym, ap, subst, ◌∙◌, List, ℕ, suc, ◌+◌, ◌-◌, ◌<◌, ◌≤◌, length, take, drop, length-drop, arith}
use Rattle.text.proofs.DropSteps.{rest}
use Rattle.grammar.specs.Size.{unit_size}
use Rattle.profile.specs.declared.rule.Objection.TheVariants.{Fine}
use Rattle.profile.specs.declared.unit.Looked.{Looked}
use Rattle.profile.specs.Profile.{objection, looked_as}
use Rattle.strict.specs.Look.{looked_by}
use Rattle.strict.proofs.LookLaws.{Left, begin, fits, further, stopped, at_end, look_passed, look_objected}
use Rattle.strict.proofs.check.objected.Goals as goal

-- what the look r told of the unit at the place
told : (s : List ℕ) (at : ℕ) (r o : Looked) → let u = take (length s - at) (drop at s) in r ≡ looked_as (objection u) (unit_size u) → r ≡ o
    → looked_as (objection (drop at s)) (unit_size (drop at s)) ≡ o
told s at r o h e = sym (h ∙ ap (λ (t : List ℕ). looked_as (objection t) (unit_size t)) (rest s at)) ∙ e

-- at a unit of so many bytes that the profile has nothing against
record Past (s : List ℕ) (at size : ℕ) : Type 0 where
  fine : objection (drop at s) ≡ Fine
  is : unit_size (drop at s) ≡ size
  some : 0 < size
  inside : at + size ≤ length s

past : (c : goal.In-Passed) → Past c.args.input.now c.loop-at.at c.in-Passed.size
past c =
    let s = c.args.input.now in
    let at = c.loop-at.at in
    let u = drop at s in
    let p = look_passed (objection u) (unit_size u) c.in-Passed.size (told s at c.look.result _ c.look.ensures c.in-Passed.is) in
    let f = fits s c.args.end c.args.otherwise _ at c.loop-at.invariant (omega arith) in
    record {
      fine = p.0;
      is = p.1;
      some = omega (arith, p.1, f.some);
      inside = omega (arith, p.1, f.inside, length-drop at s);
    }

pub loop-at-init : goal.loop-at-init
loop-at-init c = begin c.args.input.now c.args.end c.args.otherwise

pub overflow_add-at : goal.overflow_add-at
overflow_add-at c = let p = past c in omega arith

pub loop-at-smaller : goal.loop-at-smaller
loop-at-smaller c = let p = past c in omega arith

pub loop-at-preserved : goal.loop-at-preserved
loop-at-preserved c =
    let s = c.args.input.now in
    let at = c.loop-at.at in
    let a = c.args in
    let p = past c in
    subst (λ (n : ℕ). Left s a.end a.otherwise (looked_by (suc (length s)) s 0 a.end a.otherwise) (at + n)) p.is
    (further s a.end a.otherwise _ at c.loop-at.invariant (omega arith) c.loop-at-test.true p.fine)

pub returns-in-Objected : goal.returns-in-Objected
returns-in-Objected c =
    let s = c.args.input.now in
    let at = c.loop-at.at in
    let u = drop at s in
    let k = c.in-Objected.k in
    let h = c.in-Objected.h in
    c.told.ensures
    ∙ sym (stopped s c.args.end c.args.otherwise _ at c.loop-at.invariant k h (omega arith) c.loop-at-test.true (look_objected (objection u) (unit_size u) k h (told s at c.look.result _ c.look.ensures c.in-Objected.is)))

pub returns : goal.returns
returns c =
    sym (at_end c.args.input.now c.args.end c.args.otherwise _ c.loop-at.at c.loop-at.invariant c.loop-at-test.false)
