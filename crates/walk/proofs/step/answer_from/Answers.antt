-- `walk::step::answer_from`: each reading that the loop matches on is the whole answer, or what the loop goes on from.
use Rattle.std.proofs.Common.{◌≡◌, ◌∙◌, sym, ◌+◌, ◌-◌, ℕ, List, length, drop, take, add-one, arith}
use Rattle.elements.specs.declared.walk_state.WalkState.{WalkState}
use Rattle.elements.specs.declared.LabelPosition.{LabelPosition}
use Rattle.walk_theory.specs.Step.{answer, handing}
use Rattle.walk_theory.specs.Reading.{moved, reading_of}
use Rattle.walk_theory.proofs.TurnLaws.{Fits, on_reading, turn_at, fits_at, pass_on, print_none, print_some}
use Rattle.grammar.specs.Epl.{epl}
use Rattle.grammar.proofs.FoundLaws.{reads}
use Rattle.numbers.proofs.IntLaws.{back32}
use Rattle.walk_unit.specs.Unit.{unit_of}
use Rattle.walk_unit.specs.declared.unit.Reading.{Reading}
use Rattle.walk_unit.specs.declared.unit.Reading.TheVariants.{End, Fault, Passed, Cleared, Element, Print}
use Rattle.walk.specs.Steps.{EplAnswer, state_of}
use Rattle.walk.proofs.step.answer_from.Goals as goal

-- q is the reading of what stands from at
module _ (s : List ℕ) (at : ℕ) (r : LabelPosition) (q : Reading) (e : unit_of q ≡ moved epl at (reading_of epl (take (length s - at) (drop at s)) r)) where
  -- the whole answer t is what the loop makes of the reading
  taken : {t : EplAnswer} (w : WalkState) (n : ℕ) → t ≡ handing (state_of w) (answer epl (drop at s) at r n) → on_reading epl (state_of w) (drop at s) at r n (unit_of q) ≡ t
  taken w n h = sym (h ∙ turn_at epl reads s at r (unit_of q) e (state_of w) n)

  room : Fits epl (length s - at) (unit_of q)
  room = fits_at epl reads s at r (unit_of q) e

pub returns-in-End : goal.returns-in-End
returns-in-End c = let l = c.loop-end in taken c.args.input.now l.at l.reference End c.in-End.ensures c.args.st c.args.st.pending l.invariant.same

pub returns-in-Fault : goal.returns-in-Fault
returns-in-Fault c =
    let l = c.loop-end in
    taken c.args.input.now l.at l.reference (Fault c.in-Fault.k) c.in-Fault.ensures c.args.st c.args.st.pending l.invariant.same

pub overflow_add-at : goal.overflow_add-at
overflow_add-at c = let l = c.loop-end in let q = c.in-Passed in omega (arith, room c.args.input.now l.at l.reference (Passed q.size q.p) q.ensures)

pub loop-end-smaller-in-Passed : goal.loop-end-smaller-in-Passed
loop-end-smaller-in-Passed c = let l = c.loop-end in let q = c.in-Passed in omega (arith, room c.args.input.now l.at l.reference (Passed q.size q.p) q.ensures)

pub loop-end-preserved-in-Passed : goal.loop-end-preserved-in-Passed
loop-end-preserved-in-Passed c =
    let l = c.loop-end in
    let q = c.in-Passed in
    let s = c.args.input.now in
    let w = c.args.st in
    record {
      inside = omega (arith, room s l.at l.reference (Passed q.size q.p) q.ensures);
      same = sym (taken s l.at l.reference (Passed q.size q.p) q.ensures w w.pending l.invariant.same) ∙ pass_on epl (state_of w) s l.at q.size q.p w.pending;
    }

pub overflow_add-result : goal.overflow_add-result
overflow_add-result c = let l = c.loop-end in let q = c.in-Cleared in omega (arith, room c.args.input.now l.at l.reference (Cleared q.size) q.ensures)

pub returns-in-Cleared : goal.returns-in-Cleared
returns-in-Cleared c =
    let l = c.loop-end in
    taken c.args.input.now l.at l.reference (Cleared c.in-Cleared.size) c.in-Cleared.ensures c.args.st c.args.st.pending l.invariant.same

pub overflow_add-result-in-Element : goal.overflow_add-result-in-Element
overflow_add-result-in-Element c = let l = c.loop-end in let q = c.in-Element in omega (arith, room c.args.input.now l.at l.reference (Element q.e q.size) q.ensures)

pub returns-in-Element : goal.returns-in-Element
returns-in-Element c =
    let l = c.loop-end in
    let q = c.in-Element in
    rw add-one (taken c.args.input.now l.at l.reference (Element q.e q.size) q.ensures c.args.st c.args.st.pending l.invariant.same)

pub overflow_add-result-then-n-gt0 : goal.overflow_add-result-then-n-gt0
overflow_add-result-then-n-gt0 c = let l = c.loop-end in let q = c.in-Print in omega (arith, room c.args.input.now l.at l.reference (Print q.size q.sets q.copies) q.ensures)

pub returns-then-n-gt0 : goal.returns-then-n-gt0
returns-then-n-gt0 c =
    let l = c.loop-end in
    let q = c.in-Print in
    let w = c.args.st in
    rw (back32 q.sets (omega arith), back32 q.copies (omega arith))
    (sym (print_some epl _ _ (l.at + q.size) l.reference w.pending c.if-n-gt0.true) ∙ taken c.args.input.now l.at l.reference (Print q.size q.sets q.copies) q.ensures w w.pending l.invariant.same)

pub overflow_add-at-in-Print : goal.overflow_add-at-in-Print
overflow_add-at-in-Print c = let l = c.loop-end in let q = c.in-Print in omega (arith, room c.args.input.now l.at l.reference (Print q.size q.sets q.copies) q.ensures)

pub loop-end-smaller : goal.loop-end-smaller
loop-end-smaller c = let l = c.loop-end in let q = c.in-Print in omega (arith, room c.args.input.now l.at l.reference (Print q.size q.sets q.copies) q.ensures)

pub loop-end-preserved : goal.loop-end-preserved
loop-end-preserved c =
    let l = c.loop-end in
    let q = c.in-Print in
    let s = c.args.input.now in
    let w = c.args.st in
    record {
      inside = omega (arith, room s l.at l.reference (Print q.size q.sets q.copies) q.ensures);
      same = sym (taken s l.at l.reference (Print q.size q.sets q.copies) q.ensures w w.pending l.invariant.same) ∙ print_none epl _ _ (l.at + q.size) l.reference w.pending c.if-n-gt0.false ∙ pass_on epl (state_of w) s l.at q.size l.reference w.pending;
    }
