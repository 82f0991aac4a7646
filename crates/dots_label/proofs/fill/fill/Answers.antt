-- `dots_label::fill::fill`: no element is stored before the first turn, and a turn stores the first of those to come.
use Rattle.std.proofs.Common.{sym, subst, ℕ, List, arith}
use Rattle.walk_theory.specs.Step.{element, cleared, printed, ended, refused, step}
use Rattle.grammar.specs.Epl.{epl}
use Rattle.walk.specs.Steps.{EplAnswer, state_of}
use Rattle.lent_lists.proofs.Fill.{none_stored, one_stored}
use Rattle.dots_label.specs.Walked.{on_element, WithinCursor, next_of}
use Rattle.dots_label.specs.declared.fill.Cursor.{Cursor}
use Rattle.dots_label.proofs.fill.fill.Goals as goal

-- the cut stays
keeps : (s : List ℕ) (c : Cursor) (a : EplAnswer) → WithinCursor s c → WithinCursor s (on_element c a)
keeps s c (element e st) h = h
keeps s c (cleared st) h = h
keeps s c (printed n q st) h = h
keeps s c (ended st) h = h
keeps s c (refused k p st) h = h

pub loop-i-init : goal.loop-i-init
loop-i-init c = record {
  upto = omega arith;
  within = c.requires.1;
  stored = none_stored (next_of c.args.input.now) (λ t. t.element) _ _ _ c.requires.0;
}

pub loop-i-preserved : goal.loop-i-preserved
loop-i-preserved c =
    let l = c.loop-i in
    let s = c.args.input.now in
    record {
      upto = omega arith;
      within = λ h. subst (WithinCursor s) (sym c.next-c.ensures) (keeps s l.c (step epl _ (state_of l.c.state)) (l.invariant.within c.loop-i-test.true));
      stored = one_stored (next_of s) (λ t. t.element) _ _ _ _ _ _ _ l.invariant.stored c.loop-i-test.true c.next-c.ensures c.element_of.ensures;
    }
