-- `label_index::entry::next`: the next entry, by the answer that the loop matched.
use Rattle.std.proofs.Common.{◌≡◌, sym, ap, ◌∙◌, ℕ, suc, List, ◌-◌, length, drop, arith}
use Rattle.elements.specs.declared.LabelPosition.{LabelPosition}
use Rattle.elements.specs.declared.walk_state.WalkState.{WalkState}
use Rattle.walk_theory.specs.Index.{Hand, hand, hand_at}
use Rattle.walk_theory.specs.Next as theory
use Rattle.walk_theory.specs.Step.{answer, handing}
use Rattle.walk_theory.proofs.NextLaws.{on_told, told_at, moves_told, next_some, next_none}
use Rattle.walk_theory.proofs.TraceLaws.{Moves}
use Rattle.walk_theory.proofs.UnrefusedLaws.{Behind, unrefused_behind}
use Rattle.grammar.specs.Epl.{epl}
use Rattle.grammar.proofs.FoundLaws.{reads}
use Rattle.walk.specs.Steps.{state_of, answer_of}
use Rattle.walk.specs.declared.answer.Answer.{Answer}
use Rattle.walk.specs.declared.answer.Answer.TheVariants.{Element, Clear, Print, End, Refused}
use Rattle.label_index.specs.Entries.{cursor_of, cursor_from}
use Rattle.label_index.specs.Glance.{Past}
use Rattle.label_index.specs.declared.entry.Cursor.{Cursor}
use Rattle.label_index.proofs.entry.next.Goals as goal

-- the walk from here, a label being at hand, and the state w behind the lines that were told, from which q was answered
module _ (s : List ℕ) (c : Cursor) (first : ℕ) (reference : LabelPosition) (here w : WalkState) (p : Past s here w) (q : Answer) (e : answer_of q ≡ handing (state_of w) (answer epl (drop w.place s) w.place w.reference w.pending)) where
  abbrev held : Hand LabelPosition
  held = hand first reference w.reference (w.pending - 1)

  told : theory.next epl s (cursor_of c) ≡ theory.next_from epl s (cursor_of c) here.place (hand first reference here.reference (here.pending - 1)) → theory.next epl s (cursor_of c) ≡ on_told epl s (cursor_of c) held (answer_of q)
  told same = same ∙ p.same_next (cursor_of c) first reference ∙ told_at epl reads s (cursor_of c) w.place held (state_of w) w.pending (answer_of q) (omega (arith, p.some)) e

  moved : Moves w.place (length s) w.pending (answer_of q)
  moved = moves_told epl reads s (state_of w) (state_of w) (answer_of q) p.within.inside e

  -- what follows is not refused either
  sound : Behind epl reads s (answer_of q)
  sound = unrefused_behind epl reads s (state_of w) (state_of w) (answer_of q) e p.within.unrefused

pub loop-next-smaller-in-Element : goal.loop-next-smaller-in-Element
loop-next-smaller-in-Element c =
    let l = c.loop-next in
    let a = c.in-Element in
    let m = moved c.args.input.now c.args.c l.first l.reference l.here c.pass_told.result c.pass_told.ensures (Element a.next a.field-1) a.ensures in
    omega (arith, m.0, m.1, c.pass_told.ensures.later)

pub loop-next-preserved-in-Element : goal.loop-next-preserved-in-Element
loop-next-preserved-in-Element c =
    let s = c.args.input.now in
    let l = c.loop-next in
    let a = c.in-Element in
    let w = c.pass_told.result in
    let p = c.pass_told.ensures in
    let q = Element a.next a.field-1 in
    let m = moved s c.args.c l.first l.reference l.here w p q a.ensures in
    let e : suc (w.pending - 1) ≡ a.next.pending - 1 = omega (arith, m.2, p.some) in
    record {
      within = record { short = p.within.short; inside = m.1; unrefused = sound s c.args.c l.first l.reference l.here w p q a.ensures };
      some = omega (arith, m.2);
      few = omega (arith, m.0, m.2, p.few);
      same = told s c.args.c l.first l.reference l.here w p q a.ensures l.invariant.same
          ∙ ap (λ (n : ℕ). theory.next_from epl s (cursor_of c.args.c) a.next.place (hand l.first l.reference a.next.reference n)) e;
    }

pub loop-next-smaller-in-Clear : goal.loop-next-smaller-in-Clear
loop-next-smaller-in-Clear c =
    let l = c.loop-next in
    let a = c.in-Clear in
    let m = moved c.args.input.now c.args.c l.first l.reference l.here c.pass_told.result c.pass_told.ensures (Clear a.next) a.ensures in
    omega (arith, m.0, m.1, c.pass_told.ensures.later)

pub loop-next-preserved-in-Clear : goal.loop-next-preserved-in-Clear
loop-next-preserved-in-Clear c =
    let s = c.args.input.now in
    let l = c.loop-next in
    let a = c.in-Clear in
    let w = c.pass_told.result in
    let p = c.pass_told.ensures in
    let q = Clear a.next in
    record {
      within = record { short = p.within.short; inside = (moved s c.args.c l.first l.reference l.here w p q a.ensures).1; unrefused = sound s c.args.c l.first l.reference l.here w p q a.ensures };
      some = omega arith;
      few = omega arith;
      same = told s c.args.c l.first l.reference l.here w p q a.ensures l.invariant.same;
    }

pub returns-then-p-gt1 : goal.returns-then-p-gt1
returns-then-p-gt1 c =
    let s = c.args.input.now in
    let l = c.loop-next in
    let a = c.in-Print in
    let w = c.pass_told.result in
    let p = c.pass_told.ensures in
    let q = Print a.next a.p in
    let m = moved s c.args.c l.first l.reference l.here w p q a.ensures in
    let at = a.next.place in
    let h = hand l.first l.reference a.next.reference (w.pending - 1) in
    let x = theory.next_from epl s (cursor_of c.args.c) at (hand_at at a.next.reference) in
    let e : w.pending - 1 ≡ a.p.count - 1 = omega (arith, m.3) in
    sym (ap cursor_from (told s c.args.c l.first l.reference l.here w p q a.ensures l.invariant.same ∙ ap (theory.next_print x h at) e ∙ next_some x h at (a.p.count - 1) (omega (arith, c.if-p-gt1.true))))

pub loop-next-smaller : goal.loop-next-smaller
loop-next-smaller c =
    let l = c.loop-next in
    let a = c.in-Print in
    let m = moved c.args.input.now c.args.c l.first l.reference l.here c.pass_told.result c.pass_told.ensures (Print a.next a.p) a.ensures in
    omega (arith, m.0, m.1, c.pass_told.ensures.later)

pub loop-next-preserved : goal.loop-next-preserved
loop-next-preserved c =
    let s = c.args.input.now in
    let l = c.loop-next in
    let a = c.in-Print in
    let w = c.pass_told.result in
    let p = c.pass_told.ensures in
    let q = Print a.next a.p in
    let m = moved s c.args.c l.first l.reference l.here w p q a.ensures in
    let at = a.next.place in
    let h = hand l.first l.reference a.next.reference (w.pending - 1) in
    let x = theory.next_from epl s (cursor_of c.args.c) at (hand_at at a.next.reference) in
    record {
      within = record { short = p.within.short; inside = m.1; unrefused = sound s c.args.c l.first l.reference l.here w p q a.ensures };
      some = omega arith;
      few = omega arith;
      same = told s c.args.c l.first l.reference l.here w p q a.ensures l.invariant.same ∙ next_none x h at (w.pending - 1) (omega (arith, m.3, c.if-p-gt1.false));
    }

pub returns-in-End : goal.returns-in-End
returns-in-End c =
    let l = c.loop-next in
    sym (ap cursor_from (told c.args.input.now c.args.c l.first l.reference l.here c.pass_told.result c.pass_told.ensures (End c.in-End.field-0) c.in-End.ensures l.invariant.same))

pub returns-in-Refused : goal.returns-in-Refused
returns-in-Refused c =
    let l = c.loop-next in
    let a = c.in-Refused in
    sym (ap cursor_from (told c.args.input.now c.args.c l.first l.reference l.here c.pass_told.result c.pass_told.ensures (Refused a.field-0 a.field-1 a.field-2) a.ensures l.invariant.same))
