-- `label_index::entry::fill`: no entry is stored before the first turn, and a turn stores the first of those to come.
use Rattle.std.proofs.Common.{sym, subst, arith}
use Rattle.lent_lists.proofs.Fill.{none_stored, one_stored}
use Rattle.label_index.specs.Entries.{next_of, WithinCursor}
use Rattle.label_index.proofs.EntryLaws.{stays_within}
use Rattle.label_index.proofs.entry.fill.Goals as goal

pub loop-i-init : goal.loop-i-init
loop-i-init c = record {
  upto = omega arith;
  within = c.requires.1;
  stored = none_stored (next_of c.args.input.now) (λ t. t.entry) _ _ _ c.requires.0;
}

pub loop-i-preserved : goal.loop-i-preserved
loop-i-preserved c =
    let l = c.loop-i in
    let s = c.args.input.now in
    record {
      upto = omega arith;
      within = λ h. subst (WithinCursor s) (sym c.next-c.ensures) (stays_within s l.c (l.invariant.within c.loop-i-test.true));
      stored = one_stored (next_of s) (λ t. t.entry) _ _ _ _ _ _ _ l.invariant.stored c.loop-i-test.true c.next-c.ensures c.entry_of.ensures;
    }
