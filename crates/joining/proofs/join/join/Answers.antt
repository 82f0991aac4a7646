-- `joining::join::join`: the second walk's refusal, 25, 15, or the text is written.
use Rattle.std.proofs.Common.{◌≡◌, sym, List, ℕ, ◌≤◌, ◌<◌, length, arith}
use mathlib.Core.Path.{subst}
use Rattle.elements.specs.Given.{longest, text, denied}
use Rattle.elements.specs.Walk.{fresh}
use Rattle.strict.specs.declared.verdict.Checked.{Checked}
use Rattle.strict.specs.Look.{end_of, plainly}
use Rattle.joining.specs.Join.{joined_text, Joins}
use Rattle.joining.proofs.JoinLaws.{Dues, walk_refused, walk_short, walk_accepted, due_second, due_long, due_text, joins_denied, joins_short, joins_written}
use Rattle.joining.proofs.join.join.Goals as goal

-- both files are accepted, and n is the joined length
module _ (s t : List ℕ) (a b : Checked) (is : a ≡ plainly (end_of s fresh)) (z : a.number ≡ 0) (so : b ≡ plainly (end_of t fresh)) (y : b.number ≡ 0) {n : ℕ} (e : n ≡ length (joined_text s t)) where
  too_long : longest < n → Dues s t 0 (denied 25 n)
  too_long h = rw e (due_long s t (walk_accepted s a is z) (walk_accepted t b so y) (omega arith))

  due : n ≤ longest → Dues s t 0 (text (joined_text s t))
  due h = due_text s t (walk_accepted s a is z) (walk_accepted t b so y) (omega arith)

pub returns-then-b-ne0 : goal.returns-then-b-ne0
returns-then-b-ne0 c =
    let s = c.args.first.now in
    let t = c.args.second.now in
    joins_denied c.args.out.now (due_second s t (walk_accepted s c.plain-a.result c.plain-a.ensures c.if-a-ne0.false) (walk_refused t c.plain-b.result c.plain-b.ensures c.if-b-ne0.true))

pub joined_len-n-requires : goal.joined_len-n-requires
joined_len-n-requires c = (walk_short c.args.first.now c.plain-a.result c.plain-a.ensures c.if-a-ne0.false, walk_short c.args.second.now c.plain-b.result c.plain-b.ensures c.if-b-ne0.false)

pub returns-then-n-gt-LONGEST : goal.returns-then-n-gt-LONGEST
returns-then-n-gt-LONGEST c =
    let s = c.args.first.now in
    let t = c.args.second.now in
    let l = c.args.out.now in
    subst (Joins l l s t) (sym c.neither.ensures)
    (joins_denied l (too_long s t c.plain-a.result c.plain-b.result c.plain-a.ensures c.if-a-ne0.false c.plain-b.ensures c.if-b-ne0.false c.joined_len-n.ensures c.if-n-gt-LONGEST.true))

pub returns-then-out-n : goal.returns-then-out-n
returns-then-out-n c =
    let s = c.args.first.now in
    let t = c.args.second.now in
    let l = c.args.out.now in
    let n = c.joined_len-n.ensures in
    subst (Joins l l s t) (sym c.neither-then-out-n.ensures)
    (joins_short l (due s t c.plain-a.result c.plain-b.result c.plain-a.ensures c.if-a-ne0.false c.plain-b.ensures c.if-b-ne0.false n c.if-n-gt-LONGEST.false) n c.if-out-n.true)

pub returns : goal.returns
returns c =
    let s = c.args.first.now in
    let t = c.args.second.now in
    let n = c.joined_len-n.ensures in
    let w = c.put_joined.ensures in
    joins_written c.args.out.now (due s t c.plain-a.result c.plain-b.result c.plain-a.ensures c.if-a-ne0.false c.plain-b.ensures c.if-b-ne0.false n c.if-n-gt-LONGEST.false)
    (omega (arith, w.next))
    (omega (arith, w.next, n, c.if-out-n.false))
    w.wrote.is
