-- `dots_label::line::line_start`: a unit that ends before `to` is passed, and it has bytes.
use Rattle.std.proofs.Common.{◌≡◌, refl, sym, ap, ◌∙◌, ℕ, suc, ◌+◌, ◌-◌, ◌<◌, List, arith, length, length-drop, take, drop}
use Rattle.std.proofs.Math.Seq.{drop-drop}
use Rattle.text.proofs.DropSteps.{rest}
use Rattle.grammar.specs.Size.{unit_size}
use Rattle.grammar.proofs.SizeLaws.{Fits, size_fits}
use Rattle.dots_label.specs.Walked.{line_by}
use Rattle.dots_label.proofs.WalkedLaws.{line_stop, line_next}
use Rattle.dots_label.proofs.line.line_start.Goals as goal

-- the size of the unit at a place
size : (s : List ℕ) (at n : ℕ) → n ≡ unit_size (take (length s - at) (drop at s)) → n ≡ unit_size (drop at s)
size s at n h = h ∙ ap unit_size (rest s at)

fits : (s : List ℕ) (at : ℕ) → at < length s → Fits (drop at s) (unit_size (drop at s))
fits s at h = size_fits (drop at s) (omega (arith, length-drop at s))

pub loop-from-init : goal.loop-from-init
loop-from-init c = record {
  before = c.requires.0;
  within = c.requires.1;
  sought = record { fuel = suc (length c.args.input.now); enough = omega arith; same = refl };
}

pub overflow_add-next : goal.overflow_add-next
overflow_add-next c =
    let s = c.args.input.now in
    let at = c.loop-from.at in
    let f = fits s at (omega arith) in
    omega (arith, size s at c.unit_size.result c.unit_size.ensures, f.inside, length-drop at s)

pub returns-then-to-next : goal.returns-then-to-next
returns-then-to-next c =
    let s = c.args.input.now in
    let at = c.loop-from.at in
    let f = c.loop-from.invariant.sought in
    sym (f.same ∙ line_stop f.fuel (drop at s) at c.args.to (omega (arith, f.enough)) (omega (arith, size s at c.unit_size.result c.unit_size.ensures)))

pub loop-from-smaller : goal.loop-from-smaller
loop-from-smaller c =
    let s = c.args.input.now in
    let at = c.loop-from.at in
    let f = fits s at (omega arith) in
    omega (arith, size s at c.unit_size.result c.unit_size.ensures, f.some)

pub loop-from-preserved : goal.loop-from-preserved
loop-from-preserved c =
    let s = c.args.input.now in
    let at = c.loop-from.at in
    let to = c.args.to in
    let f = c.loop-from.invariant.sought in
    let w = fits s at (omega arith) in
    let n = unit_size (drop at s) in
    let z : c.unit_size.result ≡ n = size s at c.unit_size.result c.unit_size.ensures in
    let l = line_next f.fuel (drop at s) at to (omega (arith, f.enough)) (omega (arith, z)) in
    record {
      before = c.if-to-next.false;
      within = c.loop-from.invariant.within;
      sought = record {
        fuel = l.0;
        enough = omega (arith, f.enough, l.1, z, w.some);
        same = f.same ∙ l.2 ∙ (λ k. line_by l.0 (drop-drop n at s k) (at + n) to) ∙ (λ k. line_by l.0 (drop (at + sym z k) s) (at + sym z k) to);
      };
    }
