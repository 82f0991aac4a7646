-- `normal_lines::line::put_long`: the blanks before the line, its pieces, and LF where something was written.
use Rattle.std.proofs.Common.{◌≡◌, ◌∙◌, sym, ap, refl, ℕ, ◌+◌, ◌-◌, ◌≤◌, ◌<◌, List, [], ◌∷◌, length, length-append, true, false, arith}
use mathlib.Core.Bool.{or-false}
use lib.Dec.{eqb}
use borrow.Author.Tests.{eqb-true}
use Rattle.text.specs.Blank.{front, drop_end, is_ascii_blank, trim_ascii, drop_while}
use Rattle.text.specs.Scan.{size_by}
use Rattle.text.specs.Wrote.{Put}
use Rattle.text.proofs.BoolLaws.{test}
use Rattle.text.proofs.DropLaws.{drop_while_le}
use Rattle.graphics.specs.Block.{is_line_blank}
use Rattle.grammar.specs.Units.{not_lf}
use Rattle.normal_lines.specs.Lines.{ended, line_size}
use Rattle.normal_lines.proofs.LinesPieceLaws.{front_le}
use Rattle.normal_lines.proofs.LinesLaws.{ended_some, ended_le, put_empty, put_ended_at}
use Rattle.normal_lines.proofs.line.put_long.Goals as goal

lf_no_blank : (b : ℕ) → eqb b 10 ≡ true → is_line_blank b ≡ false
lf_no_blank b e = let k : b ≡ 10 = eqb-true b 10 e in rw k refl

started_is : (s : List ℕ) → drop_while is_ascii_blank (front not_lf s) ≡ front not_lf (drop_while is_line_blank s)
started_is [] = refl
started_is (b ∷ s) =
    test (eqb b 10)
    (λ e. simp (e, lf_no_blank b e))
    (λ e. test (is_line_blank b) (λ k. simp (e, or-false, k, started_is s)) (λ k. simp (e, or-false, k)))

started_size : (s : List ℕ) → length (front not_lf s) ≡ length s - length (drop_while is_line_blank s) + length (front not_lf (drop_while is_line_blank s))
started_size [] = refl
started_size (b ∷ s) =
    test (eqb b 10)
    (λ e. simp (e, lf_no_blank b e) (omega arith))
    (λ e. test (is_line_blank b) (λ k. simp (e, k) (omega (arith, started_size s, drop_while_le is_line_blank s))) (λ k. simp (e, k) (omega arith)))

-- t is s without the blanks before the line
module _ (s t : List ℕ) (e : t ≡ drop_while is_line_blank s) where
  -- what stays of the line, as its pieces are told
  kept : trim_ascii (front not_lf s) ≡ drop_end is_ascii_blank (front not_lf t)
  kept = ap (drop_end is_ascii_blank) (started_is s ∙ ap (front not_lf) (sym e))

  -- the line's size without its LF, and with it
  size : (n : ℕ) → n ≡ length (front not_lf t) → length s - length t + n ≡ length (front not_lf s)
  size n h = omega (arith, h, ap (λ (l : List ℕ). length (front not_lf l)) e, ap length e, started_size s)

  sized : {z : ℕ} (n : ℕ) → n ≡ length (front not_lf t) → z ≡ size_by (length s - length t + n) (length s) → z ≡ line_size s
  sized n h k = k ∙ ap (λ (m : ℕ). size_by m (length s)) (size n h)

  -- the pieces are put
  put : {m l : List ℕ} {at r : ℕ} → Put m l at (drop_end is_ascii_blank (front not_lf t)) r → Put m l at (trim_ascii (front not_lf s)) r
  put p = rw kept p

-- where something was written there is room for its LF
room : {m l : List ℕ} {at r : ℕ} (part : List ℕ) → at + length (ended part) ≤ length l → Put m l at part r → at < r → r + 1 ≤ length l
room part h p k = omega (arith, h, p.next, ap length (ended_some part (omega (arith, p.next, k))), length-append part (10 ∷ []))

pub overflow_sub-from : goal.overflow_sub-from
overflow_sub-from c = omega (arith, ap length c.trim_line_start-started.ensures, drop_while_le is_line_blank c.args.rest.now)

pub put_pieces-l-requires : goal.put_pieces-l-requires
put_pieces-l-requires c =
    let s = c.args.rest.now in
    let t = c.trim_line_start-started in
    omega (arith, c.requires, ap length (kept s t.result.now t.ensures), ended_le (trim_ascii (front not_lf s)))

pub overflow_add-from : goal.overflow_add-from
overflow_add-from c =
    let s = c.args.rest.now in
    let t = c.trim_line_start-started in
    omega (arith, size s t.result.now t.ensures c.put_pieces-l.result.size c.put_pieces-l.ensures.size, front_le not_lf s)

pub returns-then-end-at : goal.returns-then-end-at
returns-then-end-at c =
    let s = c.args.rest.now in
    let t = c.trim_line_start-started in
    let p = c.put_pieces-l in
    record {
      put = put_empty (trim_ascii (front not_lf s)) (put s t.result.now t.ensures p.ensures.put) c.if-end-at.true;
      size = sized s t.result.now t.ensures p.result.size p.ensures.size c.line_size-size.ensures;
    }

pub bounds-out-end : goal.bounds-out-end
bounds-out-end c =
    let s = c.args.rest.now in
    let t = c.trim_line_start-started in
    let w = put s t.result.now t.ensures c.put_pieces-l.ensures.put in
    omega (arith, room (trim_ascii (front not_lf s)) c.requires w c.if-end-at.false, w.wrote.long)

pub overflow_add-result : goal.overflow_add-result
overflow_add-result c =
    let s = c.args.rest.now in
    let t = c.trim_line_start-started in
    omega (arith, room (trim_ascii (front not_lf s)) c.requires (put s t.result.now t.ensures c.put_pieces-l.ensures.put) c.if-end-at.false)

pub returns : goal.returns
returns c =
    let s = c.args.rest.now in
    let t = c.trim_line_start-started in
    let p = c.put_pieces-l in
    record {
      put = put_ended_at (trim_ascii (front not_lf s)) (put s t.result.now t.ensures p.ensures.put) c.if-end-at.false;
      size = sized s t.result.now t.ensures p.result.size p.ensures.size c.line_size-size.ensures;
    }
