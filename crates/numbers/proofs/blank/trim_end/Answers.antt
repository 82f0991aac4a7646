-- The blank at the end is part of t, and without it t is shorter and trims to the same.
use Rattle.std.proofs.Common.{◌≤◌, length, sym, ◌∙◌, arith}
use Rattle.text.proofs.BlankSteps.{end_le, end_stop, end_step, end_less}
use Rattle.numbers.proofs.blank.trim_end.Goals as goal

pub returns-then-k-eq0 : goal.returns-then-k-eq0
returns-then-k-eq0 c =
    let l = c.loop-t in
    let k = c.end_blank_len-k in
    sym (l.invariant.1 ∙ end_stop l.t.now k.result k.ensures (omega arith))

pub overflow_sub-n : goal.overflow_sub-n
overflow_sub-n c = omega (arith, end_le c.loop-t.t.now)

pub loop-t-smaller : goal.loop-t-smaller
loop-t-smaller c =
    let t = c.loop-t.t.now in
    let k = c.end_blank_len-k in
    let fits : k.result ≤ length t = omega (arith, end_le t) in
    end_less t k.result fits (omega arith)

pub loop-t-preserved : goal.loop-t-preserved
loop-t-preserved c =
    let l = c.loop-t in
    let t = l.t.now in
    let k = c.end_blank_len-k in
    let fits : k.result ≤ length t = omega (arith, end_le t) in
    (omega (arith, end_less t k.result fits (omega arith)), l.invariant.1 ∙ end_step t k.result k.ensures (omega arith))
