-- `command_letters::print::is_counts` meets its contract: the byte behind the run of digits decides.
use mathlib.Core.Path.{sym, ap, ◌∙◌}
use mathlib.Core.Bool.{Bool, ◌&&◌}
use Prim.Native.Nat.{◌+◌}
use lib.Dec.{ltb}
use Rattle.text.proofs.DropSteps.{rest}
use Rattle.command_letters.specs.Print.{is_count}
use Rattle.command_letters.proofs.PrintLaws.{counts_all, run_inside, counts_other, counts_comma}
use Rattle.command_letters.proofs.print.is_counts.Goals as goal

pub returns-then-n-s : goal.returns-then-n-s
returns-then-n-s c = sym (counts_all c.args.s.now c.digit_run-n.result c.digit_run-n.ensures c.if-n-s.true)

pub bounds-s-n : goal.bounds-s-n
bounds-s-n c = run_inside c.args.s.now c.digit_run-n.result c.digit_run-n.ensures c.if-n-s.false

pub returns-then-s-n-ne44 : goal.returns-then-s-n-ne44
returns-then-s-n-ne44 c =
    sym (counts_other c.args.s.now c.digit_run-n.result c.digit_run-n.ensures c.if-n-s.false c.if-s-n-ne44.true)

pub returns : goal.returns
returns c =
    ap (λ (b : Bool). ltb 0 c.digit_run-n.result && b) (c.is_count.ensures ∙ ap is_count (rest c.args.s.now (c.digit_run-n.result + 1)))
    ∙ sym (counts_comma c.args.s.now c.digit_run-n.result c.digit_run-n.ensures c.if-n-s.false c.if-s-n-ne44.false)
