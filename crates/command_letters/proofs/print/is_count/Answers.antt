-- `command_letters::print::is_count` meets its contract.
use mathlib.Core.Path.{ap, ◌∙◌}
use mathlib.Core.Bool.{◌&&◌}
use Prim.Native.Nat.{ℕ}
use lib.Dec.{eqb, ltb}
use lib.ListN.{length}
use Rattle.command_letters.proofs.PrintLaws.{count_run}
use Rattle.command_letters.proofs.print.is_count.Goals as goal

pub returns : goal.returns
returns c = let t = c.args.s.now in ap (λ (n : ℕ). eqb n (length t) && ltb 0 (length t)) c.digit_run.ensures ∙ count_run t
