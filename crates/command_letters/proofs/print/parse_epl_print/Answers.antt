-- `command_letters::print::parse_epl_print` meets its contract.
use native.Mathlib.Omega.{arith}
use mathlib.Core.Path.{refl}
use lib.IntN.{pos}
use Rattle.numbers.proofs.IntLaws.{back32}
use Rattle.parameters.specs.Params.{number_at}
use Rattle.parameters.proofs.PlaceLaws.{number_value, number_next}
use Rattle.command_letters.specs.Print.{counts_of}
use Rattle.command_letters.proofs.print.parse_epl_print.Goals as goal

pub returns : goal.returns
unfolding counts_of number_at
returns c =
    let s = c.args.params.now in
    rw (back32 c.number_from-sets.result.value (omega arith), back32 c.number_from-copies.result.value (omega arith))
    (simp (number_value (pos 1) s 0 refl c.number_from-sets.ensures, number_value (pos 1) s _ (number_next (pos 1) s 0 refl c.number_from-sets.ensures) c.number_from-copies.ensures))
