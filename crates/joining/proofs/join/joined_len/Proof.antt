-- `joining::join::joined_len` meets its contract: both lengths and two bytes for the line between. Assumes nothing.
use mathlib.Core.List.{◌∷◌}
use native.Mathlib.Omega.{arith}
use lib.ListN.{length-append}
use Rattle.grammar.specs.Normal.{normalised}
use Rattle.grammar.proofs.NormalLaws.{length_normalised_le}
use borrow.Author.Rules.{rules}
use Rattle.joining.proofs.join.joined_len.Statement.{statement}
use Rattle.joining.proofs.join.joined_len.Tie as tie

add-result : tie.Need-overflow_add-result
add-result c = omega (arith, c.measure.ensures, length_normalised_le c.args.first.now)

add-result-2 : tie.Need-overflow_add-result-2
add-result-2 c =
    let m = c in
    let a = m.args in
    omega (arith, c.measure-2.ensures, m.measure.ensures, length_normalised_le a.first.now, length_normalised_le a.second.now)

returns : tie.Need-returns
returns c =
    let m = c in
    let a = m.args in
    omega (arith, c.measure-2.ensures, m.measure.ensures, length-append (normalised a.first.now) (78 ∷ 10 ∷ normalised a.second.now))

pub joined_len_spec : {M : Type 1} → statement M
joined_len_spec =
    tie.close (tie.spec (λ c κs. search rules) add-result (λ c κs. search rules) add-result-2 returns)
