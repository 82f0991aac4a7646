-- `dots::length::to_300` meets its contract: the bits tell the sign. Assumes nothing.
use mathlib.Core.Path.{◌≡◌, sym, ap, ◌∙◌}
use Prim.Native.Nat.{◌<◌, ◌-◌}
use lib.IntN.{ℤ, pos, negsuc}
use lib.Signed.{mag}
use Rattle.numbers.specs.Int.{twos}
use Rattle.numbers.proofs.IntLaws.{back32}
use Rattle.dots.specs.Length.{to300, converted}
use Rattle.dots.proofs.LengthLaws.{twos_low, twos_high}
use borrow.Author.Rules.{rules}
use Rattle.dots.proofs.length.to_300.Statement.{statement}
use Rattle.dots.proofs.length.to_300.Tie as tie

small : (c : tie.After-bits-b) → mag c.args.n.0 < 2147483648
small c = c.struct_told-1.given.0.1

its_bits : (c : tie.After-bits-b) → c.bits-b.result ≡ twos c.args.n.0
its_bits c = simp (back32 c.args.n.0 (small c)) at c.bits-b.ensures

low : (c : tie.Then-b-lt2147483648) → c.args.n.0 ≡ pos c.bits-b.result
low c = twos_low c.args.n.0 c.bits-b.result (small c.before) (its_bits c.before) c.if-b-lt2147483648.true

high : (c : tie.Else-b-lt2147483648) → c.args.n.0 ≡ negsuc (4294967295 - c.bits-b.result)
high c = twos_high c.args.n.0 c.bits-b.result (small c.before) (its_bits c.before) c.if-b-lt2147483648.false

returns : tie.Need-returns-then-b-lt2147483648
returns c = c.rising.ensures ∙ sym (ap (λ (z : ℤ). converted (to300 z)) (low c.before))

returns-2 : tie.Need-returns
returns-2 c = c.falling.ensures ∙ sym (ap (λ (z : ℤ). converted (to300 z)) (high c.before))

pub to_300_spec : {M : Type 1} → statement M
to_300_spec =
    tie.close
    (tie.spec
    (λ c κs. search rules)
    (λ c. search rules)
    (λ c κs. search rules)
    returns
    (λ c. search rules)
    (λ c. search rules)
    (λ c κs. search rules)
    returns-2)
