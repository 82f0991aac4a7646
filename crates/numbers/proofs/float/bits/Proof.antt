-- `crate::float::bits` meets its contract: NaN is what differs from itself, and its bits are the one pattern.
-- Assumes nothing.
use mathlib.Core.Path.{◌≡◌, refl, sym, ◌∙◌, subst}
use mathlib.Core.Bool.{true, false, not, true≢false}
use lib.Dec.{T}
use lib.Ieee.{Float, nan, inf, fin, binary64, ne, is_nan, to_bits}
use lib.Ieee.Compare.{differs_from_itself, nan_differs}
use borrow.Author.Rules.{rules}
use Rattle.numbers.proofs.float.bits.Statement.{statement}
use Rattle.numbers.proofs.float.bits.Tie as tie

no_nan : (x : Float) → ne x x ≡ false → T (not (is_nan x))
unfolding is_nan
no_nan nan e = absurd (true≢false (sym nan_differs ∙ e))
no_nan (inf s) e = tt
no_nan (fin s m k) e = tt

bits_nan : (x : Float) → ne x x ≡ true → 0x7ff8_0000_0000_0000 ≡ to_bits binary64 x
unfolding to_bits
bits_nan x e = subst (λ (y : Float). 0x7ff8_0000_0000_0000 ≡ to_bits binary64 y) (sym (differs_from_itself x (subst T (sym e) tt))) refl

pub bits_spec : {M : Type 1} → statement M
bits_spec =
    tie.close
    (tie.spec (λ c. bits_nan c.args.x c.if-x.true) (λ c. no_nan c.args.x c.if-x.false)
    (λ c. search rules))
