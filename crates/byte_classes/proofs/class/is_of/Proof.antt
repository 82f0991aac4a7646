-- `crate::class::is_of` meets its contract: by the row's, and the table's rule at the byte. Assumes nothing.
use mathlib.Core.Path.{◌≡◌, sym, ap, ◌∙◌}
use mathlib.Core.Bool.{not}
use Prim.Native.Nat.{ℕ, ◌*◌, ◌/◌, ◌%◌, ◌^◌}
use lib.Bits.{bit_and}
use lib.Dec.{eqb}
use borrow.Author.Tests.{ne_eqb}
use borrow.Author.Rules.{rules}
use Rattle.byte_classes.specs.Classes.{is_of}
use Rattle.byte_classes.proofs.TableLaws.{placed, rule}
use Rattle.byte_classes.proofs.class.is_of.Statement.{statement}
use Rattle.byte_classes.proofs.class.is_of.Tie as tie

-- what the row says of b is b's class
told : (c : tie.After-row) → let a = c.args in placed (bit_and (c.row.result / 2 ^ a.k) 0x1111111111111111) a.b ≡ is_of a.k a.b
told c =
    let a = c.args in
    ap (λ (x : ℕ). placed (bit_and (x / 2 ^ a.k) 0x1111111111111111) a.b) c.row.ensures ∙ rule a.k a.b (search rules) (search rules)

some : (x b : ℕ) → (x ≡ 0 → ⊥) → not (eqb (bit_and (x / 2 ^ (4 * (b % 16))) 1) 0) ≡ placed x b
some x b h = simp (ne_eqb x 0 h)

returns : tie.Need-returns-then-r-eq0
returns c = sym (ap (λ (x : ℕ). placed x c.args.b) c.if-r-eq0.true) ∙ told c.before

returns-2 : tie.Need-returns
returns-2 c =
    let a = c.args in
    some (bit_and (c.row.result / 2 ^ a.k) 0x1111111111111111) a.b c.if-r-eq0.false ∙ told c.before

pub is_of_spec : {M : Type 1} → statement M
is_of_spec =
    tie.close (tie.spec (λ c κs. search rules) (λ c. search rules)
    returns (λ c. search rules) (λ c. search rules) (λ c. search rules)
    returns-2)
