-- `crate::int::checked_abs` meets its contract: a negative number's distance from 0 is 0 less it.
-- Assumes nothing.
use mathlib.Core.Path.{◌≡◌, sym, ap, ◌∙◌}
use mathlib.Core.Bool.{true, false}
use lib.IntN.{pos, nat_abs}
use lib.Signed.{lt_z}
use mir.Facts.{to_z-of_z}
use borrow.Author.Rules.{rules}
use Rattle.numbers.specs.Int.{checked}
use Rattle.numbers.proofs.IntLaws.{back64, checked_in, abs_neg, abs_pos}
use Rattle.numbers.proofs.int.checked_abs.Statement.{statement}
use Rattle.numbers.proofs.int.checked_abs.Tie as tie

returns : tie.Need-returns-then-a-lt0
returns c =
    let s = c in
    let n : lt_z s.args.a (pos 0) ≡ true = simp (to_z-of_z s.ranges.a) at c.if-a-lt0.true in
    let e : c.minus.result ≡ pos (nat_abs s.args.a) = (simp (to_z-of_z s.ranges.a) at c.minus.ensures) ∙ abs_neg s.args.a n in
    simp (back64 c.minus.result c.minus.type_inv) at c.narrow.ensures ∙ ap checked e

returns-2 : tie.Need-returns
returns-2 c =
    let s = c in
    let n : lt_z s.args.a (pos 0) ≡ false = simp (to_z-of_z s.ranges.a) at c.if-a-lt0.false in
    rw (to_z-of_z s.ranges.a) (sym (ap checked (abs_pos s.args.a n) ∙ checked_in s.args.a s.ranges.a.sfits))

pub checked_abs_spec : {M : Type 1} → statement M
checked_abs_spec = tie.close (tie.spec (λ c κs. search rules) (λ c κs. search rules) returns returns-2)
