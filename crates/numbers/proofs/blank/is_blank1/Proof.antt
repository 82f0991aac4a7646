-- `crate::blank::is_blank1` meets its contract: an ASCII blank or 0b, as antt computes at each byte. Assumes nothing.
use mathlib.Core.Path.{ap, ◌∙◌}
use mathlib.Core.Bool.{Bool, ◌||◌}
use Prim.Native.Nat.{ℕ}
use lib.Dec.{eqb}
use borrow.Author.Rules.{rules}
use Rattle.text.specs.Blank.{is_ascii_blank, is_blank1}
use Rattle.byte_classes.proofs.TableLaws.{bytes}
use Rattle.numbers.proofs.blank.is_blank1.Statement.{statement}
use Rattle.numbers.proofs.blank.is_blank1.Tie as tie

returns : tie.Need-returns
returns c =
    let a = c.args.a in
    ap (λ (x : Bool). x || eqb a 11) c.is_ascii_blank.ensures ∙ bytes (λ (b : ℕ). is_ascii_blank b || eqb b 11) is_blank1 tt a (search rules)

pub is_blank1_spec : {M : Type 1} → statement M
is_blank1_spec = tie.close (tie.spec (λ c κs. search rules) returns)
