-- `crate::blank::trim` meets its contract: plain ends stay, and else both ends are trimmed.
-- Assumes nothing.
use mathlib.Core.Path.{sym, ◌∙◌}
use native.Mathlib.Omega.{arith}
use borrow.Author.Rules.{rules}
use Rattle.text.proofs.BoolLaws.{and_both}
use Rattle.text.proofs.BlankSteps.{trim_empty, trim_plain}
use Rattle.numbers.proofs.blank.trim.Statement.{statement}
use Rattle.numbers.proofs.blank.trim.Tie as tie

returns : tie.Need-returns-then-s-eq0
returns c = trim_empty c.args.s.now c.if-s-eq0.true

returns-2 : tie.Need-returns-then-is_plain
returns-2 c =
    let a = c in
    let k = and_both a.is_plain.result c.is_plain-2.result c.if-is_plain.true in
    trim_plain a.args.s.now (omega arith) (sym a.is_plain.ensures ∙ k.0) (sym c.is_plain-2.ensures ∙ k.1)

pub trim_spec : {M : Type 1} → statement M
trim_spec =
    tie.close (tie.spec
    returns (λ c. search rules) (λ c κs. search rules) (λ c. search rules) (λ c. search rules) (λ c κs. search rules)
    returns-2 (λ c κs. search rules) (λ c κs. search rules) (λ c. search rules))
