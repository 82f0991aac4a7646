-- `crate::blank::is_blank` meets its contract: a character by its length.
-- Assumes nothing.
use mathlib.Core.Path.{◌∙◌}
use borrow.Author.Rules.{rules}
use Rattle.text.proofs.BlankSteps.{blank_one, blank_two, blank_three, blank_other}
use Rattle.numbers.proofs.blank.is_blank.Statement.{statement}
use Rattle.numbers.proofs.blank.is_blank.Tie as tie

returns : tie.Need-returns-then-w-eq1
returns c = c.is_blank1.ensures ∙ blank_one c.args.w.now c.if-w-eq1.true

returns-2 : tie.Need-returns-then-w-eq2
returns-2 c = let two = c in c.is_blank2.ensures ∙ blank_two two.args.w.now two.if-w-eq2.true

returns-3 : tie.Need-returns-then-w-eq3
returns-3 c = let three = c in c.is_blank3.ensures ∙ blank_three three.args.w.now three.if-w-eq3.true

returns-4 : tie.Need-returns
returns-4 c = blank_other c.args.w.now c.if-w-eq1.false c.if-w-eq2.false c.if-w-eq3.false

pub is_blank_spec : {M : Type 1} → statement M
is_blank_spec =
    tie.close (tie.spec (λ c. search rules) (λ c κs. search rules)
    returns (λ c. search rules) (λ c. search rules) (λ c κs. search rules)
    returns-2 (λ c. search rules) (λ c. search rules) (λ c. search rules) (λ c κs. search rules)
    returns-3 returns-4)
