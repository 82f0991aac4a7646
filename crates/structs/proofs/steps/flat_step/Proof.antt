-- `structs::steps::flat_step` meets its contract, case by case. Assumes nothing.
use borrow.Author.Rules.{rules}
use Rattle.structs.proofs.steps.flat_step.Statement.{statement}
use Rattle.structs.proofs.steps.flat_step.Tie as tie

returns : tie.Need-returns-in-Element
returns c = rw (c.in-Element.is, ← c.flat_element.ensures) c.answered.ensures

returns-2 : tie.Need-returns-in-Clear
returns-2 c = rw c.in-Clear.is c.event.ensures

returns-3 : tie.Need-returns-in-Print
returns-3 c = rw c.in-Print.is c.printed.ensures

returns-4 : tie.Need-returns-in-End
returns-4 c = rw c.in-End.is c.event-in-End.ensures

returns-5 : tie.Need-returns-in-Refused
returns-5 c = rw (c.in-Refused.is, ← c.number.ensures) c.event-in-Refused.ensures

pub flat_step_spec : {M : Type 1} → statement M
flat_step_spec =
    tie.close
    (tie.spec
    (λ c. search rules)
    (λ c κs. search rules)
    (λ c κs. search rules)
    (λ c. search rules)
    (λ c κs. search rules)
    (λ c. search rules)
    (λ c κs. search rules)
    (λ c. search rules)
    (λ c κs. search rules)
    (λ c. search rules)
    (λ c κs. search rules)
    (λ c κs. search rules)
    returns
    returns-2
    returns-3
    returns-4
    returns-5)
