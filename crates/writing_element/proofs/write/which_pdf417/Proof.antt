-- `writing_element::write::which_pdf417` meets its contract. Assumes nothing.
use mathlib.Core.Path.{sym, ◌∙◌}
use borrow.Author.Rules.{rules}
use Rattle.writing_element.proofs.write.which_pdf417.Statement.{statement}
use Rattle.writing_element.proofs.write.which_pdf417.Tie as tie

returns : tie.Need-returns-then-is_number
returns c = simp (sym c.is_number.ensures ∙ c.if-is_number.true)

returns-2 : tie.Need-returns-else-is_number
returns-2 c = simp (sym c.is_number.ensures ∙ c.if-is_number.false)

pub which_pdf417_spec : {M : Type 1} → statement M
which_pdf417_spec = tie.close (tie.spec (λ c κs. search rules) returns returns-2)
