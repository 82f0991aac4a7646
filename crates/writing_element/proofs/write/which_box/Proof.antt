-- `writing_element::write::which_box` meets its contract. Assumes nothing.
use mathlib.Core.Path.{sym, ◌∙◌}
use borrow.Author.Rules.{rules}
use Rattle.writing_element.proofs.write.which_box.Statement.{statement}
use Rattle.writing_element.proofs.write.which_box.Tie as tie

returns : tie.Need-returns-then-is_line
returns c = simp (sym c.is_line.ensures ∙ c.if-is_line.true)

returns-2 : tie.Need-returns-else-is_line
returns-2 c = simp (sym c.is_line.ensures ∙ c.if-is_line.false)

pub which_box_spec : {M : Type 1} → statement M
which_box_spec = tie.close (tie.spec (λ c κs. search rules) returns returns-2)
