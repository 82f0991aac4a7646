-- `structs_read::element::text_of` meets its contract. Assumes nothing.
use borrow.Author.Rules.{rules}
use Rattle.structs_read.proofs.element.text_of.Statement.{statement}
use Rattle.structs_read.proofs.element.text_of.Tie as tie

returns : tie.Need-returns
returns c = rw (c.at-position.ensures, c.scale_of-scale.ensures, c.font_of-font.ensures, c.span-text.ensures) (search rules)

pub text_of_spec : {M : Type 1} → statement M
text_of_spec =
    tie.close (tie.spec (λ c κs. search rules) (λ c κs. search rules) (λ c κs. search rules) (λ c κs. search rules) returns)
