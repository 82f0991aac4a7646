-- `structs_read::element::qr_of` meets its contract. Assumes nothing.
use borrow.Author.Rules.{rules}
use Rattle.structs_read.proofs.element.qr_of.Statement.{statement}
use Rattle.structs_read.proofs.element.qr_of.Tie as tie

returns : tie.Need-returns
returns c = rw (c.at-position.ensures, c.span-data.ensures, c.level_of-error_correction.ensures) (search rules)

pub qr_of_spec : {M : Type 1} → statement M
qr_of_spec = tie.close (tie.spec (λ c κs. search rules) (λ c κs. search rules) (λ c κs. search rules) returns)
