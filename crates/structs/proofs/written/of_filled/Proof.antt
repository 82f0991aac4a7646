-- `structs::written::of_filled` meets its contract: no refusal has the number 0. Assumes nothing.
use Rattle.structs.proofs.WrittenLaws.{flat_refusal}
use borrow.Author.Rules.{rules}
use Rattle.structs.proofs.written.of_filled.Statement.{statement}
use Rattle.structs.proofs.written.of_filled.Tie as tie

returns : tie.Need-returns-in-Bytes
returns c = rw c.in-Bytes.is

returns-2 : tie.Need-returns-in-Refused
returns-2 c = rw (c.number.ensures, c.in-Refused.is) (flat_refusal c.in-Refused.k c.in-Refused.p)

pub of_filled_spec : {M : Type 1} → statement M
of_filled_spec = tie.close (tie.spec (λ c. search rules) (λ c. search rules) (λ c κs. search rules) (λ c. search rules) returns returns-2)
