-- `structs::written::of_indexed` meets its contract: no refusal has the number 0. Assumes nothing.
use Rattle.structs.proofs.WrittenLaws.{flat_uncounted}
use borrow.Author.Rules.{rules}
use Rattle.structs.proofs.written.of_indexed.Statement.{statement}
use Rattle.structs.proofs.written.of_indexed.Tie as tie

returns : tie.Need-returns-in-Labels
returns c = rw c.in-Labels.is

returns-2 : tie.Need-returns-in-Refused
returns-2 c = rw (c.number.ensures, c.in-Refused.is) (flat_uncounted c.in-Refused.k c.in-Refused.p)

pub of_indexed_spec : {M : Type 1} → statement M
of_indexed_spec = tie.close (tie.spec (λ c. search rules) (λ c. search rules) (λ c κs. search rules) (λ c. search rules) returns returns-2)
