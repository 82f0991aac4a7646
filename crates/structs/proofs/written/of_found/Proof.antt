-- `structs::written::of_found` meets its contract: no refusal has the number 0. Assumes nothing.
use mathlib.Core.Path.{refl}
use Rattle.structs.proofs.WrittenLaws.{flat_refusal, flat_spotless}
use borrow.Author.Rules.{rules}
use Rattle.structs.proofs.written.of_found.Statement.{statement}
use Rattle.structs.proofs.written.of_found.Tie as tie

returns : tie.Need-returns-in-Number
returns c = rw c.in-Number.is (refl, refl)

returns-2 : tie.Need-returns-in-Refused
returns-2 c =
    rw (c.number.ensures, c.in-Refused.is) (flat_refusal c.in-Refused.k c.in-Refused.p, flat_spotless c.in-Refused.k c.in-Refused.p)

pub of_found_spec : {M : Type 1} → statement M
of_found_spec = tie.close (tie.spec (λ c. search rules) (λ c. search rules) (λ c κs. search rules) (λ c. search rules) returns returns-2)
