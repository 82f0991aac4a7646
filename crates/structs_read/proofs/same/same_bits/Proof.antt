-- `structs_read::same::same_bits` meets its contract. Assumes nothing.
use borrow.Author.Rules.{rules}
use Rattle.structs_read.proofs.same.same_bits.Statement.{statement}
use Rattle.structs_read.proofs.same.same_bits.Tie as tie

returns : tie.Need-returns
returns c = rw (c.bits.ensures, c.bits-2.ensures) (search rules)

pub same_bits_spec : {M : Type 1} → statement M
same_bits_spec = tie.close (tie.spec (λ c κs. search rules) (λ c κs. search rules) returns)
