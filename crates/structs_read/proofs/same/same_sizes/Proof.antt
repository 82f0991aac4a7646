-- `structs_read::same::same_sizes` meets its contract. Assumes nothing.
use borrow.Author.Rules.{rules}
use Rattle.structs_read.proofs.same.same_sizes.Statement.{statement}
use Rattle.structs_read.proofs.same.same_sizes.Tie as tie

returns : tie.Need-returns
returns c = rw (c.same_bits.ensures, c.same_bits-2.ensures, c.same_bits-3.ensures) (search rules)

pub same_sizes_spec : {M : Type 1} → statement M
same_sizes_spec =
    tie.close (tie.spec (λ c κs. search rules) (λ c κs. search rules) (λ c κs. search rules) returns)
