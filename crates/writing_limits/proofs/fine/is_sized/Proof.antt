-- `writing_limits::fine::is_sized` meets its contract. Assumes nothing.
use borrow.Author.Rules.{rules}
use Rattle.writing_limits.proofs.fine.is_sized.Statement.{statement}
use Rattle.writing_limits.proofs.fine.is_sized.Tie as tie

returns : tie.Need-returns-in-Font
returns c = rw (c.same_bits.ensures, c.same_bits-in-Font.ensures, c.in-Font.is)

returns-2 : tie.Need-returns-in-Outside
returns-2 c = rw c.in-Outside.is

pub is_sized_spec : {M : Type 1} → statement M
is_sized_spec =
    tie.close
    (tie.spec (λ c. search rules) (λ c κs. search rules) (λ c κs. search rules) (λ c. search rules) returns returns-2)
