-- `file_listing::listing::end_len` meets its contract. Assumes nothing.
use mathlib.Core.Path.{sym}
use native.Mathlib.Omega.{arith}
use Rattle.file_listing.proofs.ListingLaws.{length_pending}
use borrow.Author.Rules.{rules}
use Rattle.file_listing.proofs.listing.end_len.Statement.{statement}
use Rattle.file_listing.proofs.listing.end_len.Tie as tie

returns-2 : tie.Need-returns-else-n-eq0
returns-2 c = sym (length_pending c.args.n (omega arith))

pub end_len_spec : {M : Type 1} → statement M
end_len_spec = tie.close (tie.spec (λ c. search rules) returns-2)
