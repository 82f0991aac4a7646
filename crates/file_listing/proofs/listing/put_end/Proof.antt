-- `file_listing::listing::put_end` meets its contract. Assumes nothing.
use mathlib.Core.Path.{refl}
use native.Mathlib.Omega.{arith}
use Rattle.text.proofs.WroteLaws.{wrote}
use Rattle.file_listing.proofs.ListingLaws.{length_pending, pending_some, pending_none}
use borrow.Author.Rules.{rules}
use Rattle.file_listing.proofs.listing.put_end.Statement.{statement}
use Rattle.file_listing.proofs.listing.put_end.Tie as tie

put-pending-requires : tie.Need-put_pending-requires
put-pending-requires c κs = omega (arith, length_pending c.args.n c.if-n-gt0.true)

returns : tie.Need-returns-then-n-gt0
returns c = let put = c in rw (pending_some put.args.n (omega arith)) put.put_pending.ensures

returns-2 : tie.Need-returns
returns-2 c = rw (pending_none c.args.n c.if-n-gt0.false) (record { wrote = wrote refl; next = omega arith })

pub put_end_spec : {M : Type 1} → statement M
put_end_spec = tie.close (tie.spec put-pending-requires (λ c. search rules) returns returns-2)
