-- `list::show` meets its contract: its first buffer holds one byte more than an input may have, its second 16 for each
-- of them. Assumes nothing.
use Rattle.std.proofs.Common.{arith}
use Rattle.file_listing.specs.Listing.{due_of}
use Rattle.file_listing.proofs.PrintingProgramLaws.{shows, listing_room}
use Rattle.list.proofs.show.Goals as goal

pub returns : goal.returns
returns c =
    let a = c.args in
    shows due_of a.input.now a.out.now (omega arith) (omega arith) (λ s h t e. omega (arith, listing_room s h t e)) a.n (rw c.first.ensures at c.print_listing.ensures)
