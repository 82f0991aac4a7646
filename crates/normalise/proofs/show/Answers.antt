-- `normalise::show` meets its contract: its first buffer holds one byte more than an input may have, its second as many
-- as their normalised text may have. Assumes nothing.
use Rattle.std.proofs.Common.{arith}
use Rattle.file_listing.proofs.PrintingProgramLaws.{shows}
use Rattle.format.specs.Normalise.{due_of}
use Rattle.normalise.proofs.PrintedLaws.{normalised_room}
use Rattle.normalise.proofs.show.Goals as goal

pub returns : goal.returns
returns c =
    let a = c.args in
    shows due_of a.input.now a.out.now (omega arith) (omega arith) (λ s h t e. omega (arith, normalised_room s h t e)) a.n (rw c.first.ensures at c.print_normalised.ensures)
