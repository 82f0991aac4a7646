-- `structs::answer::printed` meets its contract. Assumes nothing.
use Rattle.numbers.proofs.IntLaws.{back32}
use borrow.Author.Rules.{rules}
use Rattle.structs.proofs.answer.printed.Statement.{statement}
use Rattle.structs.proofs.answer.printed.Tie as tie

returns : tie.Need-returns
returns c =
    let n = c in
    let q = n.args.counts in
    rw (n.nothing-element.ensures, back32 q.sets c.struct_told-1.given.0.1, back32 q.copies c.struct_told-1.given.1.0.1)

pub printed_spec : {M : Type 1} → statement M
printed_spec = tie.close (tie.spec (λ c κs. search rules) returns)
