-- `file_listing::printing::print_listing` meets its contract. Assumes nothing.
use Rattle.file_listing.specs.Listing.{due_of}
use Rattle.file_listing.proofs.PrintingLaws.{prints_long, prints_due}
use borrow.Author.Rules.{rules}
use Rattle.file_listing.proofs.printing.print_listing.Statement.{statement}
use Rattle.file_listing.proofs.printing.print_listing.Tie as tie

returns : tie.Need-returns-then-input-gt-PROGRAM_MAX
returns c =
    let k = c in
    let t = k in
    let a = t.args in
    prints_long a.input.now a.out.now (due_of a.input.now) t.if-input-gt-PROGRAM_MAX.true k.put_answer.ensures

returns-2 : tie.Need-returns
returns-2 c =
    let q = c in
    let l = q in
    let short = l in
    let a = short.args in
    prints_due a.input.now a.out.now (due_of a.input.now) short.if-input-gt-PROGRAM_MAX.false l.list-a.ensures q.put_answer-2.ensures

pub print_listing_spec : {M : Type 1} → statement M
print_listing_spec =
    tie.close
    (tie.spec
    (λ c κs. search rules)
    (λ c. search rules)
    returns
    (λ c κs. search rules)
    (λ c κs. search rules)
    (λ c. search rules)
    returns-2)
