-- `normalise::print_normalised` meets its contract. Assumes nothing.
use Rattle.file_listing.proofs.PrintingLaws.{prints_long, prints_due}
use Rattle.format.specs.Normalise.{due_of}
use borrow.Author.Rules.{rules}
use Rattle.normalise.proofs.print_normalised.Statement.{statement}
use Rattle.normalise.proofs.print_normalised.Tie as tie

returns : tie.Need-returns-then-input-gt-PROGRAM_MAX
returns c =
    let put = c in
    let long = put in
    let a = long.args in
    prints_long a.input.now a.out.now (due_of a.input.now) long.if-input-gt-PROGRAM_MAX.true put.put_answer.ensures

returns-2 : tie.Need-returns
returns-2 c =
    let put = c in
    let written = put in
    let fits = written in
    let a = fits.args in
    prints_due a.input.now a.out.now (due_of a.input.now) fits.if-input-gt-PROGRAM_MAX.false written.normalise-a.ensures put.put_answer-2.ensures

pub print_normalised_spec : {M : Type 1} → statement M
print_normalised_spec =
    tie.close (tie.spec (λ c κs. search rules) (λ c. search rules)
    returns (λ c κs. search rules) (λ c κs. search rules) (λ c. search rules)
    returns-2)
