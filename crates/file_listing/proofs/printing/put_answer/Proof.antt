-- `file_listing::printing::put_answer` meets its contract. Assumes nothing.
use borrow.Author.Rules.{rules}
use Rattle.file_listing.proofs.PrintingLaws.{prints_refusal, prints_nothing}
use Rattle.file_listing.proofs.printing.put_answer.Statement.{statement}
use Rattle.file_listing.proofs.printing.put_answer.Tie as tie

returns : tie.Need-returns-then-out-lt13
returns c =
    let refused = c in
    rw refused.in-Refused.is (prints_nothing refused.args.out.now _ _ c.if-out-lt13.true)

returns-3 : tie.Need-returns-else-out-lt13
returns-3 c =
    let q = c in
    let e = q in
    rw e.in-Refused.is (prints_refusal e.if-out-lt13.false (rw q.number.ensures at q.put_refusal.ensures))

pub put_answer_spec : {M : Type 1} → statement M
put_answer_spec =
    tie.close
    (tie.spec
    (λ c. search rules)
    (λ c. search rules)
    returns
    (λ c κs. search rules)
    (λ c κs. search rules)
    (λ c. search rules)
    (λ c. search rules)
    returns-3)
