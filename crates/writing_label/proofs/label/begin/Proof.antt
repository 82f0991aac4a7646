-- `writing_label::label::begin` meets its contract. Assumes nothing.
use lib.ListN.{length}
use borrow.Author.Tests.{le-leb, lt-leb}
use borrow.Author.Rules.{rules}
use Rattle.writing_label.proofs.label.begin.Statement.{statement}
use Rattle.writing_label.proofs.label.begin.Tie as tie

returns : tie.Need-returns-then-out-ge2
returns c = rw c.in-Bytes.is (simp (le-leb 2 (length c.args.out.now) c.if-out-ge2.true))

returns-2 : tie.Need-returns-else-out-ge2
returns-2 c = rw c.in-Bytes.is (simp (lt-leb 2 (length c.args.out.now) c.if-out-ge2.false))

returns-3 : tie.Need-returns-in-Refused
returns-3 c = rw c.in-Refused.is

pub begin_spec : {M : Type 1} → statement M
begin_spec =
    tie.close
    (tie.spec
    (λ c. search rules)
    (λ c. search rules)
    (λ c. search rules)
    (λ c. search rules)
    (λ c. search rules)
    returns
    returns-2
    returns-3)
