-- `writing_label::tally::onto` meets its contract. Assumes nothing.
use Prim.Native.Nat.{◌-◌}
use borrow.Author.Tests.{le-leb, lt-leb}
use borrow.Author.Rules.{rules}
use Rattle.writing_label.proofs.tally.onto.Statement.{statement}
use Rattle.writing_label.proofs.tally.onto.Tie as tie

returns : tie.Need-returns-then-n-a
returns c = simp (le-leb c.args.n (18446744073709551615 - c.args.a) c.if-n-a.true)

returns-2 : tie.Need-returns-else-n-a
returns-2 c = simp (lt-leb c.args.n (18446744073709551615 - c.args.a) c.if-n-a.false)

pub onto_spec : {M : Type 1} → statement M
onto_spec = tie.close (tie.spec (λ c. search rules) (λ c. search rules) returns returns-2)
