-- `writing_limits::fine::holds` meets its contract. Assumes nothing.
use mathlib.Core.Path.{◌≡◌, sym, ◌∙◌}
use Prim.Native.Nat.{ℕ, ◌+◌, ◌-◌, ◌≤◌}
use native.Mathlib.Omega.{arith}
use lib.Dec.{leb}
use borrow.Author.Tests.{le-leb, lt-leb, leb-true, leb-false}
use Rattle.text.proofs.BoolLaws.{test}
use Rattle.writing_limits.proofs.fine.holds.Statement.{statement}
use Rattle.writing_limits.proofs.fine.holds.Tie as tie

holds_is : (len start n : ℕ) → start ≤ len → leb n (len - start) ≡ leb (start + n) len
holds_is len start n h =
    test (leb n (len - start))
    (λ e. e ∙ sym (le-leb (start + n) len (omega (arith, leb-true n (len - start) e))))
    (λ e. e ∙ sym (lt-leb (start + n) len (omega (arith, leb-false n (len - start) e))))

returns : tie.Need-returns-then-len-start
returns c = sym (lt-leb (c.args.start + c.args.n) c.args.len (omega (arith, c.if-len-start.true)))

returns-2 : tie.Need-returns
returns-2 c = holds_is c.args.len c.args.start c.args.n c.if-len-start.false

pub holds_spec : {M : Type 1} → statement M
holds_spec = tie.close (tie.spec returns returns-2)
