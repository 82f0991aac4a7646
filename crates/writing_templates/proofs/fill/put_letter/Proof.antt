-- `writing_templates::fill::put_letter` meets its contract. Assumes nothing.
use mathlib.Core.Path.{ap}
use native.Mathlib.Omega.{arith}
use lib.ListN.{length}
use borrow.Author.Tests.{eq-eqb}
use Rattle.writing_templates.proofs.FillLaws.{some_letter, put_none, put_byte}
use borrow.Author.Rules.{rules}
use Rattle.writing_templates.proofs.fill.put_letter.Statement.{statement}
use Rattle.writing_templates.proofs.fill.put_letter.Tie as tie

returns : tie.Need-returns-then-b-eq0
returns c =
    let a = c in
    put_none a.args.out.now a.args.at (simp (eq-eqb a.args.b 0 c.if-b-eq0.true))

slice-write-out : tie.Need-bounds-out-at
slice-write-out c =
    let a = c in
    omega (arith, a.requires, ap length (some_letter a.args.b c.if-b-eq0.false))

returns-2 : tie.Need-returns
returns-2 c =
    let a = c in
    put_byte a.args.out.now a.args.at a.args.b (some_letter a.args.b c.if-b-eq0.false)

pub put_letter_spec : {M : Type 1} → statement M
put_letter_spec = tie.close (tie.spec returns slice-write-out (λ c. search rules) (λ c. search rules) returns-2)
